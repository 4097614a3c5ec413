-- Rows whose codes are equal and all tell their columns show the same.
use Rattle.std.proofs.Common.{◌≡◌, ℕ, ◌+◌, ◌*◌, ◌-◌, ◌/◌, ◌%◌, ◌≤◌, ◌<◌, Bool, true}
use Rattle.std.proofs.Common.{false, not, ◌&&◌, nat_eq, nat_le, nat_lt, if◌then◌else◌, List, [], ◌∷◌, ◌++◌, length}
use Rattle.std.proofs.Common.{take, drop, set, get_or, zero, suc, refl, ap, sym, ◌∙◌, append_assoc, length-append, below_more, min, inl, inr, arith}
use Rattle.std.proofs.lemmas.Bool.{cases_lt}
use lib.Bits.{bit_or, bit_xor, xor_assoc, xor_self, xor_zero_l, xor_zero_r}
use Rattle.std.specs.List.{list_all}
use Rattle.std.proofs.lemmas.List.{same_lists, drop_more, get_or-drop, get_or-map, length-drop, length-map}
use Rattle.std.proofs.lemmas.List.{length-take-le, map-append, set_at, take_more, take-map, take_all}
use Rattle.std.proofs.lemmas.List.{drop-map}
use Rattle.std.proofs.lemmas.Bool.Decides.{nat_tests}
use Rattle.std.proofs.lemmas.Nat.{le_or_l, le_or_r}
use Rattle.std.proofs.lemmas.Grind.{get_or_default_zero}
use Rattle.bx_grid.specs.Columns.{Col, Unknown, Glyph, col_eq, are_equal}
use Rattle.bx_grid.specs.Grid.{paste}
use Rattle.bx_grid.specs.Codes.{is_byte, is_short, packed, no_code, is_code, code_in, code_of, codes_of, columns_in, offset_in, are_same_code}
use Rattle.bx_grid.specs.Glyphs.{BeginAlike}
use Rattle.bx_grid.specs.Seen.{seen, all_seen}
use Rattle.bx_grid.specs.declared.column.Column.{Column}
use Rattle.bx_grid.proofs.Equal.{are_equal_refl, lists_are, col_is}
use Rattle.bx_grid.proofs.Pasted.{paste_around, three_parts}
use Rattle.bx_grid.proofs.Reading.{and_left, and_right}

-- ---- a code tells its column

packed_some : (bs : List ℕ) → 1 ≤ packed bs
packed_some [] = omega arith
packed_some (b ∷ bs) = omega (arith, packed_some bs)

byte_low : (b : ℕ) → is_byte b ≡ true → b < 256
byte_low b h = grind (arith, nat_tests)

cons_is : {A : Type 0} (x y : A) (xs ys : List A) → x ≡ y → xs ≡ ys → x ∷ xs ≡ y ∷ ys
cons_is x y xs ys e f = rw (e, f) refl

split_byte : (n m x y : ℕ) → n * 256 + x ≡ m * 256 + y → x < 256 → y < 256 → (n ≡ m) × (x ≡ y)
split_byte n m x y e lx ly = (omega arith, omega arith)

-- the number tells the bytes
packed_tells : (xs ys : List ℕ) → list_all is_byte xs ≡ true → list_all is_byte ys ≡ true → packed xs ≡ packed ys → xs ≡ ys
packed_tells [] [] a b e = refl
packed_tells [] (y ∷ ys) a b e = absurd (omega (arith, e, packed_some ys))
packed_tells (x ∷ xs) [] a b e = absurd (omega (arith, e, packed_some xs))
packed_tells (x ∷ xs) (y ∷ ys) a b e =
    let parts = split_byte (packed xs) (packed ys) x y e (byte_low x (and_left (is_byte x) (list_all is_byte xs) a))
    (byte_low y (and_left (is_byte y) (list_all is_byte ys) b)) in
    cons_is x y xs ys parts.1 (packed_tells xs ys (and_right (is_byte x) (list_all is_byte xs) a) (and_right (is_byte y) (list_all is_byte ys) b) parts.0)

abbrev flag : Bool → ℕ
flag negative = if negative then 1 else 0

-- the parts of a code
code_parts : (n m c d o p x y : ℕ) → ((n * 4 + c) * 4 + o) * 2 + x ≡ ((m * 4 + d) * 4 + p) * 2 + y → c < 4 → d < 4 → o < 4 → p < 4 → x ≤ 1 → y ≤ 1
    → (n ≡ m) × (c ≡ d) × (o ≡ p) × (x ≡ y)
code_parts n m c d o p x y e lc ld lo lp lx ly =
    let first : x ≡ y = omega arith in
    let second : (n * 4 + c) * 4 + o ≡ (m * 4 + d) * 4 + p = omega arith in
    let third : o ≡ p = omega arith in
    let fourth : n * 4 + c ≡ m * 4 + d = omega arith in
    (omega arith, omega arith, third, first)

flag_low : (a : Bool) → flag a ≤ 1
flag_low true = omega arith
flag_low false = omega arith

flag_is : (a b : Bool) → flag a ≡ flag b → a ≡ b
flag_is true true e = refl
flag_is true false e = absurd (omega (arith, e))
flag_is false true e = absurd (omega (arith, e))
flag_is false false e = refl

abbrev fits : List ℕ → ℕ → ℕ → Bool
fits text columns offset = (nat_lt columns 4 && nat_lt offset 4) && is_short text

record IsTold (text : List ℕ) (columns offset : ℕ) (negative : Bool) : Type 0 where
  narrow : columns < 4
  near : offset < 4
  bytes : list_all is_byte text ≡ true
  code : code_of (Glyph text columns offset negative) ≡ code_in (packed text) columns offset negative

none_is : is_code no_code ≡ true → ⊥
none_is h = cc h

told_by : (t : Bool) (text : List ℕ) (columns offset : ℕ) (negative : Bool) → fits text columns offset ≡ t
    → is_code (if t then code_in (packed text) columns offset negative else no_code) ≡ true → IsTold text columns offset negative
told_by false text columns offset negative e h = absurd (none_is h)
told_by true text columns offset negative e h =
    let low = and_left (nat_lt columns 4 && nat_lt offset 4) (is_short text) e in
    let c : nat_lt columns 4 ≡ true = and_left (nat_lt columns 4) (nat_lt offset 4) low in
    let o : nat_lt offset 4 ≡ true = and_right (nat_lt columns 4) (nat_lt offset 4) low in
    let s : is_short text ≡ true = and_right (nat_lt columns 4 && nat_lt offset 4) (is_short text) e in
    record {
      narrow = grind (arith, nat_tests);
      near = grind (arith, nat_tests);
      bytes = and_right (nat_le (length text) 7) (list_all is_byte text) s;
      code = rw e refl;
    }

glyphs_same : (a b : List ℕ) (n m i j : ℕ) (x y : Bool) → IsTold a n i x → IsTold b m j y → code_of (Glyph a n i x) ≡ code_of (Glyph b m j y)
    → Glyph a n i x ≡ Glyph b m j y
glyphs_same a b n m i j x y ta tb e =
    let same : code_in (packed a) n i x ≡ code_in (packed b) m j y = sym ta.code ∙ e ∙ tb.code in
    let parts = code_parts (packed a) (packed b) n m i j (flag x) (flag y) same ta.narrow tb.narrow ta.near tb.near (flag_low x) (flag_low y) in
    rw (packed_tells a b ta.bytes tb.bytes parts.0, parts.1, parts.2, flag_is x y parts.3) refl

code_same : (x y : Col) → code_of x ≡ code_of y → is_code (code_of x) ≡ true → x ≡ y
code_same Unknown y e h = absurd (none_is h)
code_same (Glyph a n i x) Unknown e h = absurd (none_is (ap is_code (sym e) ∙ h))
code_same (Glyph a n i x) (Glyph b m j y) e h =
    glyphs_same a b n m i j x y (told_by (fits a n i) a n i x refl h) (told_by (fits b m j) b m j y refl (ap is_code (sym e) ∙ h)) e

head_is : (a b : ℕ) (rest others : List ℕ) → a ∷ rest ≡ b ∷ others → (a ≡ b) × (rest ≡ others)
head_is a b rest others h = (cc h, cc h)

rows_same : (xs ys : List Col) → codes_of xs ≡ codes_of ys → list_all is_code (codes_of xs) ≡ true → xs ≡ ys
rows_same [] [] e h = refl
rows_same [] (y ∷ ys) e h = absurd (cc e)
rows_same (x ∷ xs) [] e h = absurd (cc e)
rows_same (x ∷ xs) (y ∷ ys) e h =
    let parts = head_is (code_of x) (code_of y) (codes_of xs) (codes_of ys) e in
    cons_is x y xs ys (code_same x y parts.0 (and_left (is_code (code_of x)) (list_all is_code (codes_of xs)) h))
    (rows_same xs ys parts.1 (and_right (is_code (code_of x)) (list_all is_code (codes_of xs)) h))

pub same_by_codes : (xs ys : List Col) (a b : List ℕ) → a ≡ codes_of xs → b ≡ codes_of ys → a ≡ b → list_all is_code a ≡ true
    → are_equal xs ys ≡ true
same_by_codes xs ys a b ea eb e h =
    let same = rows_same xs ys (sym ea ∙ e ∙ eb) (ap (list_all is_code) (sym ea) ∙ h) in
    rw same (are_equal_refl ys)

told_columns : (n c o x : ℕ) → c < 4 → o < 4 → x ≤ 1 → (((((n * 4 + c) * 4 + o) * 2 + x) / 8) % 4) ≡ c
told_columns n c o x lc lo lx = omega arith

told_offset : (n c o x : ℕ) → c < 4 → o < 4 → x ≤ 1 → (((((n * 4 + c) * 4 + o) * 2 + x) / 2) % 4) ≡ o
told_offset n c o x lc lo lx = omega arith

same_told : (x y : Col) (a b : ℕ) → a ≡ code_of x → b ≡ code_of y → are_same_code a b ≡ true → (x ≡ y) × (is_code (code_of x) ≡ true)
same_told x y a b ea eb h =
    let same : nat_eq a b ≡ true = and_left (nat_eq a b) (is_code a) h in
    let code : is_code a ≡ true = and_right (nat_eq a b) (is_code a) h in
    let equal : a ≡ b = grind (arith, nat_tests) in
    let told : is_code (code_of x) ≡ true = ap is_code (sym ea) ∙ code in
    (code_same x y (sym ea ∙ equal ∙ eb) told, told)

-- a column that is not its glyph's first
alike_inside : (x : Col) (xs ys : List Col) → is_code (code_of x) ≡ true → 0 < offset_in (code_of x) → BeginAlike (x ∷ xs) (x ∷ ys)
alike_inside Unknown xs ys h some = tt
alike_inside (Glyph text columns offset negative) xs ys h some = λ none.
    let told = told_by (fits text columns offset) text columns offset negative refl h in
    let is : offset_in (code_of (Glyph text columns offset negative)) ≡ offset =
    ap offset_in told.code ∙ told_offset (packed text) columns offset (flag negative) told.narrow told.near (flag_low negative) in
    absurd (omega (arith, is, none, some))

count_is : (text : List ℕ) (columns offset n : ℕ) (negative : Bool) → is_code (code_of (Glyph text columns offset negative)) ≡ true
    → columns_in (code_of (Glyph text columns offset negative)) ≡ n → columns ≡ n
count_is text columns offset n negative h e =
    let told = told_by (fits text columns offset) text columns offset negative refl h in
    let here : columns_in (code_in (packed text) columns offset negative) ≡ n = ap columns_in (sym told.code) ∙ e in
    sym (told_columns (packed text) columns offset (flag negative) told.narrow told.near (flag_low negative)) ∙ here

-- a glyph of one column, and one of two
alike_narrow : (x : Col) (xs ys : List Col) → is_code (code_of x) ≡ true → columns_in (code_of x) ≡ 1 → BeginAlike (x ∷ xs) (x ∷ ys)
alike_narrow Unknown xs ys h e = tt
alike_narrow (Glyph text columns offset negative) xs ys h e = λ first.
    let one : columns ≡ 1 = count_is text columns offset 1 negative h e in
    rw one refl

alike_wide : (x z : Col) (xs ys : List Col) → is_code (code_of x) ≡ true → columns_in (code_of x) ≡ 2 → BeginAlike (x ∷ z ∷ xs) (x ∷ z ∷ ys)
alike_wide Unknown z xs ys h e = tt
alike_wide (Glyph text columns offset negative) z xs ys h e = λ first.
    let two : columns ≡ 2 = count_is text columns offset 2 negative h e in
    rw two refl

-- two rows, compared by their codes at an index
pub inside_told : (xs ys : List Col) (i a b : ℕ) → i < length xs → i < length ys → a ≡ code_of (get_or xs i Unknown) → b ≡ code_of (get_or ys i Unknown)
    → are_same_code a b ≡ true → 0 < offset_in a → BeginAlike (drop i xs) (drop i ys)
inside_told xs ys i a b low also ea eb h some =
    let same = same_told (get_or xs i Unknown) (get_or ys i Unknown) a b ea eb h in
    rw (drop_more xs i Unknown low, drop_more ys i Unknown also, ← same.0)
    (alike_inside (get_or xs i Unknown) (drop (i + 1) xs) (drop (i + 1) ys) same.1 (rw (← ea) some))

pub narrow_told : (xs ys : List Col) (i a b : ℕ) → i < length xs → i < length ys → a ≡ code_of (get_or xs i Unknown) → b ≡ code_of (get_or ys i Unknown)
    → are_same_code a b ≡ true → columns_in a ≡ 1 → BeginAlike (drop i xs) (drop i ys)
narrow_told xs ys i a b low also ea eb h one =
    let same = same_told (get_or xs i Unknown) (get_or ys i Unknown) a b ea eb h in
    rw (drop_more xs i Unknown low, drop_more ys i Unknown also, ← same.0)
    (alike_narrow (get_or xs i Unknown) (drop (i + 1) xs) (drop (i + 1) ys) same.1 (rw (← ea) one))

pub wide_told : (xs ys : List Col) (i a b a' b' : ℕ) → i + 1 < length xs → i + 1 < length ys → a ≡ code_of (get_or xs i Unknown)
    → b ≡ code_of (get_or ys i Unknown) → a' ≡ code_of (get_or xs (i + 1) Unknown) → b' ≡ code_of (get_or ys (i + 1) Unknown)
    → are_same_code a b ≡ true → are_same_code a' b' ≡ true → columns_in a ≡ 2 → BeginAlike (drop i xs) (drop i ys)
wide_told xs ys i a b a' b' low also ea eb ea' eb' h g two =
    let same = same_told (get_or xs i Unknown) (get_or ys i Unknown) a b ea eb h in
    let next = same_told (get_or xs (i + 1) Unknown) (get_or ys (i + 1) Unknown) a' b' ea' eb' g in
    rw (
      drop_more xs i Unknown (omega (arith, low)),
      drop_more ys i Unknown (omega (arith, also)),
      drop_more xs (i + 1) Unknown low,
      drop_more ys (i + 1) Unknown also,
      ← same.0,
      ← next.0,
    )
    (alike_wide (get_or xs i Unknown) (get_or xs (i + 1) Unknown) (drop (i + 1 + 1) xs) (drop (i + 1 + 1) ys) same.1 (rw (← ea) two))

-- the code at an index
pub code_at : (columns : List Column) (codes : List ℕ) (i : ℕ) (d : ℕ) → codes ≡ codes_of (all_seen columns) → i < length (all_seen columns)
    → get_or codes i d ≡ code_of (get_or (all_seen columns) i Unknown)
code_at columns codes i d e inside = ap (λ xs. get_or xs i d) e ∙ get_or-map code_of (all_seen columns) i Unknown d inside

equal_by : (t : Bool) (xs ys : List Col) → are_equal xs ys ≡ t → (xs ≡ ys → ⊥) → are_equal xs ys ≡ false
equal_by true xs ys e h = absurd (h (lists_are xs ys e))
equal_by false xs ys e h = e

-- columns whose codes differ are not the same
pub differ_by_codes : (xs ys : List Col) (a b : List ℕ) → a ≡ codes_of xs → b ≡ codes_of ys → (a ≡ b → ⊥) → false ≡ are_equal xs ys
differ_by_codes xs ys a b ea eb h = sym (equal_by (are_equal xs ys) xs ys refl (λ e. h (ea ∙ ap codes_of e ∙ sym eb)))

pub as_many : (xs ys : List Column) (a b : List ℕ) → length xs ≡ length ys → a ≡ codes_of (all_seen xs) → b ≡ codes_of (all_seen ys) → length a ≡ length b
as_many xs ys a b len ea eb =
    ap length ea ∙ length-map (all_seen xs) code_of ∙ length-map xs seen ∙ len ∙ sym (ap length eb ∙ length-map (all_seen ys) code_of ∙ length-map ys seen)

unequal_by : (t : Bool) (x y : Col) → col_eq x y ≡ t → (x ≡ y → ⊥) → col_eq x y ≡ false
unequal_by true x y e h = absurd (h (col_is x y e))
unequal_by false x y e h = e

codes_apart : (a b : ℕ) → not (nat_eq a b) ≡ true → a ≡ b → ⊥
codes_apart a b h e = grind (arith, nat_tests)

first_apart : (xs ys : List Col) → not (nat_eq (get_or (codes_of xs) 0 0) (get_or (codes_of ys) 0 0)) ≡ true → (n : ℕ) → 0 < n
    → are_equal (take n xs) (take n ys) ≡ false
first_apart xs ys h zero some = absurd (omega arith)
first_apart [] [] h (suc n) some = absurd (cc h)
first_apart [] (y ∷ ys) h (suc n) some = refl
first_apart (x ∷ xs) [] h (suc n) some = refl
first_apart (x ∷ xs) (y ∷ ys) h (suc n) some =
    let differ : col_eq x y ≡ false = unequal_by (col_eq x y) x y refl (λ e. codes_apart (code_of x) (code_of y) h (ap code_of e)) in
    rw differ refl

-- columns whose first codes differ
pub begin_otherwise : (xs ys : List Col) (codes others : List ℕ) → codes ≡ codes_of xs → others ≡ codes_of ys
    → not (nat_eq (get_or codes 0 0) (get_or others 0 0)) ≡ true → (n : ℕ) → 0 < n → are_equal (take n xs) (take n ys) ≡ false
begin_otherwise xs ys codes others ea eb h = first_apart xs ys (rw (ea, eb) at h)

-- ---- the codes of a part of a row

pub take_codes : (k : ℕ) (columns : List Column) (codes : List ℕ) → codes ≡ codes_of (all_seen columns) → take k codes ≡ codes_of (all_seen (take k columns))
take_codes k columns codes e = ap (take k) e ∙ take-map code_of k (all_seen columns) ∙ ap codes_of (take-map seen k columns)

pub drop_codes : (k : ℕ) (columns : List Column) (codes : List ℕ) → codes ≡ codes_of (all_seen columns) → drop k codes ≡ codes_of (all_seen (drop k columns))
drop_codes k columns codes e = ap (drop k) e ∙ drop-map code_of k (all_seen columns) ∙ ap codes_of (drop-map seen k columns)

pub take_min : {A : Type 0} (n : ℕ) (xs : List A) → take (min (length xs) n) xs ≡ take n xs
take_min n xs = elim (cases_lt n (length xs)) [
  | inl small ↦ (let e : min (length xs) n ≡ n = omega arith in rw e refl)
  | inr large ↦ (let e : min (length xs) n ≡ length xs = omega arith in rw e (take_all (length xs) xs (omega arith) ∙ sym (take_all n xs large)))
]

-- ---- codes compared by their bits

-- equal numbers have no bit in which they differ
pub none_differ : (xs ys : List ℕ) (i differing : ℕ) → (xs ≡ ys → differing ≡ 0) → xs ≡ ys
    → bit_or differing (bit_xor (get_or xs i 0) (get_or ys i 0)) ≡ 0
none_differ xs ys i differing h e =
    ap (λ zs. bit_or differing (bit_xor (get_or zs i 0) (get_or ys i 0))) e
    ∙ ap (bit_or differing) (xor_self (get_or ys i 0))
    ∙ ap (λ n. bit_or n 0) (h e)

-- numbers whose bits do not differ
pub xor_tells : (a b : ℕ) → bit_xor a b ≡ 0 → a ≡ b
xor_tells a b h =
    sym (xor_zero_r a) ∙ ap (bit_xor a) (sym (xor_self b)) ∙ sym (xor_assoc a b b) ∙ ap (λ n. bit_xor n b) h ∙ xor_zero_l b

all_codes : (xs : List ℕ) → ((k : ℕ) → k < length xs → get_or xs k 0 < no_code) → list_all is_code xs ≡ true
all_codes [] h = refl
all_codes (x ∷ xs) h =
    let low : x < no_code = h 0 (omega arith) in
    let here : is_code x ≡ true = grind (arith, nat_tests) in
    rw here (all_codes xs (λ k inside. h (suc k) (omega arith)))

-- bits that were met stay
pub below_or : (f : ℕ → ℕ) (i all : ℕ) → ((k : ℕ) → k < i → f k ≤ all) → (k : ℕ) → k < i + 1 → f k ≤ bit_or all (f i)
below_or f i all h = below_more (λ k. f k ≤ bit_or all (f i)) i
    (λ k low. let a : f k ≤ all = h k low in let b : all ≤ bit_or all (f i) = le_or_l all (f i) in omega arith)
    (le_or_r all (f i))

pub codes_told : (xs : List ℕ) (all : ℕ) → ((k : ℕ) → k < length xs → get_or xs k 0 ≤ all) → all < no_code → list_all is_code xs ≡ true
codes_told xs all h low = all_codes xs (λ k inside. let le : get_or xs k 0 ≤ all = h k inside in omega arith)

pub codes_equal : (xs ys : List ℕ) (differing : ℕ) → length xs ≡ length ys → ((k : ℕ) → k < length xs → bit_xor (get_or xs k 0) (get_or ys k 0) ≤ differing)
    → differing ≡ 0 → xs ≡ ys
codes_equal xs ys differing len h none =
    same_lists xs ys len (λ k d inside.
    let small : bit_xor (get_or xs k 0) (get_or ys k 0) ≤ differing = h k inside in
    let zero_bits : bit_xor (get_or xs k 0) (get_or ys k 0) ≡ 0 = omega arith in
    get_or_default_zero xs k d inside ∙ xor_tells (get_or xs k 0) (get_or ys k 0) zero_bits ∙ sym (get_or_default_zero ys k d (omega (arith, len))))

-- ---- codes noted column by column

pub note_more : (codes start : List ℕ) (columns : List Col) (from i to : ℕ) (x : Col) → from ≤ i → i < to → to ≤ length columns → length start ≡ length columns
    → x ≡ get_or columns i x
    → codes ≡ take from start ++ (codes_of (take (i - from) (drop from columns)) ++ drop i start)
    → set codes i (code_of x) ≡ take from start ++ (codes_of (take (i + 1 - from) (drop from columns)) ++ drop (i + 1) start)
note_more codes start columns from i to x low inside fits same is e =
    let rest = drop from columns in
    let j : ℕ = i - from in
    let noted = codes_of (take j rest) in
    let few : j < length rest = omega (arith, length-drop from columns) in
    let front : length (take from start ++ noted) ≡ i =
    length-append (take from start) noted
    ∙ omega (arith, length-take-le from start (omega (arith, same)), length-map (take j rest) code_of, length-take-le j rest (omega (arith, few))) in
    let next : get_or rest j x ≡ x = get_or-drop from columns j x ∙ ap (λ n. get_or columns n x) (omega arith) ∙ sym is in
    let one : codes_of (take (i + 1 - from) rest) ≡ noted ++ code_of x ∷ [] =
    ap (λ n. codes_of (take n rest)) (let m : i + 1 - from ≡ j + 1 = omega arith in m)
    ∙ ap codes_of (take_more rest j x few) ∙ map-append code_of (take j rest) (get_or rest j x ∷ [])
    ∙ ap (λ y. noted ++ code_of y ∷ []) next in
    ap (λ ls. set ls i (code_of x)) (e ∙ sym (append_assoc (take from start) noted (drop i start))
    ∙ ap (λ ls. (take from start ++ noted) ++ ls) (drop_more start i 0 (omega (arith, same))))
    ∙ set_at (take from start ++ noted) (get_or start i 0) (drop (i + 1) start) (code_of x) i front
    ∙ append_assoc (take from start) noted (code_of x ∷ drop (i + 1) start)
    ∙ ap (λ ls. take from start ++ ls) (sym (append_assoc noted (code_of x ∷ []) (drop (i + 1) start)) ∙ ap (λ ls. ls ++ drop (i + 1) start) (sym one))

-- ---- codes noted where columns were pasted

put_codes : (old news : List Col) (codes : List ℕ) (k n : ℕ) → codes ≡ codes_of old → length news ≡ n → k + n ≤ length old
    → take k codes ++ (codes_of (take n (drop k (paste old k news))) ++ drop (k + n) codes) ≡ codes_of (paste old k news)
put_codes old news codes k n e len fits =
    let new = paste old k news in
    let mid = take n (drop k new) in
    let same = paste_around old news k n (omega (arith, len)) fits in
    let front : take k codes ≡ codes_of (take k new) = ap (take k) e ∙ take-map code_of k old ∙ ap codes_of (sym same.before) in
    let back : drop (k + n) codes ≡ codes_of (drop (k + n) new) = ap (drop (k + n)) e ∙ drop-map code_of (k + n) old ∙ ap codes_of (sym same.after) in
    ap (λ ls. ls ++ (codes_of mid ++ drop (k + n) codes)) front
    ∙ ap (λ ls. codes_of (take k new) ++ (codes_of mid ++ ls)) back
    ∙ ap (λ ls. codes_of (take k new) ++ ls) (sym (map-append code_of mid (drop (k + n) new)))
    ∙ sym (map-append code_of (take k new) (mid ++ drop (k + n) new))
    ∙ ap codes_of (sym (three_parts new k n))

-- the codes after a glyph was put, as the program notes them
pub noted : (old new news : List Col) (before after : List ℕ) (from to n : ℕ) → before ≡ codes_of old → new ≡ paste old from news → length news ≡ n
    → to ≡ from + n → to ≤ length old → after ≡ take from before ++ (codes_of (take (to - from) (drop from new)) ++ drop to before) → after ≡ codes_of new
noted old new news before after from to n e is len at fits h =
    let count : to - from ≡ n = omega (arith, at) in
    h
    ∙ ap (λ m. take from before ++ (codes_of (take m (drop from new)) ++ drop to before)) count
    ∙ ap (λ m. take from before ++ (codes_of (take n (drop from new)) ++ drop m before)) at
    ∙ ap (λ cs. take from before ++ (codes_of (take n (drop from cs)) ++ drop (from + n) before)) is
    ∙ put_codes old news before from n e len (omega (arith, fits, at))
    ∙ ap codes_of (sym is)
