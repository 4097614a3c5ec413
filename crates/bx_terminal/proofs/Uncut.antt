-- Rows in which no glyph is cut: the rows after putting and erasing, and how far a glyph reaches.
use Rattle.std.proofs.Common.{◌≡◌, ℕ, ◌+◌, ◌*◌, ◌-◌, ◌<◌, ◌≤◌, inl, inr, Bool, true, false, cond, nat_lt, List, [], ◌∷◌, ◌++◌, length, take, drop, replicate}
use Rattle.std.proofs.Common.{set, get_or, zero, suc, refl, ap, sym, ◌∙◌, subst, length-append, append_assoc, arith}
use Rattle.std.proofs.lemmas.Bool.Decides.{nat_tests}
use Rattle.std.proofs.Math.Seq.{take-add}
use Rattle.std.proofs.lemmas.List.{length-take-le, length-drop, take-append-drop, take_at, drop_at, drop-drop, drop_more, take-replicate, drop-replicate}
use Rattle.std.proofs.lemmas.List.{get_or-map, map-set, length-map, length-replicate, take-map, drop-map}
use Rattle.bx_grid.specs.Columns.{Col, Unknown, blank, columns_after, columns_before, cut_before, cut_after, put, put_in_row, are_ascii_printable}
use Rattle.bx_grid.specs.Grid.{paste, IsSized}
use Rattle.bx_grid.specs.Columns.{glyph_columns_from, plain_columns, run_columns}
use Rattle.std.specs.Str.{chars}
use Rattle.unicode_width.specs.Width.{str_width}
use Rattle.bx_terminal.proofs.PutAll.{put_all}
use Rattle.bx_terminal.specs.Uncut.{Meet, MeetFirst, AreUncut, AreUncutRows}
use Rattle.bx_grid.specs.Seen.{seen, all_seen}
use Rattle.bx_grid.specs.declared.column.Column.{Column}
use Rattle.bx_terminal.proofs.Spoils.{length-cut_before, left_of_at, mixed, mixed_start, mixed_less, read_same}
use Rattle.bx_grid.proofs.CutColumns.{length-cut_after}
use Rattle.bx_grid.proofs.CutColumns.{cut_after-drop}

-- ---- columns that share no glyph with those next to them

abbrev last_after : List Col → ℕ
last_after [] = 0
last_after (x ∷ []) = columns_after x
last_after (x ∷ y ∷ ys) = last_after (y ∷ ys)

abbrev first_before : List Col → ℕ
first_before [] = 0
first_before (x ∷ xs) = columns_before x

pub record StandAlone (xs : List Col) : Type 0 where
  pub uncut : AreUncut xs
  pub begins : first_before xs ≡ 0
  pub ends : last_after xs ≡ 0

seam : (x : Col) (ys : List Col) → columns_after x ≡ 0 → first_before ys ≡ 0 → MeetFirst x ys
seam x [] ends begins = tt
seam x (y ∷ ys) ends begins = record { onward = inl ends; back = inl begins }

uncut-append : (xs ys : List Col) → AreUncut xs → last_after xs ≡ 0 → AreUncut ys → first_before ys ≡ 0 → AreUncut (xs ++ ys)
uncut-append [] ys a ends b begins = b
uncut-append (x ∷ []) ys a ends b begins = (seam x ys ends begins, b)
uncut-append (x ∷ y ∷ rest) ys a ends b begins = (a.0, uncut-append (y ∷ rest) ys a.1 ends b begins)

ends-append : (xs ys : List Col) → last_after xs ≡ 0 → last_after ys ≡ 0 → last_after (xs ++ ys) ≡ 0
ends-append [] ys a b = b
ends-append (x ∷ []) [] a b = a
ends-append (x ∷ []) (y ∷ ys) a b = b
ends-append (x ∷ y ∷ rest) ys a b = ends-append (y ∷ rest) ys a b

first_take : (x : Col) (k : ℕ) (xs : List Col) → MeetFirst x xs → MeetFirst x (take k xs)
first_take x zero xs h = tt
first_take x (suc k) [] h = tt
first_take x (suc k) (y ∷ ys) h = h

pub uncut-take : (k : ℕ) (xs : List Col) → AreUncut xs → AreUncut (take k xs)
uncut-take zero xs h = tt
uncut-take (suc k) [] h = tt
uncut-take (suc k) (x ∷ xs) h = (first_take x k xs h.0, uncut-take k xs h.1)

pub uncut-drop : (k : ℕ) (xs : List Col) → AreUncut xs → AreUncut (drop k xs)
uncut-drop zero xs h = h
uncut-drop (suc k) [] h = tt
uncut-drop (suc k) (x ∷ xs) h = uncut-drop k xs h.1

-- ---- a row before and after the columns that are put

left_pair : (s t : Bool) (x y : Col) (d : ℕ) → nat_lt (suc d) (columns_after x) ≡ s → nat_lt d (columns_after y) ≡ t → Meet x y
    → Meet (cond s Unknown x) (cond t Unknown y)
left_pair true true x y d es et h = record { onward = inl refl; back = inl refl }
left_pair false false x y d es et h = h
left_pair true false x y d es et h =
    let long : suc d < columns_after x = grind (arith, nat_tests) in
    let few : columns_after y ≤ d = grind (arith, nat_tests) in
    absurd (elim h.onward [
      | inl e ↦ omega (arith, e, long)
      | inr e ↦ omega (arith, e, long, few)
    ])
left_pair false true x y d es et h =
    let few : columns_after x ≤ suc d = grind (arith, nat_tests) in
    let long : d < columns_after y = grind (arith, nat_tests) in
    elim h.onward [
      | inl e ↦ record { onward = inl e; back = inl refl }
      | inr e ↦ absurd (omega (arith, e, long, few))
    ]

pub uncut_left : (xs : List Col) → AreUncut xs → AreUncut (cut_before xs)
uncut_left [] h = tt
uncut_left (x ∷ []) h = (tt, tt)
uncut_left (x ∷ y ∷ ys) h =
    (left_pair (nat_lt (suc (length ys)) (columns_after x)) (nat_lt (length ys) (columns_after y)) x y (length ys) refl refl h.0, uncut_left (y ∷ ys) h.1)

last_by : (t : Bool) (x : Col) → nat_lt 0 (columns_after x) ≡ t → columns_after (cond t Unknown x) ≡ 0
last_by true x e = refl
last_by false x e = grind (arith, nat_tests)

ends_left : (xs : List Col) → last_after (cut_before xs) ≡ 0
ends_left [] = refl
ends_left (x ∷ []) = last_by (nat_lt 0 (columns_after x)) x refl
ends_left (x ∷ y ∷ ys) = ends_left (y ∷ ys)

right_pair : (s t : Bool) (x y : Col) (d : ℕ) → nat_lt d (columns_before x) ≡ s → nat_lt (d + 1) (columns_before y) ≡ t → Meet x y
    → Meet (cond s Unknown x) (cond t Unknown y)
right_pair true true x y d es et h = record { onward = inl refl; back = inl refl }
right_pair false false x y d es et h = h
right_pair true false x y d es et h =
    let long : d < columns_before x = grind (arith, nat_tests) in
    let few : columns_before y ≤ d + 1 = grind (arith, nat_tests) in
    elim h.back [
      | inl e ↦ record { onward = inl refl; back = inl e }
      | inr e ↦ absurd (omega (arith, e, long, few))
    ]
right_pair false true x y d es et h =
    let few : columns_before x ≤ d = grind (arith, nat_tests) in
    let long : d + 1 < columns_before y = grind (arith, nat_tests) in
    absurd (elim h.back [
      | inl e ↦ omega (arith, e, long)
      | inr e ↦ omega (arith, e, long, few)
    ])

pub uncut_right : (d : ℕ) (xs : List Col) → AreUncut xs → AreUncut (cut_after d xs)
uncut_right d [] h = tt
uncut_right d (x ∷ []) h = (tt, tt)
uncut_right d (x ∷ y ∷ ys) h =
    (right_pair (nat_lt d (columns_before x)) (nat_lt (d + 1) (columns_before y)) x y d refl refl h.0, uncut_right (d + 1) (y ∷ ys) h.1)

first_by : (t : Bool) (x : Col) → nat_lt 0 (columns_before x) ≡ t → columns_before (cond t Unknown x) ≡ 0
first_by true x e = refl
first_by false x e = grind (arith, nat_tests)

begins_right : (xs : List Col) → first_before (cut_after 0 xs) ≡ 0
begins_right [] = refl
begins_right (x ∷ xs) = first_by (nat_lt 0 (columns_before x)) x refl

uncut_row : (row new : List Col) (k : ℕ) → StandAlone new → AreUncut row → AreUncut (put_in_row row k new)
uncut_row row new k a h =
    let left = cut_before (take k row) in
    let right = cut_after 0 (drop (k + length new) row) in
    uncut-append (left ++ new) right
    (uncut-append left new (uncut_left (take k row) (uncut-take k row h)) (ends_left (take k row)) a.uncut a.begins)
    (ends-append left new (ends_left (take k row)) a.ends)
    (uncut_right 0 (drop (k + length new) row) (uncut-drop (k + length new) row h)) (begins_right (drop (k + length new) row))

-- ---- rows

length-row : (row new : List Col) (k : ℕ) → k + length new ≤ length row → length (put_in_row row k new) ≡ length row
length-row row new k fits =
    let left = cut_before (take k row) in
    let rest = drop (k + length new) row in
    length-append (left ++ new) (cut_after 0 rest)
    ∙ omega (
      arith,
      length-append left new,
      length-cut_before (take k row),
      length-take-le k row (omega arith),
      length-cut_after 0 rest,
      length-drop (k + length new) row,
      fits,
    )

uncut_first : (h w : ℕ) (a b : List Col) → length a ≡ w → AreUncut a → AreUncutRows h w b → AreUncutRows (suc h) w (a ++ b)
uncut_first h w a b len first rest = rw (take_at a b w len, drop_at a b w len) (first, rest)

pub uncut_along : (h w : ℕ) (xs ys : List Col) → xs ≡ ys → AreUncutRows h w xs → AreUncutRows h w ys
uncut_along h w xs ys e rows = let P : List Col → Type 0 = λ cs. AreUncutRows h w cs in subst P e rows

put_below : (w r k : ℕ) (cs new : List Col) → put w cs (suc r) k new ≡ take w cs ++ put w (drop w cs) r k new
put_below w r k cs new =
    let next : suc r * w ≡ w + r * w = omega arith in
    let front : take (w + r * w) cs ≡ take w cs ++ take (r * w) (drop w cs) = take-add w (r * w) cs in
    let back : drop (w + r * w) cs ≡ drop (r * w) (drop w cs) = ap (λ n. drop n cs) (omega arith) ∙ sym (drop-drop (r * w) w cs) in
    rw (next, front, back) (append_assoc (take w cs) (take (r * w) (drop w cs)) _)

pub uncut_put : (h w r k : ℕ) (cs new : List Col) → length cs ≡ h * w → r < h → k + length new ≤ w → StandAlone new → AreUncutRows h w cs
    → AreUncutRows h w (put w cs r k new)
uncut_put zero w r k cs new len below fits alone rows = absurd (omega arith)
uncut_put (suc h) w zero k cs new len below fits alone rows =
    let wide : length (take w cs) ≡ w = length-take-le w cs (omega (arith, len)) in
    let start : zero * w ≡ 0 = omega arith in
    rw start
    (uncut_first h w (put_in_row (take w cs) k new) (drop w cs) (length-row (take w cs) new k (omega (arith, wide, fits)) ∙ wide)
    (uncut_row (take w cs) new k alone rows.0) rows.1)
uncut_put (suc h) w (suc r) k cs new len below fits alone rows =
    let wide : length (take w cs) ≡ w = length-take-le w cs (omega (arith, len)) in
    uncut_along (suc h) w _ _ (sym (put_below w r k cs new))
    (uncut_first h w (take w cs) (put w (drop w cs) r k new) wide rows.0
    (uncut_put h w r k (drop w cs) new (length-drop w cs ∙ omega (arith, len)) (omega arith) fits alone rows.1))

pub uncut_at : (h w r : ℕ) (cs : List Col) → r < h → AreUncutRows h w cs → AreUncut (take w (drop (r * w) cs))
uncut_at zero w r cs below rows = absurd (omega arith)
uncut_at (suc h) w zero cs below rows = let start : zero * w ≡ 0 = omega arith in rw start rows.0
uncut_at (suc h) w (suc r) cs below rows =
    let next : drop (suc r * w) cs ≡ drop (r * w) (drop w cs) = ap (λ n. drop n cs) (omega arith) ∙ sym (drop-drop (r * w) w cs) in
    let P : List Col → Type 0 = λ xs. AreUncut (take w xs) in
    subst P (sym next) (uncut_at h w r (drop w cs) (omega arith) rows.1)

-- ---- the columns that are put

-- a column alone in its glyph, copied to a whole list
abbrev IsAlone : Col → Type 0
IsAlone x = (columns_after x ≡ 0) × (columns_before x ≡ 0)

alone_replicate : (x : Col) (n : ℕ) → IsAlone x → StandAlone (replicate n x)
alone_replicate x zero h = record { uncut = tt; begins = refl; ends = refl }
alone_replicate x (suc zero) h = record { uncut = (tt, tt); begins = h.1; ends = h.0 }
alone_replicate x (suc (suc n)) h =
    let rest = alone_replicate x (suc n) h in
    record { uncut = (record { onward = inl h.0; back = inl h.1 }, rest.uncut); begins = h.1; ends = rest.ends }

pub alone_blanks : (n : ℕ) → StandAlone (replicate n blank)
alone_blanks n = alone_replicate blank n (refl, refl)

alone_plain : (negative : Bool) (run : List ℕ) → StandAlone (plain_columns negative run)
alone_plain negative [] = record { uncut = tt; begins = refl; ends = refl }
alone_plain negative (a ∷ []) = record { uncut = (tt, tt); begins = refl; ends = refl }
alone_plain negative (a ∷ b ∷ run) =
    let rest = alone_plain negative (b ∷ run) in
    record { uncut = (record { onward = inl refl; back = inl refl }, rest.uncut); begins = refl; ends = rest.ends }

-- the columns of a glyph from one on
uncut_from : (text : List ℕ) (count offset n : ℕ) (negative : Bool) → offset + n ≡ count → AreUncut (glyph_columns_from text count negative offset n)
uncut_from text count offset zero negative e = tt
uncut_from text count offset (suc zero) negative e = (tt, tt)
uncut_from text count offset (suc (suc n)) negative e =
    (record { onward = inr (omega arith); back = inr refl }, uncut_from text count (offset + 1) (suc n) negative (omega arith))

ends_from : (text : List ℕ) (count offset n : ℕ) (negative : Bool) → offset + n ≡ count → last_after (glyph_columns_from text count negative offset n) ≡ 0
ends_from text count offset zero negative e = refl
ends_from text count offset (suc zero) negative e = omega arith
ends_from text count offset (suc (suc n)) negative e = ends_from text count (offset + 1) (suc n) negative (omega arith)

begins_from : (text : List ℕ) (count n : ℕ) (negative : Bool) → first_before (glyph_columns_from text count negative 0 n) ≡ 0
begins_from text count zero negative = refl
begins_from text count (suc n) negative = refl

alone_by : (t : Bool) (negative : Bool) (run : List ℕ) → are_ascii_printable run ≡ t → StandAlone (run_columns negative run)
alone_by true negative run e = rw e (alone_plain negative run)
alone_by false negative run e =
    let n = str_width false (chars run) in
    let whole : 0 + n ≡ n = omega arith in
    rw e (record {
      uncut = uncut_from run n 0 n negative whole;
      begins = begins_from run n n negative;
      ends = ends_from run n 0 n negative whole;
    })

pub alone_run : (negative : Bool) (run : List ℕ) → StandAlone (run_columns negative run)
alone_run negative run = alone_by (are_ascii_printable run) negative run refl

-- rows of copies of such a column
uncut_copies : (x : Col) → IsAlone x → (h w : ℕ) → AreUncutRows h w (replicate (h * w) x)
uncut_copies x alone zero w = tt
uncut_copies x alone (suc h) w =
    let less : suc h * w - w ≡ h * w = omega arith in
    rw (take-replicate w (suc h * w) x (omega arith), drop-replicate w (suc h * w) x, less) ((alone_replicate x w alone).uncut, uncut_copies x alone h w)

pub uncut_unknown : (h w : ℕ) → AreUncutRows h w (replicate (h * w) Unknown)
uncut_unknown h w = uncut_copies Unknown (refl, refl) h w

pub uncut_blank : (h w : ℕ) → AreUncutRows h w (replicate (h * w) blank)
uncut_blank h w = uncut_copies blank (refl, refl) h w

-- ---- how far a glyph reaches

-- if a column's glyph does not reach the end, no glyph before it does
pub left_stop : (xs : List Col) (i : ℕ) (d : Col) → AreUncut xs → i < length xs → columns_after (get_or xs i d) ≤ length xs - 1 - i
    → (take (i + 1) (cut_before xs) ≡ take (i + 1) xs) × (columns_after (get_or xs 0 d) ≤ length xs - 1)
left_stop [] i d h inside near = absurd (omega arith)
left_stop (x ∷ xs) zero d h inside near =
    let few : columns_after x ≤ length xs = omega (arith, near) in
    let test : nat_lt (length xs) (columns_after x) ≡ false = grind (arith, nat_tests) in
    (rw test refl, omega (arith, few))
left_stop (x ∷ []) (suc i) d h inside near = absurd (omega arith)
left_stop (x ∷ y ∷ ys) (suc i) d h inside near =
    let rest = left_stop (y ∷ ys) i d h.1 (omega arith) (omega (arith, near)) in
    let few : columns_after x ≤ length (y ∷ ys) = elim h.0.onward [
      | inl e ↦ omega (arith, e)
      | inr e ↦ omega (arith, e, rest.1)
    ] in
    let test : nat_lt (length (y ∷ ys)) (columns_after x) ≡ false = grind (arith, nat_tests) in
    let next : suc i + 1 ≡ suc (i + 1) = omega arith in
    (rw (next, test) (ap (λ zs. x ∷ zs) rest.0), omega (arith, few))

-- where the first column does not go on with a glyph that began before these, none does
right_stop : (e : ℕ) (xs : List Col) → AreUncut xs → first_before xs ≤ e → cut_after e xs ≡ xs
right_stop e [] h low = refl
right_stop e (x ∷ []) h low =
    let test : nat_lt e (columns_before x) ≡ false = grind (arith, nat_tests) in rw test refl
right_stop e (x ∷ y ∷ ys) h low =
    let test : nat_lt e (columns_before x) ≡ false = grind (arith, nat_tests) in
    let next : columns_before y ≤ e + 1 = elim h.0.back [
      | inl f ↦ omega (arith, f)
      | inr f ↦ omega (arith, f, low)
    ] in
    rw test (ap (λ zs. x ∷ zs) (right_stop (e + 1) (y ∷ ys) h.1 next))

pub right_rest : (xs : List Col) (i : ℕ) (d : Col) → AreUncut xs → i < length xs → columns_before (get_or xs i d) ≤ i → drop i (cut_after 0 xs) ≡ drop i xs
right_rest xs i d h inside low =
    let start : 0 + i ≡ i = omega arith in
    let first : first_before (drop i xs) ≤ i = rw (drop_more xs i d inside) low in
    cut_after-drop 0 i xs ∙ ap (λ n. cut_after n (drop i xs)) start ∙ right_stop i (drop i xs) (uncut-drop i xs h) first

-- ---- the loops that forget

-- one column more, from the end
pub left_more : (start row : List Column) (i j : ℕ) (x y : Column) → seen y ≡ Unknown → i ≡ j + 1 → i ≤ length start → length row ≡ length start
    → all_seen row ≡ mixed i (all_seen start) (cut_before (all_seen start)) → length start - i < columns_after (seen (get_or row j x))
    → all_seen (set row j y) ≡ mixed j (all_seen start) (cut_before (all_seen start))
left_more start row i j x y known next low len before reach =
    let xs = all_seen start in
    let ys = cut_before xs in
    let same : length xs ≡ length start = length-map start seen in
    let as_long : length ys ≡ length xs = length-cut_before xs in
    let h : all_seen row ≡ mixed (j + 1) xs ys = before ∙ ap (λ n. mixed n xs ys) next in
    let here : seen (get_or row j x) ≡ get_or xs j Unknown =
    sym (get_or-map seen row j x Unknown (omega arith)) ∙ ap (λ zs. get_or zs j Unknown) h ∙ mixed_start xs ys j Unknown (omega arith) in
    let test : nat_lt (length xs - 1 - j) (columns_after (get_or xs j Unknown)) ≡ true = rw (← here, same) (grind (arith, nat_tests)) in
    map-set seen row j y ∙ ap (λ z. set (all_seen row) j z) known ∙ ap (λ zs. set zs j Unknown) h
    ∙ mixed_less xs ys j Unknown Unknown (sym as_long) (omega arith) (sym (left_of_at xs j Unknown (omega arith) ∙ rw test refl))

pub left_all : (start row : List Column) (i j : ℕ) (x : Column) → AreUncut (all_seen start) → i ≡ j + 1 → i ≤ length start → length row ≡ length start
    → all_seen row ≡ mixed i (all_seen start) (cut_before (all_seen start)) → columns_after (seen (get_or row j x)) ≤ length start - i
    → all_seen row ≡ cut_before (all_seen start)
left_all start row i j x uncut next low len before near =
    let xs = all_seen start in
    let ys = cut_before xs in
    let same : length xs ≡ length start = length-map start seen in
    let h : all_seen row ≡ mixed (j + 1) xs ys = before ∙ ap (λ n. mixed n xs ys) next in
    let here : seen (get_or row j x) ≡ get_or xs j Unknown =
    sym (get_or-map seen row j x Unknown (omega arith)) ∙ ap (λ zs. get_or zs j Unknown) h ∙ mixed_start xs ys j Unknown (omega arith) in
    let short : columns_after (get_or xs j Unknown) ≤ length xs - 1 - j = rw (← here, same) (omega (arith, near)) in
    let front = left_stop xs j Unknown uncut (omega arith) short in
    h ∙ ap (λ zs. zs ++ drop (j + 1) ys) (sym front.0) ∙ take-append-drop (j + 1) ys

pub right_all : (start row : List Column) (i : ℕ) (x : Column) → AreUncut (all_seen start) → i < length start → length row ≡ length start
    → all_seen row ≡ mixed i (cut_after 0 (all_seen start)) (all_seen start) → columns_before (seen (get_or row i x)) ≤ i
    → all_seen row ≡ cut_after 0 (all_seen start)
right_all start row i x uncut inside len before low =
    let xs = all_seen start in
    let ys = cut_after 0 xs in
    let same : length xs ≡ length start = length-map start seen in
    let here : seen (get_or row i x) ≡ get_or xs i Unknown = read_same ys start row i x Unknown (length-cut_after 0 xs ∙ same) inside before len in
    let near : columns_before (get_or xs i Unknown) ≤ i = rw (← here) low in
    before ∙ ap (λ zs. take i ys ++ zs) (sym (right_rest xs i Unknown uncut (omega arith) near)) ∙ take-append-drop i ys

-- ---- a terminal's columns after they were written

pub seen_take : (columns : List Column) (k : ℕ) → AreUncut (all_seen columns) → AreUncut (all_seen (take k columns))
seen_take columns k h = rw (← take-map seen k columns) (uncut-take k (all_seen columns) h)

pub seen_drop : (columns : List Column) (k : ℕ) → AreUncut (all_seen columns) → AreUncut (all_seen (drop k columns))
seen_drop columns k h = rw (← drop-map seen k columns) (uncut-drop k (all_seen columns) h)

pub seen_row : (columns : List Column) (w row : ℕ) → AreUncut (take w (drop (row * w) (all_seen columns)))
    → AreUncut (all_seen (take ((row * w + w) - row * w) (drop (row * w) columns)))
seen_row columns w row h =
    let e : (row * w + w) - row * w ≡ w = omega arith in
    rw (e, ← take-map seen w (drop (row * w) columns), ← drop-map seen (row * w) columns) h

-- the sizes agree, and no glyph is cut
pub record AreSound (h w : ℕ) (columns : List Column) : Type 0 where
  pub sized : IsSized h w (length columns)
  pub uncut : AreUncutRows h w (all_seen columns)

sound_by : (h w : ℕ) (columns : List Column) (xs : List Col) (n : ℕ) → all_seen columns ≡ xs → length columns ≡ n → IsSized h w n → AreUncutRows h w xs
    → AreSound h w columns
sound_by h w columns xs n is len sized uncut = record { sized = rw len sized; uncut = rw is uncut }

pub sound_unknown : (h w : ℕ) (columns new old : List Column) → columns ≡ new → all_seen new ≡ replicate (length old) Unknown → IsSized h w (length old)
    → AreSound h w columns
sound_unknown h w columns new old is e sized =
    let len : length new ≡ length old = sym (length-map new seen) ∙ ap length e ∙ length-replicate (length old) Unknown in
    sound_by h w columns (replicate (h * w) Unknown) (length old)
    (ap all_seen is ∙ e ∙ ap (λ n. replicate n Unknown) sized.each) (ap length is ∙ len) sized (uncut_unknown h w)

pub sound_blank : (h w count : ℕ) (columns new old : List Column) → columns ≡ new → count ≡ length old
    → all_seen new ≡ paste (all_seen old) 0 (replicate (count - 0) blank) → IsSized h w (length old) → AreSound h w columns
sound_blank h w count columns new old is full e sized =
    let all : count - 0 ≡ length old = omega (arith, full) in
    let blanks : all_seen new ≡ replicate (length old) blank =
    e ∙ ap (λ n. paste (all_seen old) 0 (replicate n blank)) all ∙ put_all (all_seen old) (length old) blank (length-map old seen) in
    let len : length new ≡ length old = sym (length-map new seen) ∙ ap length blanks ∙ length-replicate (length old) blank in
    sound_by h w columns (replicate (h * w) blank) (length old)
    (ap all_seen is ∙ blanks ∙ ap (λ n. replicate n blank) sized.each) (ap length is ∙ len) sized (uncut_blank h w)

pub sound_put : (h w r k : ℕ) (columns new old : List Column) (news : List Col) → columns ≡ new → length new ≡ length old
    → all_seen new ≡ put w (all_seen old) r k news → StandAlone news → r < h → k + length news ≤ w → AreSound h w old → AreSound h w columns
sound_put h w r k columns new old news is len e alone below fits sound =
    sound_by h w columns (put w (all_seen old) r k news) (length old) (ap all_seen is ∙ e) (ap length is ∙ len) sound.sized
    (uncut_put h w r k (all_seen old) news (length-map old seen ∙ sound.sized.each) below fits alone sound.uncut)
