-- The parts of a row, and the bytes sent for them, column by column.
use Rattle.std.proofs.Common.{◌≡◌, ℕ, ◌+◌, ◌*◌, ◌-◌, ◌<◌, ◌≤◌, Bool, true, false, get_or, List, [], ◌∷◌, ◌++◌, length, take, drop, suc, refl, ap, sym, ◌∙◌}
use Rattle.std.proofs.Common.{append_assoc, zero, nat_eq, replicate, arith}
use Rattle.std.specs.List.{list_all}
use Rattle.std.proofs.lemmas.Bool.Decides.{nat_tests}
use Rattle.std.proofs.lemmas.List.{take_more, drop_more, drop-drop, map-append, take-replicate, drop-replicate}
use Rattle.bx_grid.specs.Seen.{seen, all_seen}
use Rattle.bx_grid.specs.declared.column.Column.{Column}
use Rattle.std.proofs.lemmas.List.Folds.{list_all-append}
use Rattle.std.proofs.Math.Bool.{and-false, and-true}
use Rattle.bx_grid.specs.Columns.{Col, Unknown, Glyph, blank, is_blank}
use Rattle.bx_grid.specs.Glyphs.{BeginAlike}
use Rattle.bx_grid.proofs.Equal.{are_equal_refl}
use Rattle.std.proofs.Math.Nat.{mul-le-mul_right}
use Rattle.bx_paint.specs.Painting.{Sent, then_sent, before_tail, leading_blanks, nothing_sent}
use Rattle.bx_paint.specs.Painting.{column_sent, columns_sent, tail_sent, tail_after, row_sent, rows_sent}

-- ---- the tail

push_by : (t : Bool) (x b : Col) (xs : List Col) → list_all is_blank (x ∷ xs) ≡ t → is_blank b ≡ true
    → before_tail (xs ++ b ∷ []) ≡ before_tail xs → before_tail (x ∷ xs ++ b ∷ []) ≡ before_tail (x ∷ xs)
push_by t x b xs e blank more =
    let same : list_all is_blank (x ∷ xs ++ b ∷ []) ≡ list_all is_blank (x ∷ xs) =
    list_all-append is_blank (x ∷ xs) (b ∷ []) ∙ rw blank (and-true (list_all is_blank (x ∷ xs))) in
    rw (same, more) refl

pub before_tail_blank : (xs : List Col) (b : Col) → is_blank b ≡ true → before_tail (xs ++ b ∷ []) ≡ before_tail xs
before_tail_blank [] b h = rw h refl
before_tail_blank (x ∷ xs) b h = push_by (list_all is_blank (x ∷ xs)) x b xs refl h (before_tail_blank xs b h)

pub before_tail_other : (xs : List Col) (b : Col) → is_blank b ≡ false → before_tail (xs ++ b ∷ []) ≡ xs ++ b ∷ []
before_tail_other [] b h = rw h refl
before_tail_other (x ∷ xs) b h =
    let none : list_all is_blank (x ∷ xs ++ b ∷ []) ≡ false =
    list_all-append is_blank (x ∷ xs) (b ∷ []) ∙ rw h (and-false (list_all is_blank (x ∷ xs))) in
    rw (none, before_tail_other xs b h) refl

-- ---- blanks at the front

all_by : (t : Bool) (x : Col) (xs : List Col) → is_blank x ≡ t → (leading_blanks xs ≡ length xs → list_all is_blank xs ≡ true)
    → leading_blanks xs ≤ length xs → leading_blanks (x ∷ xs) ≡ length (x ∷ xs) → list_all is_blank (x ∷ xs) ≡ true
all_by true x xs e more le h =
    let g : leading_blanks xs + 1 ≡ suc (length xs) = rw e at h in
    rw e (more (omega arith))
all_by false x xs e more le h = absurd (let g : 0 ≡ suc (length xs) = rw e at h in omega arith)

le_by : (t : Bool) (x : Col) (xs : List Col) → is_blank x ≡ t → leading_blanks xs ≤ length xs → leading_blanks (x ∷ xs) ≤ length (x ∷ xs)
le_by true x xs e le = rw e (omega arith)
le_by false x xs e le = rw e (omega arith)

pub leading_blanks_le : (xs : List Col) → leading_blanks xs ≤ length xs
leading_blanks_le [] = omega arith
leading_blanks_le (x ∷ xs) = le_by (is_blank x) x xs refl (leading_blanks_le xs)

pub all_blank_is : (xs : List Col) → leading_blanks xs ≡ length xs → list_all is_blank xs ≡ true
all_blank_is [] h = refl
all_blank_is (x ∷ xs) h = all_by (is_blank x) x xs refl (all_blank_is xs) (leading_blanks_le xs) h

lead_by : (t : Bool) (x : Col) (xs : List Col) → is_blank x ≡ t → (list_all is_blank xs ≡ true → leading_blanks xs ≡ length xs)
    → list_all is_blank (x ∷ xs) ≡ true → leading_blanks (x ∷ xs) ≡ length (x ∷ xs)
lead_by true x xs e more h =
    let g : list_all is_blank xs ≡ true = rw e at h in
    rw e (omega (arith, more g))
lead_by false x xs e more h = absurd (let g : false ≡ true = rw e at h in cc g)

pub blanks_lead : (xs : List Col) → list_all is_blank xs ≡ true → leading_blanks xs ≡ length xs
blanks_lead [] h = refl
blanks_lead (x ∷ xs) h = lead_by (is_blank x) x xs refl (blanks_lead xs) h

not_all : (t : Bool) (xs : List Col) → list_all is_blank xs ≡ t → (leading_blanks xs ≡ length xs → ⊥) → list_all is_blank xs ≡ false
not_all true xs e h = absurd (h (blanks_lead xs e))
not_all false xs e h = e

pub some_not_blank : (xs : List Col) → (leading_blanks xs ≡ length xs → ⊥) → list_all is_blank xs ≡ false
some_not_blank xs h = not_all (list_all is_blank xs) xs refl h

-- the last of the first columns
pub last_seen : (columns : List Column) (len : ℕ) (x : Column) → (0 < len) × (len ≤ length columns) → x ≡ get_or columns (len - 1) x
    → all_seen (take len columns) ≡ all_seen (take (len - 1) columns) ++ seen x ∷ []
last_seen columns len x h is =
    let e : (len - 1) + 1 ≡ len = omega (arith, h.0) in
    ap (λ n. all_seen (take n columns)) (sym e)
    ∙ ap all_seen (take_more columns (len - 1) x (omega (arith, h.0, h.1)))
    ∙ map-append seen (take (len - 1) columns) (get_or columns (len - 1) x ∷ [])
    ∙ ap (λ y. all_seen (take (len - 1) columns) ++ seen y ∷ []) (sym is)

-- ---- one column more

one_more : (row i : ℕ) (near negative : Bool) (old new new' : List Col) (x : Col) (out : List ℕ) → new ≡ x ∷ new'
    → then_sent (out ++ (column_sent row i near negative old new).bytes)
    (columns_sent row (i + 1) (column_sent row i near negative old new).near (column_sent row i near negative old new).negative (drop 1 old) new')
    ≡ then_sent out (columns_sent row i near negative old new)
one_more row i near negative old new new' x out h =
    let s = column_sent row i near negative old (x ∷ new') in
    let rest = columns_sent row (i + 1) s.near s.negative (drop 1 old) new' in
    let with_rest : List ℕ → Sent = λ bs. record { bytes = bs; negative = rest.negative } in
    rw h (ap with_rest (append_assoc out s.bytes rest.bytes))

pub column_more : (row i : ℕ) (near negative near' negative' : Bool) (old new po pn : List Col) (out out' : List ℕ) → i < length new
    → po ≡ drop i old → pn ≡ drop i new
    → out' ≡ out ++ (column_sent row i near negative po pn).bytes
    → near' ≡ (column_sent row i near negative po pn).near
    → negative' ≡ (column_sent row i near negative po pn).negative
    → then_sent out' (columns_sent row (i + 1) near' negative' (drop (i + 1) old) (drop (i + 1) new))
    ≡ then_sent out (columns_sent row i near negative (drop i old) (drop i new))
column_more row i near negative near' negative' old new po pn out out' low ep ew eo en eg =
    let split : drop i new ≡ get_or new i Unknown ∷ drop (i + 1) new = drop_more new i Unknown low in
    let rest : drop (i + 1) old ≡ drop 1 (drop i old) = sym (drop-drop 1 i old) in
    rw (eo, en, eg, ep, ew, rest) (one_more row i near negative (drop i old) (drop i new) (drop (i + 1) new) (get_or new i Unknown) out split)

-- ---- a row

pub row_by : (row f : ℕ) (negative : Bool) (old new front before after : List Col)
    → front ≡ before_tail new → f ≡ length (before_tail new) → before ≡ take (length (before_tail new)) old → after ≡ drop (length (before_tail new)) old
    → row_sent row negative old new ≡ tail_after row f after (columns_sent row 0 false negative before front)
row_by row f negative old new front before after h e b a = rw (h, e, b, a) refl

-- the bytes of a row's columns, and then those of its tail
pub row_bytes : (row f : ℕ) (negative after : Bool) (before tail front : List Col) (out out' out'' : List ℕ)
    → out' ≡ out ++ (columns_sent row 0 false negative before front).bytes → after ≡ (columns_sent row 0 false negative before front).negative
    → out'' ≡ out' ++ (tail_sent row f after tail).bytes
    → out'' ≡ out ++ (tail_after row f tail (columns_sent row 0 false negative before front)).bytes
row_bytes row f negative after before tail front out out' out'' e a e' =
    let s = columns_sent row 0 false negative before front in
    rw (e', e, a) (append_assoc out s.bytes (tail_sent row f s.negative tail).bytes)

-- ---- one row more

rest_after : (row width : ℕ) (columns : List Col) → drop ((row + 1) * width) columns ≡ drop width (drop (row * width) columns)
rest_after row width columns =
    let e : (row + 1) * width ≡ row * width + width = omega arith in
    ap (λ n. drop n columns) e ∙ sym (drop-drop width (row * width) columns)

rows_more : (height row width : ℕ) (negative negative' : Bool) (old new old' new' po pn : List Col) (out out' : List ℕ) → row < height
    → po ≡ take width old → pn ≡ take width new → old' ≡ drop width old → new' ≡ drop width new
    → out' ≡ out ++ (row_sent row negative po pn).bytes → negative' ≡ (row_sent row negative po pn).negative
    → then_sent out' (rows_sent (height - (row + 1)) (row + 1) width negative' old' new') ≡ then_sent out (rows_sent (height - row) row width negative old new)
rows_more height row width negative negative' old new old' new' po pn out out' low eo en eo' en' e eg =
    let count : height - row ≡ suc (height - (row + 1)) = omega arith in
    let s = row_sent row negative (take width old) (take width new) in
    let rest = rows_sent (height - (row + 1)) (row + 1) width s.negative (drop width old) (drop width new) in
    let with_rest : List ℕ → Sent = λ bs. record { bytes = bs; negative = rest.negative } in
    rw (e, eg, eo, en, eo', en', count) (ap with_rest (append_assoc out s.bytes rest.bytes))

pub row_more : (height row width : ℕ) (negative negative' : Bool) (old new po pn : List Col) (out out' : List ℕ) → row < height
    → po ≡ take width (drop (row * width) old) → pn ≡ take width (drop (row * width) new)
    → out' ≡ out ++ (row_sent row negative po pn).bytes → negative' ≡ (row_sent row negative po pn).negative
    → then_sent out' (rows_sent (height - (row + 1)) (row + 1) width negative' (drop ((row + 1) * width) old) (drop ((row + 1) * width) new))
    ≡ then_sent out (rows_sent (height - row) row width negative (drop (row * width) old) (drop (row * width) new))
row_more height row width negative negative' old new po pn out out' low eo en e eg =
    rows_more height row width negative negative' (drop (row * width) old) (drop (row * width) new) (drop ((row + 1) * width) old)
    (drop ((row + 1) * width) new) po pn out out' low
    eo en (rest_after row width old) (rest_after row width new) e eg

-- ---- columns that both rows have

-- nothing is sent for a glyph that is there already
pub alike_sent : (row column : ℕ) (near negative : Bool) (old new : List Col) → BeginAlike old new
    → column_sent row column near negative old new ≡ nothing_sent negative
alike_sent row column near negative old [] h = refl
alike_sent row column near negative old (Unknown ∷ cs) h = refl
alike_sent row column near negative old (Glyph text count zero other ∷ cs) h =
    rw (h refl, are_equal_refl (take count (Glyph text count zero other ∷ cs))) refl
alike_sent row column near negative old (Glyph text count (suc offset) other ∷ cs) h =
    let later : nat_eq (suc offset) 0 ≡ false = grind (arith, nat_tests) in
    rw later refl

-- a row of blanks
pub blank_row : (h row width : ℕ) → row < h → take width (drop (row * width) (replicate (h * width) blank)) ≡ replicate width blank
blank_row h row width low =
    let below : row + 1 ≤ h = omega arith in
    let next : row * width + width ≤ h * width = omega (arith, mul-le-mul_right width below) in
    ap (take width) (drop-replicate (row * width) (h * width) blank)
    ∙ take-replicate width (h * width - row * width) blank (omega arith)
