-- How much is sent: nothing where nothing differs, and never more glyphs and erasures than columns that differ.
use Rattle.std.proofs.Common.{◌≡◌, ℕ, ◌+◌, ◌*◌, ◌-◌, ◌≤◌, Bool, true, false, ◌&&◌, nat_eq, List, [], ◌∷◌, ◌++◌, length, take, drop, replicate, zero, suc, refl}
use Rattle.std.proofs.Common.{ap, sym, ◌∙◌, length-append, arith}
use Rattle.std.specs.List.{list_all, All}
use Rattle.std.proofs.lemmas.Bool.Decides.{nat_tests}
use Rattle.std.proofs.lemmas.List.{take-append-drop, take_at, drop_at, length-take-le, length-drop}
use Rattle.std.proofs.Math.Bool.{and-false}
use Rattle.std.proofs.lemmas.List.Elements.{All-head, All-tail}
use Rattle.bx_grid.specs.Columns.{Col, Unknown, Glyph, blank, is_blank, col_eq, are_equal}
use Rattle.bx_grid.specs.Glyphs.{WholeGlyph, IsGlyph, whole_columns, all_columns, AreWhole, AreWholeRows}
use Rattle.bx_grid.specs.Picture.{PictureState}
use Rattle.bx_grid.specs.Grid.{IsGrid}
use Rattle.bx_grid.proofs.Blanks.{blanks_pass}
use Rattle.bx_grid.proofs.Equal.{col_is, are_equal_refl}
use Rattle.bx_paint.specs.Painting.{Sent, Step, nothing_sent, then_sent, before_tail, is_sent, column_sent, columns_sent, tail_sent, row_sent, rows_sent}
use Rattle.bx_paint.specs.Painting.{changes_bytes}
use Rattle.bx_paint.specs.Changed.{glyphs_changed, tail_changed, row_changed, rows_changed, changed, differing}
use Rattle.bx_paint.proofs.Glyphs.{glyph_effect, by_glyph}
use Rattle.bx_paint.proofs.Tails.{front_le, front_blanks, whole_front}

-- ---- a row's parts

front_first : (xs : List Col) → take (length (before_tail xs)) xs ≡ before_tail xs
front_first xs =
    ap (take (length (before_tail xs))) (sym (front_blanks xs))
    ∙ take_at (before_tail xs) (replicate (length xs - length (before_tail xs)) blank) (length (before_tail xs)) refl

tail_blanks : (xs : List Col) → drop (length (before_tail xs)) xs ≡ replicate (length xs - length (before_tail xs)) blank
tail_blanks xs =
    ap (drop (length (before_tail xs))) (sym (front_blanks xs))
    ∙ drop_at (before_tail xs) (replicate (length xs - length (before_tail xs)) blank) (length (before_tail xs)) refl

-- ---- nothing, where nothing differs

abbrev none_after : Bool → Sent
none_after negative = record { bytes = []; negative = negative }

column_same : (r c : ℕ) (near negative : Bool) (x : Col) (xs : List Col) → column_sent r c near negative (x ∷ xs) (x ∷ xs) ≡ nothing_sent negative
column_same r c near negative Unknown xs = refl
column_same r c near negative (Glyph text columns offset glyph_negative) xs =
    let same : is_sent (Glyph text columns offset glyph_negative ∷ xs) (Glyph text columns offset glyph_negative ∷ xs) ≡ false =
    rw (are_equal_refl (take columns (Glyph text columns offset glyph_negative ∷ xs))) (and-false (nat_eq offset 0)) in
    rw same refl

columns_same : (r c : ℕ) (near negative : Bool) (xs : List Col) → columns_sent r c near negative xs xs ≡ none_after negative
columns_same r c near negative [] = refl
columns_same r c near negative (x ∷ xs) =
    let step : Step → Sent = λ s. then_sent s.bytes (columns_sent r (c + 1) s.near s.negative xs xs) in
    ap step (column_same r c near negative x xs) ∙ columns_same r (c + 1) false negative xs

pub row_same : (r : ℕ) (negative : Bool) (xs : List Col) → row_sent r negative xs xs ≡ none_after negative
row_same r negative xs =
    let f = length (before_tail xs) in
    let first : columns_sent r 0 false negative (take f xs) (before_tail xs) ≡ none_after negative =
    ap (λ ys. columns_sent r 0 false negative ys (before_tail xs)) (front_first xs) ∙ columns_same r 0 false negative (before_tail xs) in
    let blanks : list_all is_blank (drop f xs) ≡ true = ap (list_all is_blank) (tail_blanks xs) ∙ blanks_pass (length xs - f) in
    let after : Sent → Sent = λ s. then_sent s.bytes (tail_sent r f s.negative (drop f xs)) in
    ap after first ∙ rw blanks refl

rows_same : (count r width : ℕ) (negative : Bool) (xs : List Col) → rows_sent count r width negative xs xs ≡ none_after negative
rows_same zero r width negative xs = refl
rows_same (suc count) r width negative xs =
    let after : Sent → Sent = λ s. then_sent s.bytes (rows_sent count (r + 1) width s.negative (drop width xs) (drop width xs)) in
    ap after (row_same r negative (take width xs)) ∙ rows_same count (r + 1) width negative (drop width xs)

no_changes : (p : PictureState) → changes_bytes p p ≡ []
no_changes p =
    let row : nat_eq p.row p.row ≡ true = grind (arith, nat_tests) in
    let column : nat_eq p.column p.column ≡ true = grind (arith, nat_tests) in
    rw (rows_same p.height 0 p.width false p.columns, row, column) refl

pub same_changes : (old new : PictureState) → old ≡ new → changes_bytes old new ≡ []
same_changes old new same = ap (λ p. changes_bytes p new) same ∙ no_changes new

-- ---- no more than the columns that differ

differing-append : (xs ys us vs : List Col) → length xs ≡ length us → differing (xs ++ ys) (us ++ vs) ≡ differing xs us + differing ys vs
differing-append [] ys [] vs e = omega arith
differing-append [] ys (u ∷ us) vs e = absurd (omega (arith, e))
differing-append (x ∷ xs) ys [] vs e = absurd (omega (arith, e))
differing-append (x ∷ xs) ys (u ∷ us) vs e = omega (arith, differing-append xs ys us vs (omega (arith, e)))

differ_by : (t : Bool) (x y : Col) (xs ys : List Col) → col_eq x y ≡ t → (are_equal xs ys ≡ false → 1 ≤ differing xs ys)
    → are_equal (x ∷ xs) (y ∷ ys) ≡ false → 1 ≤ differing (x ∷ xs) (y ∷ ys)
differ_by true x y xs ys e more h = let rest : are_equal xs ys ≡ false = rw e at h in rw e (omega (arith, more rest))
differ_by false x y xs ys e more h = rw e (omega arith)

-- columns that do not show the same differ in one
one_differs : (xs ys : List Col) → length xs ≡ length ys → are_equal xs ys ≡ false → 1 ≤ differing xs ys
one_differs [] [] same h = absurd (cc h)
one_differs [] (y ∷ ys) same h = absurd (omega (arith, same))
one_differs (x ∷ xs) [] same h = absurd (omega (arith, same))
one_differs (x ∷ xs) (y ∷ ys) same h = differ_by (col_eq x y) x y xs ys refl (one_differs xs ys (omega (arith, same))) h

effect_by : (t : Bool) (index : ℕ) (g : WholeGlyph) (olds : List Col) → length olds ≡ length (whole_columns g) → are_equal olds (whole_columns g) ≡ t
    → length (glyph_effect index t g) ≤ differing olds (whole_columns g)
effect_by true index g olds same e = omega arith
effect_by false index g olds same e = one_differs olds (whole_columns g) same e

glyphs_few : (index : ℕ) (gs : List WholeGlyph) (olds : List Col) → All IsGlyph gs → length olds ≡ length (all_columns gs)
    → length (glyphs_changed index olds (all_columns gs)) ≤ differing olds (all_columns gs)
glyphs_few index [] olds each same = omega arith
glyphs_few index (g ∷ gs) olds each same =
    let cg = whole_columns g in
    let n = length cg in
    let xs = all_columns gs in
    let count : length olds ≡ n + length xs = same ∙ length-append cg xs in
    let first : length (take n olds) ≡ n = length-take-le n olds (omega (arith, count)) in
    let alike = are_equal (take n olds) cg in
    let by = (by_glyph alike g olds xs (All-head IsGlyph g gs each) refl).changed index in
    let one = effect_by alike index g (take n olds) first refl in
    let rest = glyphs_few (index + n) gs (drop n olds) (All-tail IsGlyph g gs each) (length-drop n olds ∙ omega (arith, count)) in
    let both : differing olds (cg ++ xs) ≡ differing (take n olds) cg + differing (drop n olds) xs =
    ap (λ ys. differing ys (cg ++ xs)) (sym (take-append-drop n olds)) ∙ differing-append (take n olds) (drop n olds) cg xs first in
    rw (by, both) (omega (arith, one, rest, length-append (glyph_effect index alike g) (glyphs_changed (index + n) (drop n olds) xs)))

front_few : (index : ℕ) (olds front : List Col) → AreWhole front → length olds ≡ length front → length (glyphs_changed index olds front) ≤ differing olds front
front_few index olds front whole same = rw whole.are at (glyphs_few index whole.glyphs olds whole.each (same ∙ ap length (sym whole.are)))

one_by : (t : Bool) (c : Col) (cs : List Col) → col_eq c blank ≡ t → (list_all is_blank cs ≡ false → 1 ≤ differing cs (replicate (length cs) blank))
    → list_all is_blank (c ∷ cs) ≡ false → 1 ≤ differing (c ∷ cs) (replicate (length (c ∷ cs)) blank)
one_by true c cs e more h =
    let is : c ≡ blank = col_is c blank e in
    let rest : list_all is_blank cs ≡ false = ap (λ x. is_blank x && list_all is_blank cs) (sym is) ∙ h in
    omega (arith, more rest)
one_by false c cs e more h = rw e (omega arith)

some_differ : (cs : List Col) → list_all is_blank cs ≡ false → 1 ≤ differing cs (replicate (length cs) blank)
some_differ [] h = absurd (cc h)
some_differ (c ∷ cs) h = one_by (col_eq c blank) c cs refl (some_differ cs) h

tail_by : (t : Bool) (index : ℕ) (olds : List Col) → list_all is_blank olds ≡ t
    → length (tail_changed index olds) ≤ differing olds (replicate (length olds) blank)
tail_by true index olds e = rw e (omega arith)
tail_by false index olds e = rw e (some_differ olds e)

row_few : (index : ℕ) (old new : List Col) → AreWhole new → length old ≡ length new → length (row_changed index old new) ≤ differing old new
row_few index old new whole same =
    let front = before_tail new in
    let f = length front in
    let olds = take f old in
    let rest = drop f old in
    let olen : length olds ≡ f = length-take-le f old (omega (arith, same, front_le new)) in
    let rlen : length rest ≡ length new - f = length-drop f old ∙ omega (arith, same) in
    let both : differing old new ≡ differing olds front + differing rest (replicate (length rest) blank) =
    ap (λ xs. differing xs new) (sym (take-append-drop f old))
    ∙ ap (differing (olds ++ rest)) (sym (front_blanks new) ∙ ap (λ n. front ++ replicate n blank) (sym rlen))
    ∙ differing-append olds rest front (replicate (length rest) blank) olen in
    let glyphs = front_few index olds front (whole_front new whole) olen in
    let tail = tail_by (list_all is_blank rest) (index + f) rest refl in
    omega (arith, both, glyphs, tail, length-append (glyphs_changed index olds front) (tail_changed (index + f) rest))

rows_few : (count width index : ℕ) (old new : List Col) → AreWholeRows count width new → length old ≡ count * width → length new ≡ count * width
    → length (rows_changed count width index old new) ≤ differing old new
rows_few zero width index old new whole tall tall' = omega arith
rows_few (suc count) width index old new whole tall tall' =
    let more : suc count * width ≡ width + count * width = omega arith in
    let olds = take width old in
    let news = take width new in
    let olen : length olds ≡ width = length-take-le width old (omega (arith, tall, more)) in
    let nlen : length news ≡ width = length-take-le width new (omega (arith, tall', more)) in
    let both : differing old new ≡ differing olds news + differing (drop width old) (drop width new) =
    ap (λ xs. differing xs new) (sym (take-append-drop width old))
    ∙ ap (differing (olds ++ drop width old)) (sym (take-append-drop width new))
    ∙ differing-append olds (drop width old) news (drop width new) (olen ∙ sym nlen) in
    let row = row_few index olds news whole.0 (olen ∙ sym nlen) in
    let rest = rows_few count width (index + width) (drop width old) (drop width new) whole.1
    (length-drop width old ∙ omega (arith, tall, more)) (length-drop width new ∙ omega (arith, tall', more)) in
    omega (arith, both, row, rest, length-append (row_changed index olds news) (rows_changed count width (index + width) (drop width old) (drop width new)))

pub few_changes : (old new : PictureState) → IsGrid old.height old.width old.columns → IsGrid new.height new.width new.columns → old.height ≡ new.height
    → old.width ≡ new.width
    → length (changed old new) ≤ differing old.columns new.columns
few_changes old new a b eh ew =
    rows_few new.height new.width 0 old.columns new.columns b.rows (a.sized.each ∙ rw (eh, ew) refl) b.sized.each
