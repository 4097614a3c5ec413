-- One more column paste.
use Rattle.std.proofs.Common.{◌≡◌, ℕ, ◌+◌, ◌<◌, ◌≤◌, Bool, true, false, zero, suc, refl, List, [], ◌∷◌, ◌++◌, length, take, drop, set, replicate, get_or, ap}
use Rattle.std.proofs.Common.{sym, ◌∙◌, append_assoc, length-append, arith}
use Rattle.std.proofs.lemmas.List.{set_at, drop_more, length-take-le, length_push, map-set, map_more, length-map, replicate_more, length-replicate}
use Rattle.bx_grid.specs.Columns.{Col, Glyph, plain_columns, run_columns, glyph_columns_from, are_ascii_printable}
use Rattle.bx_common.specs.Glyphs.{run_width}
use Rattle.bx_grid.specs.Grid.{paste}
use Rattle.std.specs.Str.{chars}
use Rattle.unicode_width.specs.Width.{str_width}
use Rattle.bx_grid.specs.Seen.{seen, all_seen}
use Rattle.bx_grid.specs.declared.column.Column.{Column}

pub put_more : (columns : List Col) (k : ℕ) (news : List Col) (x : Col) → k + length news < length columns
    → set (paste columns k news) (k + length news) x ≡ paste columns k (news ++ x ∷ [])
put_more columns k news x h =
    let front : length (take k columns ++ news) ≡ k + length news =
    length-append (take k columns) news ∙ ap (λ n. n + length news) (length-take-le k columns (omega arith)) in
    let rest : drop (k + length news) columns ≡ get_or columns (k + length news) x ∷ drop (k + length news + 1) columns =
    drop_more columns (k + length news) x h in
    let count : k + length (news ++ x ∷ []) ≡ k + length news + 1 = omega (arith, length_push news x) in
    rw (rest, set_at (take k columns ++ news) (get_or columns (k + length news) x) (drop (k + length news + 1) columns) x (k + length news) front, count)
    (sym (append_assoc (take k columns ++ news) (x ∷ []) (drop (k + length news + 1) columns))
    ∙ ap (λ xs. xs ++ drop (k + length news + 1) columns) (append_assoc (take k columns) news (x ∷ [])))

pub run_more : (columns : List Column) (start : List Col) (k i : ℕ) (run : List ℕ) (negative : Bool) (x : Column)
    → k + length run ≤ length start → i < length run → all_seen columns ≡ paste start k (plain_columns negative (take i run))
    → seen x ≡ Glyph (get_or run i 0 ∷ []) 1 0 negative
    → all_seen (set columns (k + i) x) ≡ paste start k (plain_columns negative (take (i + 1) run))
run_more columns start k i run negative x fits low before is =
    let glyph = λ (b : ℕ). Glyph (b ∷ []) 1 0 negative in
    let count : length (plain_columns negative (take i run)) ≡ i = length-map (take i run) glyph ∙ length-take-le i run (omega arith) in
    map-set seen columns (k + i) x
    ∙ ap (λ cs. set cs (k + i) (seen x)) before
    ∙ ap (λ n. set (paste start k (plain_columns negative (take i run))) (k + n) (seen x)) (sym count)
    ∙ put_more start k (plain_columns negative (take i run)) (seen x) (omega (arith, count))
    ∙ ap (λ y. paste start k (plain_columns negative (take i run) ++ y ∷ [])) is
    ∙ ap (paste start k) (sym (map_more glyph run i 0 low))

-- at index j, the next of these
pub filled_more : (columns : List Column) (start : List Col) (k i j n : ℕ) (y : Col) (x : Column)
    → j ≡ k + i → n ≡ i + 1 → j < length start → all_seen columns ≡ paste start k (replicate i y) → seen x ≡ y
    → all_seen (set columns j x) ≡ paste start k (replicate n y)
filled_more columns start k i j n y x at next fits before is =
    map-set seen columns j x
    ∙ ap (λ cs. set cs j (seen x)) before
    ∙ ap (λ m. set (paste start k (replicate i y)) m (seen x)) (at ∙ ap (λ m. k + m) (sym (length-replicate i y)))
    ∙ put_more start k (replicate i y) (seen x) (omega (arith, length-replicate i y))
    ∙ ap (λ z. paste start k (replicate i y ++ z ∷ [])) is
    ∙ ap (paste start k) (replicate_more i y)
    ∙ ap (λ m. paste start k (replicate m y)) (sym next)

-- one more column of a glyph
pub glyph_more : (text : List ℕ) (columns offset count : ℕ) (negative : Bool)
    → glyph_columns_from text columns negative offset (suc count) ≡ glyph_columns_from text columns negative offset count
    ++ Glyph text columns (offset + count) negative ∷ []
glyph_more text columns offset zero negative = ap (λ n. Glyph text columns n negative ∷ []) (let e : offset ≡ offset + zero = omega arith in e)
glyph_more text columns offset (suc count) negative =
    ap (λ xs. Glyph text columns offset negative ∷ xs)
    (glyph_more text columns (offset + 1) count negative
    ∙ ap (λ n. glyph_columns_from text columns negative (offset + 1) count ++ Glyph text columns n negative ∷ [])
    (let e : (offset + 1) + count ≡ offset + suc count = omega arith in e))

pub length-glyph : (text : List ℕ) (columns offset count : ℕ) (negative : Bool) → length (glyph_columns_from text columns negative offset count) ≡ count
length-glyph text columns offset zero negative = refl
length-glyph text columns offset (suc count) negative = ap suc (length-glyph text columns (offset + 1) count negative)

pub glyph_put : (columns : List Column) (start : List Col) (k i count : ℕ) (text : List ℕ) (negative : Bool) (x : Column)
    → k + i < length start → all_seen columns ≡ paste start k (glyph_columns_from text count negative 0 i) → seen x ≡ Glyph text count i negative
    → all_seen (set columns (k + i) x) ≡ paste start k (glyph_columns_from text count negative 0 (i + 1))
glyph_put columns start k i count text negative x fits before is =
    let news = glyph_columns_from text count negative 0 i in
    let len : length news ≡ i = length-glyph text count 0 i negative in
    let one : suc i ≡ i + 1 = omega arith in
    map-set seen columns (k + i) x
    ∙ ap (λ cs. set cs (k + i) (seen x)) before
    ∙ ap (λ n. set (paste start k news) (k + n) (seen x)) (sym len)
    ∙ put_more start k news (seen x) (omega (arith, len))
    ∙ ap (λ y. paste start k (news ++ y ∷ [])) (is ∙ ap (λ n. Glyph text count n negative) (let z : i ≡ 0 + i = omega arith in z))
    ∙ ap (paste start k) (sym (glyph_more text count 0 i negative))
    ∙ ap (λ n. paste start k (glyph_columns_from text count negative 0 n)) one

run_length_by : (t n : Bool) (run : List ℕ) → are_ascii_printable run ≡ t → length (run_columns n run) ≡ run_width run
run_length_by true n run e = rw e (length-map run (λ b. Glyph (b ∷ []) 1 0 n))
run_length_by false n run e = let w = str_width false (chars run) in rw e (length-glyph run w 0 w n)

-- a run has as many columns as it is wide
pub run_length : (n : Bool) (run : List ℕ) → length (run_columns n run) ≡ run_width run
run_length n run = run_length_by (are_ascii_printable run) n run refl

narrow_by : (t : Bool) (negative : Bool) (run : List ℕ) → are_ascii_printable run ≡ t → run_width run ≡ 1
    → run_columns negative run ≡ Glyph run 1 0 negative ∷ []
narrow_by true negative [] e h = absurd (let g : 0 ≡ 1 = h in omega arith)
narrow_by true negative (b ∷ []) e h = rw e refl
narrow_by true negative (b ∷ d ∷ rest) e h = absurd (let g : suc (suc (length rest)) ≡ 1 = rw e at h in omega arith)
narrow_by false negative run e h =
    let one : str_width false (chars run) ≡ 1 = rw e at h in
    rw (e, one) refl

-- a run of one column
pub narrow_columns : (negative : Bool) (run : List ℕ) → run_width run ≡ 1 → run_columns negative run ≡ Glyph run 1 0 negative ∷ []
narrow_columns negative run h = narrow_by (are_ascii_printable run) negative run refl h
