-- Whole rows put over others of a grid: rows of whole glyphs stay.
use Rattle.std.proofs.Common.{◌≡◌, ℕ, ◌+◌, ◌-◌, ◌*◌, ◌<◌, ◌≤◌, List, ◌++◌, length, take, drop, zero, suc, sym, ap, ◌∙◌, subst, append_assoc, take_all, arith}
use Rattle.std.proofs.lemmas.List.{drop-append-le, drop-drop, drop-map, length-drop, length-map, length-take-le, map-append, nil_from_length, take-append-drop, take-append-le, take-map}
use Rattle.std.proofs.Math.Nat.{mul-le-mul_right}
use Rattle.bx_grid.specs.Codes.{code_of, codes_of}
use Rattle.bx_grid.specs.Columns.{Col}
use Rattle.bx_grid.specs.Grid.{paste, GridState, IsGrid}
use Rattle.bx_grid.specs.Glyphs.{AreWhole, AreWholeRows}
use Rattle.bx_grid.specs.Seen.{all_seen}
use Rattle.bx_grid.specs.declared.column.Column.{Column}
use Rattle.bx_grid.proofs.Coded.{noted}
use Rattle.bx_grid.proofs.Pasted.{length-paste, rows_along, rows_next, three_parts}
use Rattle.bx_grid.proofs.Whole.{whole_along}

-- those after the first `n` rows
rows_behind : (n m h w : ℕ) (cs : List Col) → h ≡ n + m → AreWholeRows h w cs → AreWholeRows m w (drop (n * w) cs)
rows_behind zero m h w cs e rows =
    let none : zero * w ≡ 0 = omega arith in
    let same : h ≡ m = omega (arith, e) in
    subst (λ k. AreWholeRows k w (drop (zero * w) cs)) same (rows_along h w cs (drop (zero * w) cs) (sym (ap (λ k. drop k cs) none)) rows)
rows_behind (suc n) m zero w cs e rows = absurd (omega (arith, e))
rows_behind (suc n) m (suc h) w cs e rows =
    let next : w + n * w ≡ suc n * w = omega arith in
    rows_along m w (drop (n * w) (drop w cs)) (drop (suc n * w) cs) (drop-drop (n * w) w cs ∙ ap (λ k. drop k cs) next)
    (rows_behind n m h w (drop w cs) (omega (arith, e)) rows.1)

-- one of the rows
whole_at : (r h w : ℕ) (cs : List Col) → r < h → AreWholeRows h w cs → AreWhole (take w (drop (r * w) cs))
whole_at r h w cs below rows = (rows_behind r (suc (h - r - 1)) h w cs (omega (arith, below)) rows).0

pub whole_row : (g : GridState) (r : ℕ) → IsGrid g.height g.width g.columns → r < g.height → AreWhole (take g.width (drop (r * g.width) g.columns))
whole_row g r is below = whole_at r g.height g.width g.columns below is.rows

-- some rows and others after them
rows_together : (n m h w : ℕ) (xs ys : List Col) → h ≡ n + m → length xs ≡ n * w → AreWholeRows n w xs → AreWholeRows m w ys → AreWholeRows h w (xs ++ ys)
rows_together zero m h w xs ys e len before behind =
    let same : m ≡ h = omega (arith, e) in
    let none : length xs ≡ 0 = omega (arith, len) in
    subst (λ k. AreWholeRows k w (xs ++ ys)) same (rows_along m w ys (xs ++ ys) (sym (ap (λ cs. cs ++ ys) (nil_from_length xs none))) behind)
rows_together (suc n) m zero w xs ys e len before behind = absurd (omega (arith, e))
rows_together (suc n) m (suc h) w xs ys e len before behind =
    let next : suc n * w ≡ w + n * w = omega arith in
    let low : w ≤ length xs = omega (arith, len, next) in
    rw (take-append-le w xs ys low, drop-append-le w xs ys low)
    (before.0, rows_together n m h w (drop w xs) ys (omega (arith, e)) (length-drop w xs ∙ omega (arith, len, next)) before.1 behind)

-- one row
pub one_row : (w : ℕ) (cs : List Col) → length cs ≡ w → AreWhole cs → AreWholeRows 1 w cs
one_row w cs wide whole = (whole_along cs (take w cs) (sym (take_all w cs (omega (arith, wide)))) whole, tt)

rows_put : (h w r n : ℕ) (cs news : List Col) → length cs ≡ h * w → r + n ≤ h → length news ≡ n * w → AreWholeRows n w news → AreWholeRows h w cs
    → AreWholeRows h w (paste cs (r * w) news)
rows_put h w zero n cs news len inside size new rows =
    let start : zero * w ≡ 0 = omega arith in
    let rest = h - n in
    let all : h ≡ n + rest = omega (arith, inside) in
    let behind : drop (zero * w + length news) cs ≡ drop (n * w) cs = ap (λ k. drop k cs) (omega (arith, size, start)) in
    rows_along h w (news ++ drop (n * w) cs) (paste cs (zero * w) news)
    (sym (ap (λ k. (take k cs ++ news) ++ drop (zero * w + length news) cs) start ∙ ap (λ ds. news ++ ds) behind))
    (rows_together n rest h w news (drop (n * w) cs) all size new (rows_behind n rest h w cs all rows))
rows_put zero w (suc r) n cs news len inside size new rows = absurd (omega arith)
rows_put (suc h) w (suc r) n cs news len inside size new rows =
    let next : suc r * w ≡ w + r * w = omega arith in
    let all : suc h * w ≡ w + h * w = omega arith in
    let wide : length (take w cs) ≡ w = length-take-le w cs (omega (arith, len, all)) in
    let split : take w cs ++ drop w cs ≡ cs = take-append-drop w cs in
    rows_along (suc h) w _ _ (ap (λ c. paste c (suc r * w) news) split)
    (rows_next h w (suc r * w) (r * w) (take w cs) (drop w cs) news wide next rows.0
    (rows_put h w r n (drop w cs) news (length-drop w cs ∙ omega (arith, len, all)) (omega (arith, inside)) size new rows.1))

-- rows are inside
pub rows_inside : (g : GridState) (r n : ℕ) → IsGrid g.height g.width g.columns → r + n ≤ g.height → r * g.width + n * g.width ≤ length g.columns
rows_inside g r n is low =
    let le : (r + n) * g.width ≤ g.height * g.width = mul-le-mul_right g.width low in
    let sum : (r + n) * g.width ≡ r * g.width + n * g.width = omega arith in
    omega (arith, le, sum, is.sized.each)

pub rows_kept : (g : GridState) (r n : ℕ) (news : List Col) → IsGrid g.height g.width g.columns → r + n ≤ g.height → length news ≡ n * g.width
    → AreWholeRows n g.width news → IsGrid g.height g.width (paste g.columns (r * g.width) news)
rows_kept g r n news is low size new =
    let inside : r * g.width + length news ≤ length g.columns = omega (arith, rows_inside g r n is low, size) in
    record {
      sized = record {
        low = is.sized.low;
        high = is.sized.high;
        narrow = is.sized.narrow;
        wide = is.sized.wide;
        each = length-paste g.columns news (r * g.width) inside ∙ is.sized.each;
      };
      rows = rows_put g.height g.width r n g.columns news is.sized.each low size new is.rows;
    }

-- the only row of a grid
pub length_of_one : (g : GridState) → length g.columns ≡ g.height * g.width → g.height ≡ 1 → length g.columns ≡ g.width
length_of_one g sized one = let once : 1 * g.width ≡ g.width = omega arith in sized ∙ ap (λ h. h * g.width) one ∙ once

pub all_of_one : (g : GridState) → length g.columns ≡ g.height * g.width → g.height ≡ 1 → take g.width (drop (0 * g.width) g.columns) ≡ g.columns
all_of_one g sized one =
    let none : 0 * g.width ≡ 0 = omega arith in
    ap (λ k. take g.width (drop k g.columns)) none ∙ take_all g.width g.columns (omega (arith, length_of_one g sized one))

pub whole_of_one : (height width w : ℕ) (columns : List Col) → AreWholeRows height width columns → height ≡ 1 → width ≡ w → AreWholeRows 1 w columns
whole_of_one height width w columns rows one wide =
    subst (λ n. AreWholeRows 1 n columns) wide (subst (λ h. AreWholeRows h width columns) one rows)

-- columns that are there already
pub put_same : (xs news : List Col) (k n : ℕ) → take n (drop k xs) ≡ news → length news ≡ n → paste xs k news ≡ xs
put_same xs news k n there len =
    ap (λ m. (take k xs ++ news) ++ drop (k + m) xs) len
    ∙ ap (λ cs. (take k xs ++ cs) ++ drop (k + n) xs) (sym there)
    ∙ append_assoc (take k xs) (take n (drop k xs)) (drop (k + n) xs)
    ∙ sym (three_parts xs k n)

-- ---- as the program notes codes

pub noted_rows : (g : GridState) (r n to : ℕ) (news : List Col) (columns lent : List Column) (before after : List ℕ) → IsGrid g.height g.width g.columns
    → r + n ≤ g.height → length news ≡ n * g.width → AreWholeRows n g.width news → all_seen columns ≡ paste g.columns (r * g.width) news → lent ≡ columns
    → before ≡ codes_of g.columns → to ≡ r * g.width + n * g.width
    → after ≡ take (r * g.width) before ++ (codes_of (take (to - r * g.width) (drop (r * g.width) (all_seen lent))) ++ drop to before)
    → IsGrid g.height g.width (all_seen columns) × (after ≡ codes_of (all_seen columns))
noted_rows g r n to news columns lent before after is low size whole new same codes end noted-so =
    let inside : to ≤ length g.columns = omega (arith, end, rows_inside g r n is low) in (
      subst (λ cs. IsGrid g.height g.width cs) (sym new) (rows_kept g r n news is low size whole),
      noted g.columns (all_seen lent) news before after (r * g.width) to (n * g.width) codes (ap all_seen same ∙ new) size end inside noted-so
          ∙ ap (λ cs. codes_of (all_seen cs)) same,
    )

-- ---- or puts those of the columns

pub codes_pasted : (old news : List Col) (codes others : List ℕ) (k : ℕ) → codes ≡ codes_of old → others ≡ codes_of news
    → take k codes ++ others ++ drop (k + length others) codes ≡ codes_of (paste old k news)
codes_pasted old news codes others k e f =
    let n = length news in
    ap (λ m. take k codes ++ others ++ drop (k + m) codes) (ap length f ∙ length-map news code_of)
    ∙ ap (λ ls. take k ls ++ others ++ drop (k + n) ls) e
    ∙ ap (λ ls. take k (codes_of old) ++ ls ++ drop (k + n) (codes_of old)) f
    ∙ ap (λ ls. ls ++ codes_of news ++ drop (k + n) (codes_of old)) (take-map code_of k old)
    ∙ ap (λ ls. codes_of (take k old) ++ codes_of news ++ ls) (drop-map code_of (k + n) old)
    ∙ ap (λ ls. ls ++ codes_of (drop (k + n) old)) (sym (map-append code_of (take k old) news))
    ∙ sym (map-append code_of (take k old ++ news) (drop (k + n) old))
