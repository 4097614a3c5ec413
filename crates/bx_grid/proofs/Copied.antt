-- Columns that are copied one by one.
use Rattle.std.proofs.Common.{◌≡◌, ℕ, ◌+◌, ◌<◌, ◌≤◌, List, ◌∷◌, [], ◌++◌, length, take, set, get_or, ap, sym, ◌∙◌, arith}
use Rattle.std.proofs.lemmas.List.{length-map, length-take-le, map-append, map-set, take_more}
use Rattle.bx_grid.specs.Columns.{Col}
use Rattle.bx_grid.specs.Grid.{paste}
use Rattle.bx_grid.specs.Seen.{seen, all_seen}
use Rattle.bx_grid.specs.declared.column.Column.{Column}
use Rattle.bx_grid.proofs.Puts.{put_more}

next_seen : (others : List Column) (i : ℕ) (x y : Column) → i < length others → y ≡ get_or others i y → seen x ≡ seen y
    → all_seen (take (i + 1) others) ≡ all_seen (take i others) ++ seen x ∷ []
next_seen others i x y inside at is =
    ap all_seen (take_more others i y inside)
    ∙ map-append seen (take i others) (get_or others i y ∷ [])
    ∙ ap (λ z. all_seen (take i others) ++ seen z ∷ []) (sym at)
    ∙ ap (λ z. all_seen (take i others) ++ z ∷ []) (sym is)

pub copied_over : (columns : List Column) (start : List Col) (k i : ℕ) (others : List Column) (x y : Column) → k + length others ≤ length start
    → i < length others → all_seen columns ≡ paste start k (all_seen (take i others)) → y ≡ get_or others i y → seen x ≡ seen y
    → all_seen (set columns (k + i) x) ≡ paste start k (all_seen (take (i + 1) others))
copied_over columns start k i others x y fits inside before at is =
    let done : List Col = all_seen (take i others) in
    let count : length done ≡ i = length-map (take i others) seen ∙ length-take-le i others (omega arith) in
    map-set seen columns (k + i) x
    ∙ ap (λ cs. set cs (k + i) (seen x)) before
    ∙ ap (λ n. set (paste start k done) (k + n) (seen x)) (sym count)
    ∙ put_more start k done (seen x) (omega (arith, count))
    ∙ ap (paste start k) (sym (next_seen others i x y inside at is))
