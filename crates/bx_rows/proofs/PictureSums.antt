-- The columns of a row's units.
use Rattle.std.proofs.Common.{◌≡◌, ℕ, suc, ◌+◌, List, [], ◌∷◌, length, map, sum, sum_by, refl, sym, ap, ◌∙◌}
use Rattle.std.proofs.lemmas.List.Sums.{sum-map}
use Rattle.bx_rows.specs.declared.cells.unit.Unit.{Unit}
use Rattle.bx_rows.specs.Wrapping.{columns_at}
use Rattle.bx_rows.specs.RowPicture.{unit_columns}

pub columns-length : (w c : ℕ) (us : List Unit) → length (unit_columns w c us) ≡ length us
columns-length w c [] = refl
columns-length w c (u ∷ us) = ap suc (columns-length w (c + columns_at w c u.face) us)

map-same : (xs : List ℕ) → map (λ n. n) xs ≡ xs
map-same [] = refl
map-same (x ∷ xs) = ap (λ ys. x ∷ ys) (map-same xs)

pub sum_by-same : (xs : List ℕ) → sum_by (λ n. n) xs ≡ sum xs
sum_by-same xs = sym (sum-map (λ n. n) xs) ∙ ap sum (map-same xs)
