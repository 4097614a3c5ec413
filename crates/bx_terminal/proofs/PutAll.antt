-- Columns put over all.
use Rattle.std.proofs.Common.{◌≡◌, ℕ, ◌+◌, List, ◌++◌, length, replicate, ap, ◌∙◌, arith}
use Rattle.std.proofs.lemmas.List.{append-nil, length-replicate, drop_all}
use Rattle.bx_grid.specs.Columns.{Col}
use Rattle.bx_grid.specs.Grid.{paste}

pub put_all : (start : List Col) (n : ℕ) (y : Col) → length start ≡ n → paste start 0 (replicate n y) ≡ replicate n y
put_all start n y e =
    ap (λ xs. replicate n y ++ xs) (drop_all (0 + length (replicate n y)) start (omega (arith, length-replicate n y, e))) ∙ append-nil (replicate n y)
