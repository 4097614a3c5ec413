-- Each unit of a row has a level.
use Rattle.std.proofs.Common.{◌≡◌, ℕ, suc, List, [], ◌∷◌, map, length, drop, Option, unwrap_or, refl, ap, ◌∙◌}
use Rattle.std.proofs.lemmas.List.{length-map}
use Rattle.bx_ucd.specs.Data.{Data}
use Rattle.bx_rows.specs.declared.cells.unit.Unit.{Unit}
use Rattle.bx_rows.specs.RowLevels.{l1, unit_levels, levels_or_before, row_chars, row_levels}
use Rattle.bx_rows.specs.cells.Units.{unit_chars}

levels_or_before-length : (before : ℕ) (ls : List (Option ℕ)) → length (levels_or_before before ls) ≡ length ls
levels_or_before-length before [] = refl
levels_or_before-length before (l ∷ ls) = ap suc (levels_or_before-length (unwrap_or l before) ls)

levels-length : (ns : List ℕ) (ls : List (Option ℕ)) → length (unit_levels ns ls) ≡ length ns
levels-length [] ls = refl
levels-length (n ∷ ns) ls = ap suc (levels-length ns (drop n ls))

pub one_each : (ucd : Data) (body : List ℕ) (paragraph : ℕ) (each : List (Option ℕ)) (us : List Unit) (v : List ℕ)
    → v ≡ row_levels ucd body paragraph each us → length v ≡ length us
one_each ucd body paragraph each us v e =
    let counts = map (λ u. length (unit_chars body u)) us in
    ap length e ∙ levels_or_before-length paragraph (unit_levels counts (l1 paragraph (row_chars ucd body each us)))
    ∙ levels-length counts (l1 paragraph (row_chars ucd body each us)) ∙ length-map us (λ u. length (unit_chars body u))
