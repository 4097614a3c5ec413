-- The characters before a row.
use Rattle.std.proofs.Common.{◌≡◌, ℕ, ◌<◌, List, [], ◌∷◌, length, get_or, take, chars, refl, arith}
use Rattle.bx_rows.specs.declared.cells.unit.Unit.{Unit}
use Rattle.bx_rows.specs.RowLevels.{chars_before}

pub before_none : (body : List ℕ) (us : List Unit) → length us ≡ 0 → chars_before body us ≡ 0
before_none body [] h = refl
before_none body (u ∷ us) h = absurd (omega (arith, h))

pub before_first : (body : List ℕ) (us : List Unit) (d : Unit) → 0 < length us → chars_before body us ≡ length (chars (take (get_or us 0 d).start body))
before_first body [] d h = absurd (omega arith)
before_first body (u ∷ us) d h = refl
