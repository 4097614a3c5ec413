-- A place in a body with the number of characters before it, by which the characters' levels and forms are found.
use Rattle.std.specs.Prelude.{◌≡◌, ℕ, List, Option, chars, length, take, ⊤, ◌≤◌}
use Rattle.std.specs.Str.{IsCharBoundary}
use Rattle.bx_rows.specs.declared.joining.forms.TextAt.{TextAt}
use Rattle.bx_rows.specs.declared.cells.unit.Face.{Face}
use Rattle.bx_rows.specs.declared.cells.unit.Face.TheVariants.{Own}

-- The place is at a character boundary of this body, whose characters have the levels `each`, and its `number` counts the
-- characters before it. It is near the next place that is counted, which is reckoned from it.
pub record IsNear (body : List ℕ) (each : List (Option ℕ)) (p : TextAt) : Type 0 where
  pub text : p.body.text.now ≡ body
  pub levels : p.body.each.now ≡ each
  pub boundary : IsCharBoundary body p.offset
  pub number : p.number ≡ length (chars (take p.offset body))

-- own text has at least one column and no more than the window
abbrev pub FitsWindow : ℕ → Face → Type 0
FitsWindow w (Own n) = (1 ≤ n) × (n ≤ w)
FitsWindow w _ = ⊤
