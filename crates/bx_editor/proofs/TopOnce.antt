-- Scrolling to the cursor a second time leaves the top where it is.
use Rattle.std.proofs.Common.{◌≡◌, ℕ, ◌-◌, ◌<◌, Bool, true, false, nat_le, refl, arith, leb-true}
use Rattle.std.specs.Prelude.{if◌then◌else◌}
use Rattle.bx_view.specs.Laws.{MovesLeast}
use Rattle.bx_view.specs.Top.{follow}
use Rattle.bx_view.proofs.LeastMove.{text-moves-least}
use Rattle.bx_paragraph.proofs.Starts.{side-some}
use Rattle.bx_editor.specs.Editor.{rows, text_height, Editor}
use Rattle.bx_editor.specs.Functions.{HasRows}
use Rattle.bx_ucd.specs.Data.{Data}
use Rattle.bx_editor.specs.Picture.{next_top}

height-some : (height : ℕ) → 0 < text_height height
height-some height = go (nat_le 2 height) refl
  where
    go : (b : Bool) → nat_le 2 height ≡ b → 0 < (if b then height - 1 else 1)
    go true high = let more = leb-true 2 height high in omega (arith, more)
    go false low = omega arith

-- after the end the top stays anyway
once : (ended : Bool) (top : ℕ) (F : ℕ → ℕ) → F (F top) ≡ F top → (if ended then (if ended then top else F top) else F (if ended then top else F top))
    ≡ (if ended then top else F top)
once true top F stays = refl
once false top F stays = stays

pub top-stays : (d : Data) (e : Editor) (top : ℕ) → HasRows e → next_top d e (next_top d e top) ≡ next_top d e top
top-stays d e top has =
    let least : MovesLeast (rows d e) = text-moves-least d e.base e.width e.content.text (side-some e.width has.columns) has.text in
    let F : ℕ → ℕ = λ t. follow (rows d e) t e.place (text_height e.height) in
    once e.ended top F (least.stays top e.place (text_height e.height) (height-some e.height))
