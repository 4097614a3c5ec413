-- What the wheel does, by whether the cursor's row is shown behind it, and whether the view moved.
use Rattle.std.proofs.Common.{◌≡◌, ◌∙◌, ℕ, Bool, true, false, ap, sym, if◌then◌else◌}
use Rattle.std.specs.Prelude.{◌==◌}
use Rattle.bx_ucd.specs.Data.{Data}
use Rattle.bx_view.specs.declared.moves.Vertical.{Vertical}
use Rattle.bx_view.specs.Moves.{row_home}
use Rattle.bx_editor.specs.Before.{Before}
use Rattle.bx_editor.specs.Editor.{Editor, rows}
use Rattle.bx_editor.specs.RowMoves.{after_wheel, carried, shows_place, wheel_top}

module _ (d : Data) (was : Before) (e : Editor) (way : Vertical) (top : ℕ) (is : top ≡ wheel_top d e way) where
  -- by whether the view stays
  abbrev still : Bool → Editor
  still stays = if stays then record e { message = was.message } else e

  shown-there : (shown : Bool) → shows_place d e top ≡ shown → shows_place d e (wheel_top d e way) ≡ shown
  shown-there shown h = ap (shows_place d e) (sym is) ∙ h

  abbrev by : Bool → Editor
  by shown = if shown then still (wheel_top d e way == row_home (rows d e) e.top) else carried d e (wheel_top d e way)

  pub wheel-carried : shows_place d e top ≡ false → carried d e top ≡ after_wheel d was e way
  wheel-carried hidden = ap (carried d e) is ∙ ap by (sym (shown-there false hidden))

  pub wheel-shown : shows_place d e top ≡ true → (stays : Bool) → (top == row_home (rows d e) e.top) ≡ stays → still stays ≡ after_wheel d was e way
  wheel-shown shown stays h =
      ap still (sym h ∙ ap (λ t. t == row_home (rows d e) e.top) is) ∙ ap by (sym (shown-there true shown))
