-- Presses and drags: a key's message is cleared before or behind.
use Rattle.std.proofs.Common.{◌≡◌, ◌∙◌, ℕ, ◌+◌, Bool, true, false, Option, Some, None, refl, ap, sym, min, nat_le, if◌then◌else◌}
use Rattle.bx_ucd.specs.Data.{Data}
use Rattle.bx_editor.specs.declared.clicks.Extent.{Extent}
use Rattle.bx_editor.specs.declared.clicks.Extent.TheVariants as extents
use Rattle.bx_editor.specs.declared.clicks.Pressed.{Pressed}
use Rattle.bx_editor.specs.declared.cursor.Soft.{Soft}
use Rattle.bx_editor.specs.declared.cursor.Soft.TheVariants.{Off, Fresh, Old}
use Rattle.bx_editor.specs.Editor.{Editor, cleared, text_height, unpressed}
use Rattle.bx_editor.specs.Pointing.{after_drag, after_point, clicking, dragged_to, part_at, pointed_place, press_extent, pressed_at, pressing, pressing_with}
use Rattle.bx_editor.specs.Pointing.{rests_on_unit, selecting_part}
use Rattle.bx_editor.specs.Region.{is_empty, unselected}

module _ (d : Data) (e : Editor) where
  first-cleared : (row column place : ℕ) (soft : Soft) → cleared (pressing_with d e row column place soft) ≡ pressing_with d (cleared e) row column place soft
  first-cleared row column place Off = refl
  first-cleared row column place Fresh = refl
  first-cleared row column place Old = refl

  -- a second press, by whether there is a word
  word-cleared : (row column : ℕ) (part : ℕ × ℕ) (empty : Bool)
      → cleared (record (if empty then record e { mark = None; soft = Off; place = part.0 } else selecting_part e part.0 part.1) {
        clicks = Some (clicking row column extents.Word);
        pressed = Some (pressing part extents.Word);
      })
      ≡ record (if empty then record (cleared e) { mark = None; soft = Off; place = part.0 } else selecting_part (cleared e) part.0 part.1) {
        clicks = Some (clicking row column extents.Word);
        pressed = Some (pressing part extents.Word);
      }
  word-cleared row column part true = refl
  word-cleared row column part false = refl

  press-cleared : (row column place : ℕ) (extent : Extent) → cleared (pressed_at d e row column place extent) ≡ pressed_at d (cleared e) row column place extent
  press-cleared row column place extents.Unit = first-cleared row column place e.soft
  press-cleared row column place extents.Word =
      let part = part_at d e extents.Word place in word-cleared row column part (is_empty part)
  press-cleared row column place extents.Paragraph = refl

  -- a press in a row of the text
  pub point-cleared : (row column : ℕ) → nat_le row (text_height e.height) ≡ true
      → cleared (pressed_at d e row column (pointed_place d e row column) (press_extent e.clicks row column)) ≡ after_point d (cleared e) row column
  point-cleared row column shown =
      let place = pointed_place d e row column in
      let extent = press_extent e.clicks row column in
      press-cleared row column place extent
      ∙ ap (λ b. if b then pressed_at d (cleared e) row column place extent else unpressed (unselected (cleared e))) (sym shown)

  drag-by : (pressed : Pressed) (part : ℕ × ℕ) (rests on : Bool)
      → cleared (record (if rests then e else if on then selecting_part e pressed.start part.1 else selecting_part e pressed.stop part.0) { clicks = None })
      ≡ record (if rests then cleared e else if on then selecting_part (cleared e) pressed.start part.1 else selecting_part (cleared e) pressed.stop part.0) { clicks = None }
  drag-by pressed part true on = refl
  drag-by pressed part false true = refl
  drag-by pressed part false false = refl

  pub drag-cleared : (row column : ℕ) (pressed : Pressed) (place : ℕ) (part : ℕ × ℕ) → e.pressed ≡ Some pressed
      → place ≡ pointed_place d e (min row (text_height e.height + 1)) column → part ≡ part_at d e pressed.extent place
      → cleared (record (dragged_to e pressed part) { clicks = None }) ≡ after_drag d (cleared e) row column e.pressed
  drag-cleared row column pressed place part is there taken =
      drag-by pressed part (rests_on_unit e pressed part) (nat_le pressed.start part.0)
      ∙ ap (λ (p : ℕ × ℕ). record (dragged_to (cleared e) pressed p) { clicks = None })
      (taken ∙ ap (part_at d e pressed.extent) there)
      ∙ ap (after_drag d (cleared e) row column) (sym is)
