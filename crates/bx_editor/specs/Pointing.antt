-- Clicks and drags. `d` is Unicode's data, `e` the editor; rows and columns of the picture count from 1.
use Rattle.std.specs.Prelude.{ℕ, ◌+◌, ◌==◌, ◌&&◌, min, nat_le, Bool, true, false, Option, Some, None, unwrap_or, if◌then◌else◌}
use Rattle.bx_ucd.specs.Data.{Data}
use Rattle.bx_document.specs.Line as lines
use Rattle.bx_view.specs.Top.{pointed_at}
use Rattle.bx_view.specs.Words.{stretch_at, unit_at}
use Rattle.bx_editor.specs.declared.clicks.Clicks.{Clicks}
use Rattle.bx_editor.specs.declared.clicks.Extent.{Extent}
use Rattle.bx_editor.specs.declared.clicks.Extent.TheVariants.{Unit, Word, Paragraph}
use Rattle.bx_editor.specs.declared.clicks.Pressed.{Pressed}
use Rattle.bx_editor.specs.declared.cursor.Soft.{Soft}
use Rattle.bx_editor.specs.declared.cursor.Soft.TheVariants.{Off, Fresh, Old}
use Rattle.bx_editor.specs.Editor.{Editor, rows, text_height}
use Rattle.bx_editor.specs.Region.{is_empty, unselected}

-- from a place: the unit that begins there, its word, or its paragraph with its separator
abbrev pub part_at : Data → Editor → Extent → ℕ → ℕ × ℕ
part_at d e Unit place = unit_at d e.content.text place
part_at d e Word place = stretch_at d e.content.text place
part_at d e Paragraph place = lines.line_of d e.content.text place

-- what a further press at the same cell takes
abbrev pub further : Extent → Extent
further Unit = Word
further Word = Paragraph
further Paragraph = Unit

-- what a press at a cell takes, where these presses were before it
abbrev pub press_extent : Option Clicks → ℕ → ℕ → Extent
press_extent None row column = Unit
press_extent (Some clicks) row column = if (clicks.row == row) && (clicks.column == column) then further clicks.extent else Unit

-- this part was pressed
abbrev pub pressing : ℕ × ℕ → Extent → Pressed
pressing part extent = record { start = part.0; stop = part.1; extent = extent }

-- a press at a cell, which takes this much
abbrev pub clicking : ℕ → ℕ → Extent → Clicks
clicking row column extent = record { row = row; column = column; extent = extent }

-- a part of the text is selected, with the cursor at its second offset
abbrev pub selecting_part : Editor → ℕ → ℕ → Editor
selecting_part e mark place = record e { mark = Some mark; place = place; soft = Old }

-- a word is selected; in an empty body, where there is none, the cursor alone goes there
abbrev pub with_word : Editor → ℕ × ℕ → Editor
with_word e part = if is_empty part then record e { mark = None; soft = Off; place = part.0 } else selecting_part e part.0 part.1

-- a first press goes to a place; with a fresh selection it selects up to there, and is no press that another one follows
abbrev pub pressing_with : Data → Editor → ℕ → ℕ → ℕ → Soft → Editor
pressing_with d e row column place Fresh = record e {
  place = place;
  clicks = None;
  pressed = Some (pressing (unwrap_or e.mark place, unwrap_or e.mark place) Unit);
}
pressing_with d e row column place _ = record (unselected e) {
  place = place;
  clicks = Some (clicking row column Unit);
  pressed = Some (pressing (part_at d e Unit place) Unit);
}

abbrev pub first_press : Data → Editor → ℕ → ℕ → ℕ → Editor
first_press d e row column place = pressing_with d e row column place e.soft

-- a press at a cell, at which this place is: a second one takes a word, a third one a paragraph
abbrev pub pressed_at : Data → Editor → ℕ → ℕ → ℕ → Extent → Editor
pressed_at d e row column place Unit = first_press d e row column place
pressed_at d e row column place Word =
    let part = part_at d e Word place in
    record (with_word e part) { clicks = Some (clicking row column Word); pressed = Some (pressing part Word) }
pressed_at d e row column place Paragraph =
    let part = part_at d e Paragraph place in
    record (selecting_part e part.0 part.1) { clicks = Some (clicking row column Paragraph); pressed = Some (pressing part Paragraph) }

-- the place in a row and a column of the picture, whose first row is the one that was last shown first
abbrev pub pointed_place : Data → Editor → ℕ → ℕ → ℕ
pointed_place d e row column = pointed_at e.width (rows d e) e.top row column

-- a click in a row and a column of the picture; in the status row it leads nowhere
abbrev pub after_point : Data → Editor → ℕ → ℕ → Editor
after_point d e row column =
    if nat_le row (text_height e.height)
    then pressed_at d e row column (pointed_place d e row column) (press_extent e.clicks row column)
    else record (unselected e) { clicks = None; pressed = None }

abbrev pub is_unit : Extent → Bool
is_unit Unit = true
is_unit _ = false

-- a drag with one unit pressed has not led elsewhere yet
abbrev pub rests_on_unit : Editor → Pressed → ℕ × ℕ → Bool
rests_on_unit e pressed part = is_unit pressed.extent && (part.0 == pressed.start) && (pressed.start == e.place)

-- from what was pressed to this part, both taken
abbrev pub dragged_to : Editor → Pressed → ℕ × ℕ → Editor
dragged_to e pressed part =
    if rests_on_unit e pressed part
    then e
    else if nat_le pressed.start part.0 then selecting_part e pressed.start part.1 else selecting_part e pressed.stop part.0

-- a drag to a row and a column of the picture; below the last text row counts as the row after that. Without a press it is a click
abbrev pub after_drag : Data → Editor → ℕ → ℕ → Option Pressed → Editor
after_drag d e row column None = after_point d e row column
after_drag d e row column (Some pressed) =
    let place = pointed_place d e (min row (text_height e.height + 1)) column in
    record (dragged_to e pressed (part_at d e pressed.extent place)) { clicks = None }
