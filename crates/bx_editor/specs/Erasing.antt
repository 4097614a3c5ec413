-- What the keys that erase and delete remove. `d` is Unicode's data, `e` the editor; offsets and places count bytes of the text.
use Rattle.std.specs.Prelude.{ℕ, ◌+◌, ◌-◌, ◌%◌, ◌==◌, ◌&&◌, not, nat_lt, Bool, false, slice_range, if◌then◌else◌}
use Rattle.std.specs.List.{list_all}
use Rattle.bx_ucd.specs.Data.{Data}
use Rattle.bx_document.specs.Points.{point_start}
use Rattle.bx_editor.specs.declared.undo_groups.typing.Removal.{Removal}
use Rattle.bx_editor.specs.declared.undo_groups.typing.Typing.{Typing}
use Rattle.bx_editor.specs.undo_groups.Groups.{after_removal, goes_on_removing}
use Rattle.bx_view.specs.Moves.{step_logical}
use Rattle.bx_view.specs.declared.moves.Logical.TheVariants.{Back}
use Rattle.bx_editor.specs.Editor.{Editor, rows, with_removal}
use Rattle.bx_editor.specs.Region.{region, is_selection, line}

-- the bytes from `start` to `stop` are removed, in the undo group before if `goes_on`; if there are none, nothing changes
abbrev pub after_removing : Data → Editor → ℕ → ℕ → Bool → Editor
after_removing d e start stop goes_on = if start == stop then e else with_removal d e start stop goes_on

-- a selection is removed in place of what a key removes
abbrev pub or_selection : Data → Editor → Editor → Editor
or_selection d e other = if is_selection e then with_removal d e ((region e).0) ((region e).1) false else other

-- A removal that is of one undo group with those of its kind, `how`, just before: `typing` is what the key before left. Where
-- nothing is removed, the next edit begins an undo group.
abbrev pub removed_on : Data → Typing → Removal → Editor → ℕ → ℕ → Editor
removed_on d typing how e start stop =
    if start == stop
    then e
    else record (with_removal d e start stop (goes_on_removing typing how)) { typing = after_removal how }

-- the bytes from `start` to `stop` are removed by Erase, ErasePoint or Delete, or a selection in their place
abbrev pub after_erasing : Data → Typing → Removal → Editor → ℕ → ℕ → Editor
after_erasing d typing how e start stop = or_selection d e (removed_on d typing how e start stop)

-- the bytes from `start` to `stop` are removed by EraseWord or DeleteWord, as an undo group of their own, or a selection in their
-- place
abbrev pub after_erasing_word : Data → Editor → ℕ → ℕ → Editor
after_erasing_word d e start stop = or_selection d e (after_removing d e start stop false)

-- where the last point of the unit before the place begins; the unit's start, if its last character is no point
abbrev pub point_before : Data → Editor → ℕ
point_before d e =
    let unit = step_logical (rows d e) Back e.place in
    unit + point_start d (slice_range e.content.text unit e.place)

-- there is a tab's width, and only spaces stand before the place in its line, one at least
abbrev pub is_behind_spaces : Data → Editor → Bool
is_behind_spaces d e =
    let start = (line d e).0 in
    not (e.tab_width == 0) && nat_lt start e.place && list_all (λ b. b == 0x20) (slice_range e.content.text start e.place)

-- where the spaces begin that lead from the multiple of the tab's width before the place to it
abbrev pub stop_before : Data → Editor → ℕ
stop_before d e = e.place - ((e.place - (line d e).0 - 1) % e.tab_width + 1)

-- what ErasePoint removes begins here
abbrev pub erased_from : Data → Editor → ℕ
erased_from d e = if is_behind_spaces d e then stop_before d e else point_before d e
