-- Replacing: the replacement is asked for, and then each match is replaced or passed over, or all that follow are replaced. Offsets
-- and places count bytes of the text. `d` is Unicode's data, `e` the editor, `at` the offset of a match, `c` a character.
use Rattle.std.specs.Prelude.{ℕ, ◌+◌, ◌==◌, not, ◌&&◌, Bool, true, false, List, length, Option, Some, None, if◌then◌else◌}
use Rattle.bx_ucd.specs.Data.{Data}
use Rattle.bx_find.specs.Matches.{first_from, match_end, spans_from}
use Rattle.bx_find.specs.Parts.{first_between}
use Rattle.bx_document.specs.Swapped.{behind_character, last_stop, swapped}
use Rattle.bx_editor.specs.declared.undo_groups.typing.Typing.{Typing}
use Rattle.bx_text.specs.Edits.{fits}
use Rattle.bx_view.specs.Moves.{place_at, step_logical}
use Rattle.bx_view.specs.declared.moves.Logical.TheVariants.{Forward}
use Rattle.bx_editor.specs.declared.search_state.SearchPurpose.{SearchPurpose}
use Rattle.bx_editor.specs.declared.search_state.SearchPurpose.TheVariants.{Find, Replace}
use Rattle.bx_editor.specs.declared.message.Message.TheVariants.{Replaced, TextFull}
use Rattle.bx_editor.specs.declared.search_state.SearchState.{SearchState}
use Rattle.bx_editor.specs.declared.search_state.SearchState.TheVariants.{Off, Begun, Typed, WithBegun, WithTyped, Replacing}
use Rattle.bx_editor.specs.LineState.{LineState}
use Rattle.bx_editor.specs.Editor.{Editor, rows, with_exchange}
use Rattle.bx_editor.specs.InputLines.{erases_nothing, line_lengthened, line_shortened, line_with}
use Rattle.bx_editor.specs.declared.input_line.Erasure.{Erasure}
use Rattle.bx_editor.specs.Putting.{is_paste}
use Rattle.bx_editor.specs.Region.{region}
use Rattle.bx_editor.specs.InputLines.{is_no_letter}
use Rattle.bx_editor.specs.Search.{after_letter, kept, landed, landing_from, nothing_sought, reading, sought, without_search}
use Rattle.bx_editor.specs.Search.{longest_query}

-- ---- the question for the replacement

-- where a match was found the replacement is asked for, with the cursor at its end, and no match is replaced yet; else the query is
-- asked for still
abbrev pub asked_at : Option ℕ → Editor → Editor
asked_at None e = record e { search_state = Typed }
asked_at (Some place) e = record e { search_state = WithBegun; count = 0; input_cursor = length e.replacement }

-- the query is sought from the place on, as a search for replacing; without letters nothing is sought
abbrev pub after_asking_replacement : Data → Editor → Editor
after_asking_replacement d e =
    let aimed = record e { purpose = Replace } in
    if length (sought d aimed) == 0
    then landed aimed (nothing_sought aimed.query)
    else let landing = landing_from d aimed.place aimed in asked_at landing.place (landed aimed landing)

abbrev pub is_replacing : SearchPurpose → Bool
is_replacing Find = false
is_replacing Replace = true

-- a line end in a search: in one for replacing it asks for the replacement, in one for finding it ends the search
abbrev pub after_sought_end : Data → Editor → Editor
after_sought_end d e = if is_replacing e.purpose then after_asking_replacement d e else without_search e

-- a typed character in a search
abbrev pub after_sought_letter : Data → Editor → ℕ → Editor
after_sought_letter d e c = if c == 0xA then after_sought_end d e else after_letter d e c

-- ---- the replacement

-- the replacement was typed
abbrev pub with_replacement : Editor → LineState → Editor
with_replacement e l = record e { replacement = l.text; input_cursor = l.cursor; search_state = WithTyped }

-- the replacement with the cursor in it
abbrev pub replacement_line : Editor → LineState
replacement_line e = line_with e.replacement e.input_cursor

-- the first offset, at or after `x`, at which the query stands
abbrev pub next_match : Data → Editor → ℕ → Option ℕ
next_match d e x = first_from d (reading e.purpose) (sought d e) e.content.text x

-- the match at an offset is shown, if there is one
abbrev pub shown_at : Editor → Option ℕ → Editor
shown_at e None = e
shown_at e (Some at) = record e { search_state = Replacing; at = at }

-- the first match from the place on is shown: the search led to it
abbrev pub after_showing : Data → Editor → Editor
after_showing d e = shown_at e (next_match d e e.place)

-- a typed character goes into the replacement, unless it is no letter
abbrev pub replacement_typed : Data → Editor → ℕ → Editor
replacement_typed d e c =
    if is_no_letter d c then e else with_replacement e (line_lengthened d longest_query (kept e.search_state (replacement_line e)) c)

-- a line end shows the match
abbrev pub after_replacement_letter : Data → Editor → ℕ → Editor
after_replacement_letter d e c = if c == 0xA then after_showing d e else replacement_typed d e c

-- the replacement loses what an erasure removes, if it removes anything
abbrev pub after_erasing_replacement : Data → Editor → Erasure → Editor
after_erasing_replacement d e how =
    if erases_nothing d how (replacement_line e) then e else with_replacement e (line_shortened d how (replacement_line e))

-- ---- the match that is shown

-- the offset behind the match that is shown
abbrev pub match_stop : Data → Editor → ℕ
match_stop d e = match_end d (reading e.purpose) (sought d e) e.content.text e.at

-- while a query or a replacement is typed: the first match that begins in the unit at the place, if there is one
abbrev pub found_here : Data → Editor → Option ℕ
found_here d e =
    first_between d (reading e.purpose) (sought d e) e.content.text e.place (step_logical (rows d e) Forward e.place)

-- the units of this match; without one the region
abbrev pub match_or_region : Data → Editor → Option ℕ → ℕ × ℕ
match_or_region d e None = region e
match_or_region d e (Some at) = (e.place, match_end d (reading e.purpose) (sought d e) e.content.text at)

-- the part of the text in the other rendition (negative, or normal where that is negative): the units of the match that is shown, or
-- that the query led to; else the region
abbrev pub seen_in : Data → Editor → SearchState → ℕ × ℕ
seen_in d e Off = region e
seen_in d e Begun = region e
seen_in d e Replacing = (e.place, match_stop d e)
seen_in d e _ = match_or_region d e (found_here d e)

-- this part as the editor's search stands
abbrev pub seen : Data → Editor → ℕ × ℕ
seen d e = seen_in d e e.search_state

-- replacing ends where the cursor is, and the number of the replaced matches is told
abbrev pub after_ending : Editor → Editor
after_ending e = record e { search_state = Off; message = Some (Replaced e.count) }

-- the match at an offset is shown, with the cursor at its place; if there is none, replacing ends
abbrev pub at_match : Data → Editor → Option ℕ → Editor
at_match d e None = after_ending e
at_match d e (Some at) = record e { search_state = Replacing; at = at; place = place_at (rows d e) at }

-- on to the first match from the offset `z` on; if there is none, replacing ends
abbrev pub on_from : Data → ℕ → Editor → Editor
on_from d z e = at_match d e (next_match d e z)

-- ---- one is replaced, or passed over

-- the bytes from the match to `stop`, `n` matches, give way to `new`; the place at which the search began is forgotten
abbrev pub with_matches_replaced : Data → Editor → ℕ → List ℕ → ℕ → Editor
with_matches_replaced d e stop new n = record (with_exchange d e e.at stop new) { origin = 0; count = e.count + n }

-- the match gives way to the replacement, and the next one is sought behind that; without room a message is set instead
abbrev pub after_replacing : Data → Editor → Editor
after_replacing d e =
    if fits e.content.text e.at (match_stop d e) e.replacement
    then on_from d (e.at + length e.replacement) (with_matches_replaced d e (match_stop d e) e.replacement 1)
    else record e { message = Some TextFull }

-- a typed character: a line end replaces the match, but a pasted one does not; all others do nothing
abbrev pub after_match_letter : Data → Typing → Editor → ℕ → Editor
after_match_letter d typing e c = if (c == 0xA) && not (is_paste typing) then after_replacing d e else e

-- the next match is sought behind the first character of this one
abbrev pub after_passing_over : Data → Editor → Editor
after_passing_over d e = on_from d (behind_character e.content.text e.at) e

-- ---- all are replaced

-- the match and those that follow it, each with its end; none lies in another
abbrev pub matches_on : Data → Editor → List (ℕ × ℕ)
matches_on d e = spans_from d (reading e.purpose) (sought d e) e.content.text e.at

-- the text from the match to the end of the last one gives way to the same text with the other one in place of each
abbrev pub after_replacing_all : Data → Editor → Editor
after_replacing_all d e =
    let all = matches_on d e in
    let stop = last_stop e.at all in
    let new = swapped e.at e.content.text e.replacement all in
    if fits e.content.text e.at stop new
    then after_ending (with_matches_replaced d e stop new (length all))
    else record e { message = Some TextFull }
