-- The keys of a search. Offsets and places count bytes of the text. `d` is Unicode's data, `e` the editor, `x` an offset, `c` a
-- character.
use Rattle.std.specs.Prelude.{ℕ, ◌==◌, nat_lt, Bool, true, false, List, [], ◌∷◌, length, find, chars}
use Rattle.std.specs.Prelude.{Option, Some, None, unwrap_or, if◌then◌else◌}
use Rattle.bx_ucd.specs.Data.{Data}
use Rattle.bx_find.specs.declared.letters.Reading.{Reading}
use Rattle.bx_find.specs.declared.letters.Reading.TheVariants.{Wide, Close}
use Rattle.bx_find.specs.Letters.{letters}
use Rattle.bx_find.specs.Matches.{first_from, last_before}
use Rattle.bx_view.specs.Moves.{place_at}
use Rattle.bx_view.specs.TextRows.{TextRow, places}
use Rattle.bx_view.specs.declared.moves.Move.{Move}
use Rattle.bx_editor.specs.declared.input_line.Erasure.{Erasure}
use Rattle.bx_editor.specs.declared.search_state.SearchPurpose.{SearchPurpose}
use Rattle.bx_editor.specs.declared.search_state.SearchPurpose.TheVariants as purposes
use Rattle.bx_editor.specs.declared.matches.Landing.{Landing}
use Rattle.bx_editor.specs.declared.message.Message.{Message}
use Rattle.bx_editor.specs.declared.message.Message.TheVariants.{FromStart, FromEnd, NoLetter, NotFound}
use Rattle.bx_editor.specs.declared.search_state.SearchState.{SearchState}
use Rattle.bx_editor.specs.declared.search_state.SearchState.TheVariants.{Off, Begun, Typed, WithBegun, WithTyped}
use Rattle.bx_editor.specs.LineState.{LineState}
use Rattle.bx_editor.specs.Editor.{Editor, rows, with_place}
use Rattle.bx_editor.specs.InputLines.{erases_nothing, is_at_end, is_no_letter, line_lengthened, line_moved, line_shortened, line_with}

-- ---- the query

-- letters are read widely to be found, and closely to be replaced
abbrev pub reading : SearchPurpose → Reading
reading purposes.Find = Wide
reading purposes.Replace = Close

-- the query's letters
abbrev pub sought : Data → Editor → List ℕ
sought d e = letters d (reading e.purpose) (chars e.query)

-- the query, or the replacement, into which a character goes: empty if it was just asked for, so that typing replaces the latest one
abbrev pub kept : SearchState → LineState → LineState
kept Begun l = line_with [] 0
kept WithBegun l = line_with [] 0
kept _ l = l

-- how far a search is once its input line was changed, or its cursor moved: what is typed next goes into the line
abbrev pub as_typed : SearchState → SearchState
as_typed Begun = Typed
as_typed WithBegun = WithTyped
as_typed search_state = search_state

-- the query with the cursor in it
abbrev pub query_line : Editor → LineState
query_line e = line_with e.query e.input_cursor

-- the most characters that a query has: a choice, which docs/bidi_edit.1 tells and for which `bx_find/src/query.rt` has room
abbrev pub longest_query : ℕ
longest_query = 64

-- ---- where a search leads: to the place of a match, and a message

-- a query that has no letters: the cursor stays, and that there are none is told, unless the query is empty
abbrev pub nothing_sought : List ℕ → Landing
nothing_sought [] = record { place = None; message = None }
nothing_sought (b ∷ bs) = record { place = None; message = Some NoLetter }

-- the query stands nowhere in the text: the cursor stays
abbrev pub not_found : Landing
not_found = record { place = None; message = Some NotFound }

-- to the place of a match, if there is one; else to `otherwise`
abbrev pub match_or : List TextRow → Option Message → Landing → Option ℕ → Landing
match_or rows message otherwise None = otherwise
match_or rows message otherwise (Some offset) = record { place = Some (place_at rows offset); message = message }

-- the first match at or after `x`, else the text's first; `r` is how letters are read, `query` the query, the list its letters
abbrev pub forward : Data → Reading → List TextRow → List ℕ → ℕ → List ℕ → List ℕ → Landing
forward d r rows text x query [] = nothing_sought query
forward d r rows text x query (c ∷ cs) =
    match_or rows None (match_or rows (Some FromStart) not_found (first_from d r (c ∷ cs) text 0)) (first_from d r (c ∷ cs) text x)

-- the last match before `x`, else the text's last
abbrev pub backward : Data → Reading → List TextRow → List ℕ → ℕ → List ℕ → List ℕ → Landing
backward d r rows text x query [] = nothing_sought query
backward d r rows text x query (c ∷ cs) =
    match_or rows None (match_or rows (Some FromEnd) not_found (last_before d r (c ∷ cs) text (length text))) (last_before d r (c ∷ cs) text x)

-- the cursor goes where a search leads, and its message is set
abbrev pub landed : Editor → Landing → Editor
landed e landing = record e { place = unwrap_or landing.place e.place; message = landing.message }

-- where the query leads, sought forward from `x`
abbrev pub landing_from : Data → ℕ → Editor → Landing
landing_from d x e = forward d (reading e.purpose) (rows d e) e.content.text x e.query (sought d e)

-- the query is sought forward from `x`, and the cursor goes where that leads
abbrev pub search_from : Data → ℕ → Editor → Editor
search_from d x e = landed e (landing_from d x e)

-- the query is sought backward from the place
abbrev pub search_back : Data → Editor → Editor
search_back d e = landed e (backward d (reading e.purpose) (rows d e) e.content.text e.place e.query (sought d e))

-- ---- the keys, once the message is cleared

-- a search begins at the place, with the query of the latest one and the cursor at its end
abbrev pub after_beginning : SearchPurpose → Editor → Editor
after_beginning purpose e = record e { search_state = Begun; origin = e.place; purpose = purpose; input_cursor = length e.query }

-- the search ends, and the cursor stays
abbrev pub without_search : Editor → Editor
without_search e = record e { search_state = Off }

-- the search ends, and the cursor returns to where it began
abbrev pub after_giving_up : Editor → Editor
after_giving_up e = record e { search_state = Off; place = e.origin }

-- the query was typed
abbrev pub with_query : Editor → LineState → Editor
with_query e l = record e { query = l.text; input_cursor = l.cursor; search_state = Typed }

-- the query is sought from the place on; if it did not grow at its end, from where the search began
abbrev pub search_on : Data → Bool → Editor → Editor
search_on d grows e = if grows then search_from d e.place e else search_from d e.origin (with_place e e.origin)

-- a typed character other than a line feed goes into the query
abbrev pub after_letter : Data → Editor → ℕ → Editor
after_letter d e c =
    let l = kept e.search_state (query_line e) in
    if is_no_letter d c then e else search_on d (is_at_end l) (with_query e (line_lengthened d longest_query l c))

-- the query loses what an erasure removes; where that is nothing, nothing is sought
abbrev pub after_erasing_query : Data → Editor → Erasure → Editor
after_erasing_query d e how =
    if erases_nothing d how (query_line e) then e else search_on d false (with_query e (line_shortened d how (query_line e)))

-- the cursor moves in the query, or in the replacement
abbrev pub after_moving_in : Data → Editor → List ℕ → Move → Editor
after_moving_in d e text m = record e { input_cursor = line_moved d m (line_with text e.input_cursor); search_state = as_typed e.search_state }

-- the next place, or the text's start where there is none
abbrev pub next_or_start : Data → Editor → ℕ
next_or_start d e = unwrap_or (find (nat_lt e.place) (places (rows d e))) 0

-- to the next match
abbrev pub after_find : Data → Editor → Editor
after_find d e = search_from d (next_or_start d e) (record e { search_state = Typed })

-- no search is on; one that is given up would return to the place
abbrev pub sought_alone : Editor → Editor
sought_alone e = record e { search_state = Off; purpose = purposes.Find; origin = e.place }

-- FindNext: to the next match, and no search is on; if the query has no letters, a search begins
abbrev pub after_find_next : Data → Editor → Editor
after_find_next d e =
    if length (sought d e) == 0 then after_beginning purposes.Find e else search_from d (next_or_start d e) (sought_alone e)

-- to the previous match
abbrev pub after_find_back : Data → Editor → Editor
after_find_back d e = search_back d (record e { search_state = Typed })

-- FindPrevious: to the previous match, and no search is on; if the query has no letters, a search begins
abbrev pub after_find_previous : Data → Editor → Editor
after_find_previous d e = if length (sought d e) == 0 then after_beginning purposes.Find e else search_back d (sought_alone e)
