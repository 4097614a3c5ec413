-- Which row a key shows first. A key moves the top where its painting succeeds, by its `Scroll`, and then by the fewest rows that make
-- the cursor's row visible. `d` is Unicode's data, `e` the editor after the key, `t` the number of the window's text rows.
use Rattle.std.specs.Prelude.{ℕ, ◌-◌, ◌==◌, ◌&&◌, ◌||◌, not, max, Bool, true, false, if◌then◌else◌}
use Rattle.bx_ucd.specs.Data.{Data}
use Rattle.bx_keys.specs.declared.key.Key.{Key}
use Rattle.bx_keys.specs.declared.key.Key.TheVariants.{Find, FindBack, FindNext, FindPrevious, Replace, Undo, Redo, Fill, PageBack, PageOn, ScrollBack}
use Rattle.bx_keys.specs.declared.key.Key.TheVariants.{ScrollOn, Insert, NewLine, Erase, ErasePoint, Delete, Quit, Copy, Cancel, Put, EraseWord, DeleteWord}
use Rattle.bx_view.specs.declared.moves.Vertical.TheVariants.{Up, Down}
use Rattle.bx_view.specs.Top.{centred, filled, top_away}
use Rattle.bx_editor.specs.declared.questions.answers.Prompt.{Prompt}
use Rattle.bx_editor.specs.declared.questions.answers.Prompt.TheVariants as prompts
use Rattle.bx_editor.specs.declared.scrolling.Scroll.{Scroll}
use Rattle.bx_editor.specs.declared.scrolling.Scroll.TheVariants.{Least, Centre, By, Fills}
use Rattle.bx_editor.specs.declared.search_state.SearchState.{SearchState}
use Rattle.bx_editor.specs.declared.search_state.SearchState.TheVariants.{Off, Begun, Typed, WithBegun, WithTyped, Replacing}
use Rattle.bx_editor.specs.Editor.{Editor, rows, text_height}

-- ---- far keys: where the place's row is not shown, they centre it

-- keys that seek, or undo or redo a group
abbrev pub goes_far : Key → Bool
goes_far Find = true
goes_far FindBack = true
goes_far FindNext = true
goes_far FindPrevious = true
goes_far Replace = true
goes_far Undo = true
goes_far Redo = true
goes_far _ = false

-- a line end, which goes to the line that was asked for
abbrev pub is_line_end : Key → Bool
is_line_end (Insert c) = c == 0xA
is_line_end NewLine = true
is_line_end _ = false

-- keys that lead to another match while a search is on, or back to where it began
abbrev pub seeks_on : Key → Bool
seeks_on (Insert c) = true
seeks_on NewLine = true
seeks_on Erase = true
seeks_on ErasePoint = true
seeks_on Delete = true
seeks_on Quit = true
seeks_on Copy = true
seeks_on Cancel = true
seeks_on _ = false

-- other keys that change what is typed in an input line
abbrev pub edits_input : Key → Bool
edits_input Put = true
edits_input EraseWord = true
edits_input DeleteWord = true
edits_input _ = false

abbrev pub asks_line : Prompt → Bool
asks_line prompts.Line = true
asks_line _ = false

abbrev pub is_search : SearchState → Bool
is_search Off = false
is_search _ = true

-- a prompt shows an input line: the answer to a question, the query or the replacement
abbrev pub has_input_line : Prompt → SearchState → Bool
has_input_line prompts.Line search_state = true
has_input_line prompts.Code search_state = true
has_input_line prompts.File search_state = true
has_input_line prompts.Off Begun = true
has_input_line prompts.Off Typed = true
has_input_line prompts.Off WithBegun = true
has_input_line prompts.Off WithTyped = true
has_input_line _ _ = false

-- a key is far, by the question and the search that are on as it comes
abbrev pub is_far : Prompt → SearchState → Key → Bool
is_far prompt search_state key =
    goes_far key
    || (asks_line prompt && is_line_end key)
    || (is_search search_state && seeks_on key)
    || (has_input_line prompt search_state && edits_input key)

-- ---- pages and the wheel

-- the rows of a page: a row of the page before stays
abbrev pub page_rows : ℕ → ℕ
page_rows t = max 1 (t - 1)

-- the rows by which the wheel moves the view
abbrev pub wheel_rows : ℕ
wheel_rows = 3

-- ---- the top

abbrev pub centre_if : Bool → Scroll
centre_if far = if far then Centre else Least

-- how a key moves the top, but where the question is whether to overwrite
abbrev pub scroll_by : ℕ → Prompt → SearchState → Key → Scroll
scroll_by t prompt search_state PageBack = By Up (page_rows t)
scroll_by t prompt search_state PageOn = By Down (page_rows t)
scroll_by t prompt search_state ScrollBack = By Up wheel_rows
scroll_by t prompt search_state ScrollOn = By Down wheel_rows
scroll_by t prompt search_state Fill = Fills
scroll_by t prompt search_state key = centre_if (is_far prompt search_state key)

-- in that question other keys than Fill only end it
abbrev pub fills_alone : Key → Scroll
fills_alone Fill = Fills
fills_alone _ = Least

-- how a key moves the top, by the question and the search that are on as it comes
abbrev pub scroll_in : ℕ → Prompt → SearchState → Key → Scroll
scroll_in t prompts.Overwrite search_state key = fills_alone key
scroll_in t prompt search_state key = scroll_by t prompt search_state key

-- how a key moves the top; `e` is the editor before the key
abbrev pub scroll_of : Editor → Key → Scroll
scroll_of e key = scroll_in (text_height e.height) e.prompt e.search_state key

-- the offset whose row is the new top row, where the old one is that of `top`
abbrev pub moved_top : Data → Editor → ℕ → Scroll → ℕ
moved_top d e top Least = top
moved_top d e top Centre = centred (rows d e) top e.place (text_height e.height)
moved_top d e top (By way n) = top_away (rows d e) way n top (text_height e.height)
moved_top d e top Fills = filled (rows d e) top (text_height e.height)
