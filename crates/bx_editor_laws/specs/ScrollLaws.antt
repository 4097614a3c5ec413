-- Laws of what the window shows behind a key whose painting succeeds: far keys, the wheel and pages. `d` and `e` are as in Laws.antt. The
-- text's rows are numbered from 0.
use Rattle.std.specs.Prelude.{◌≡◌, ◌≢◌, ℕ, ◌+◌, ◌/◌, ◌≤◌, min, true, false, length, None}
use Rattle.bx_keys.specs.declared.key.Key.{Key}
use Rattle.bx_keys.specs.declared.key.Key.TheVariants.{PageBack, PageOn, ScrollBack, ScrollOn}
use Rattle.bx_ucd.specs.Data.{Data}
use Rattle.bx_document.specs.Drawing.{IsAmong}
use Rattle.bx_view.specs.declared.moves.Vertical.{Vertical}
use Rattle.bx_view.specs.declared.moves.Vertical.TheVariants.{Up, Down}
use Rattle.bx_view.specs.Laws.{IsShownFrom}
use Rattle.bx_view.specs.TextRows.{row_of}
use Rattle.bx_view.specs.Top.{top_row_away}
use Rattle.bx_view_laws.specs.Views.{IsFull}
use Rattle.bx_editor.specs.declared.questions.answers.Prompt.TheVariants as prompts
use Rattle.bx_editor.specs.declared.search_state.SearchState.TheVariants.{Off}
use Rattle.bx_editor.specs.Editor.{Editor, rows, text_height}
use Rattle.bx_editor.specs.Functions.{HasRows}
use Rattle.bx_editor.specs.Keys.{after_key}
use Rattle.bx_editor.specs.Picture.{scrolled_by}
use Rattle.bx_editor.specs.Scrolling.{is_far, page_rows, scroll_of}
use Rattle.bx_editor_laws.specs.WorkLaws.{CanMove, LeadsBack}

-- the editor behind a key whose painting succeeds: the key moves the first row that is shown, if it is of those that do, and then that
-- row moves by the fewest rows that show the cursor
abbrev pub shown_after : Data → Editor → Key → Editor
shown_after d e key = scrolled_by d (scroll_of e key) (after_key d None e key)

-- the number of the row that is shown first
abbrev pub top_row : Data → Editor → ℕ
top_row d e = row_of (rows d e) e.top

-- the cursor's row is one of those that are shown
abbrev pub ShowsCursor : Data → Editor → Type 0
ShowsCursor d e = IsAmong (rows d e) e.top e.place (text_height e.height)

-- ---- far keys

-- Where `new` is the editor behind a far key: the cursor's row is shown. The view stays where that was shown already. Where it was not,
-- no row of the window is left blank that could show text, and half of the window stands above the cursor's row, or all that the text has
-- there.
pub record ShowsFar (d : Data) (new shown : Editor) : Type 0 where
  pub shows : ShowsCursor d shown
  pub stays : ShowsCursor d new → top_row d shown ≡ top_row d new
  pub full : ¬ (ShowsCursor d new) → IsFull (rows d new) (text_height new.height) (top_row d shown)
  pub above : ¬ (ShowsCursor d new) → top_row d shown + min (text_height new.height / 2) (row_of (rows d new) new.place) ≤ row_of (rows d new) new.place

-- so it is behind each key that is far, but in the question whether to overwrite, which it only ends
abbrev pub FarKeysShow : Type 0
FarKeysShow =
    (d : Data) (e : Editor) (key : Key) → let new = after_key d None e key in
    HasRows new → new.ended ≡ false → e.prompt ≢ prompts.Overwrite → is_far e.prompt e.search_state key ≡ true
    → ShowsFar d new (shown_after d e key)

-- ---- the wheel

-- the key that the wheel is, by its way
abbrev pub wheel_key : Vertical → Key
wheel_key Up = ScrollBack
wheel_key Down = ScrollOn

-- the number of the row that is shown first once the wheel was turned: three rows on, but not so far that a row is left blank that could
-- show text, or three rows back, or the first one
abbrev pub wheeled_row : Data → Editor → Vertical → ℕ
wheeled_row d e way = top_row_away (length (rows d e)) way 3 (top_row d e) (text_height e.height)

-- a picture is shown, no paste is under way, and the question is not whether to overwrite, which the wheel only ends
pub record CanScroll (e : Editor) : Type 0 where
  pub rows_fit : HasRows e
  pub on : e.ended ≡ false
  pub settled : e.pasted ≡ None
  pub undecided : e.prompt ≢ prompts.Overwrite

-- cursor, mark, kept column, question and search are as they were
pub record StaysPut (e new : Editor) : Type 0 where
  pub place_is : new.place ≡ e.place
  pub mark_is : new.mark ≡ e.mark
  pub soft_is : new.soft ≡ e.soft
  pub goal_is : new.goal ≡ e.goal
  pub prompt_is : new.prompt ≡ e.prompt
  pub search_is : new.search_state ≡ e.search_state

-- the cursor went, as a move does that ends what is asked and sought
pub record IsCarried (new : Editor) : Type 0 where
  pub prompt_is : new.prompt ≡ prompts.Off
  pub search_is : new.search_state ≡ Off

-- The wheel moves the view, and never the text. The cursor stays while its row is shown, and so does all that belongs to it; else it goes
-- to a row that is shown.
pub record Wheels (d : Data) (e : Editor) (top : ℕ) (shown : Editor) : Type 0 where
  pub content_is : shown.content ≡ e.content
  pub top_is : top_row d shown ≡ top
  pub shows : ShowsCursor d shown
  pub stays : IsShownFrom (rows d e) e.place (text_height e.height) top → StaysPut e shown
  pub goes : ¬ (IsShownFrom (rows d e) e.place (text_height e.height) top) → IsCarried shown

abbrev pub WheelMovesView : Type 0
WheelMovesView = (d : Data) (e : Editor) (way : Vertical) → CanScroll e → Wheels d e (wheeled_row d e way) (shown_after d e (wheel_key way))

-- cursor and view are where they were
pub record IsSeenAsBefore (d : Data) (e new : Editor) : Type 0 where
  pub place_is : new.place ≡ e.place
  pub top_is : top_row d new ≡ top_row d e

-- The wheel on and back again changes neither cursor nor view, where three rows more can be shown below and the cursor's row stays shown;
-- so it does back and on again, where three rows more are above.
pub record WheelReturns (d : Data) (e : Editor) : Type 0 where
  pub on : top_row d e + 3 + text_height e.height ≤ length (rows d e)
      → IsShownFrom (rows d e) e.place (text_height e.height) (top_row d e)
      → IsShownFrom (rows d e) e.place (text_height e.height) (top_row d e + 3)
      → IsSeenAsBefore d e (shown_after d (shown_after d e ScrollOn) ScrollBack)
  pub back : (top : ℕ) → top + 3 ≡ top_row d e → top_row d e + text_height e.height ≤ length (rows d e)
      → IsShownFrom (rows d e) e.place (text_height e.height) (top_row d e)
      → IsShownFrom (rows d e) e.place (text_height e.height) top
      → IsSeenAsBefore d e (shown_after d (shown_after d e ScrollBack) ScrollOn)

abbrev pub WheelGoesBack : Type 0
WheelGoesBack = (d : Data) (e : Editor) → CanScroll e → WheelReturns d e

-- ---- pages

-- a page's rows
abbrev pub page_of : Editor → ℕ
page_of e = page_rows (text_height e.height)

-- Behind a page on and a page back the view is where it was, and the cursor is back, but from the end of a full row; so it is behind a
-- page back and a page on.
pub record PagesReturn (d : Data) (e : Editor) : Type 0 where
  pub on : ShowsCursor d e → top_row d e + page_of e + text_height e.height ≤ length (rows d e)
      → let new = shown_after d (shown_after d e PageOn) PageBack in (top_row d new ≡ top_row d e) × LeadsBack d e 1 new
  pub back : ShowsCursor d e → page_of e ≤ top_row d e → top_row d e + text_height e.height ≤ length (rows d e)
      → let new = shown_after d (shown_after d e PageBack) PageOn in (top_row d new ≡ top_row d e) × LeadsBack d e 1 new

-- so it is where no column is kept, a picture is shown, and there are as many rows
abbrev pub PagesGoBack : Type 0
PagesGoBack = (d : Data) (e : Editor) → CanMove d e → e.ended ≡ false → e.goal ≡ None → PagesReturn d e
