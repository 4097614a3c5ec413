-- The wheel moves the view, and the cursor only where its row is not shown then.
use Rattle.std.proofs.Common.{◌≡◌, ◌∙◌, ℕ, ◌+◌, ◌<◌, ◌≤◌, Bool, true, false, length, Option, None, refl, sym, ap, subst, arith, if◌then◌else◌}
use Rattle.std.specs.Prelude.{◌==◌}
use Rattle.std.proofs.lemmas.Bool.Decides.{nat_tests}
use Rattle.bx_keys.specs.declared.key.Key.{Key}
use Rattle.bx_ucd.specs.Data.{Data}
use Rattle.bx_paragraph.proofs.Starts.{side-some}
use Rattle.bx_view.specs.declared.moves.Vertical.{Vertical}
use Rattle.bx_view.specs.declared.moves.Vertical.TheVariants.{Up, Down}
use Rattle.bx_view.specs.Laws.{IsShownFrom}
use Rattle.bx_view.specs.Moves.{row_home}
use Rattle.bx_view.specs.TextRows.{row_of}
use Rattle.bx_view.specs.Top.{is_among, top_away, top_row_away}
use Rattle.bx_view_laws.specs.Views.{KeepsShown}
use Rattle.bx_view_laws.proofs.ViewRows.{keeps-shown}
use Rattle.bx_editor.specs.declared.message.Message.{Message}
use Rattle.bx_editor.specs.declared.questions.answers.Prompt.{Prompt}
use Rattle.bx_editor.specs.declared.questions.answers.Prompt.TheVariants as prompts
use Rattle.bx_editor.specs.declared.scrolling.Scroll.{Scroll}
use Rattle.bx_editor.specs.declared.scrolling.Scroll.TheVariants.{By}
use Rattle.bx_editor.specs.declared.search_state.SearchState.{SearchState}
use Rattle.bx_editor.specs.declared.search_state.SearchState.TheVariants.{Off, Begun, Typed, WithBegun, WithTyped, Replacing}
use Rattle.bx_editor.specs.Before.{Before, before}
use Rattle.bx_editor.specs.Editor.{Editor, cleared, rows, text_height, with_top}
use Rattle.bx_editor.specs.Functions.{HasRows, is_told_key}
use Rattle.bx_editor.specs.Keys.{after_any, after_key, as_left, refuses_replacing}
use Rattle.bx_editor.specs.Picture.{scrolled_by, top_behind}
use Rattle.bx_editor.specs.RowMoves.{after_wheel, carried, kept_goal, shows_place}
use Rattle.bx_editor.specs.Scrolling.{scroll_in}
use Rattle.bx_editor_laws.specs.ScrollLaws.{CanScroll, IsSeenAsBefore, StaysPut, WheelGoesBack, WheelMovesView, Wheels, shown_after, top_row, wheel_key}
use Rattle.bx_editor_laws.specs.ScrollLaws.{wheeled_row}
use Rattle.bx_editor_laws.proofs.KeyEnds.{user-key}
use Rattle.bx_editor_laws.proofs.TopSettled.{away-row, height-some, shows-there, top-is}

-- ---- in each state of a question and a search it does the same

wheel-any : (d : Data) (was : Before) (way : Vertical) (prompt : Prompt) (search_state : SearchState) (x : Editor) → (prompt ≡ prompts.Overwrite → ⊥)
    → after_any d None was prompt search_state x (wheel_key way) ≡ after_wheel d was x way
wheel-any d was Up prompts.Off Off x other = refl
wheel-any d was Up prompts.Off Begun x other = refl
wheel-any d was Up prompts.Off Typed x other = refl
wheel-any d was Up prompts.Off WithBegun x other = refl
wheel-any d was Up prompts.Off WithTyped x other = refl
wheel-any d was Up prompts.Off Replacing x other = refl
wheel-any d was Up prompts.Line search_state x other = refl
wheel-any d was Up prompts.Name search_state x other = refl
wheel-any d was Up prompts.Code search_state x other = refl
wheel-any d was Up prompts.File search_state x other = refl
wheel-any d was Up prompts.Overwrite search_state x other = absurd (other refl)
wheel-any d was Down prompts.Off Off x other = refl
wheel-any d was Down prompts.Off Begun x other = refl
wheel-any d was Down prompts.Off Typed x other = refl
wheel-any d was Down prompts.Off WithBegun x other = refl
wheel-any d was Down prompts.Off WithTyped x other = refl
wheel-any d was Down prompts.Off Replacing x other = refl
wheel-any d was Down prompts.Line search_state x other = refl
wheel-any d was Down prompts.Name search_state x other = refl
wheel-any d was Down prompts.Code search_state x other = refl
wheel-any d was Down prompts.File search_state x other = refl
wheel-any d was Down prompts.Overwrite search_state x other = absurd (other refl)

scrolls-by : (t : ℕ) (way : Vertical) (prompt : Prompt) (search_state : SearchState) → (prompt ≡ prompts.Overwrite → ⊥)
    → scroll_in t prompt search_state (wheel_key way) ≡ By way 3
scrolls-by t Up prompts.Off search_state other = refl
scrolls-by t Up prompts.Line search_state other = refl
scrolls-by t Up prompts.Name search_state other = refl
scrolls-by t Up prompts.Code search_state other = refl
scrolls-by t Up prompts.File search_state other = refl
scrolls-by t Up prompts.Overwrite search_state other = absurd (other refl)
scrolls-by t Down prompts.Off search_state other = refl
scrolls-by t Down prompts.Line search_state other = refl
scrolls-by t Down prompts.Name search_state other = refl
scrolls-by t Down prompts.Code search_state other = refl
scrolls-by t Down prompts.File search_state other = refl
scrolls-by t Down prompts.Overwrite search_state other = absurd (other refl)

pressed : (way : Vertical) → is_told_key (wheel_key way) ≡ false
pressed Up = refl
pressed Down = refl

accepted : (e : Editor) (way : Vertical) → refuses_replacing e (wheel_key way) ≡ false
accepted e Up = refl
accepted e Down = refl

-- a row that is shown, or not
shown-true : (a c t : ℕ) → is_among a c t ≡ true → (a ≤ c) × (c < a + t)
shown-true a c t is = (grind (arith, nat_tests), grind (arith, nat_tests))

shown-false : (a c t : ℕ) → is_among a c t ≡ false → (a ≤ c) × (c < a + t) → ⊥
shown-false a c t is h = let low = h.0 in let high = h.1 in grind (arith, nat_tests)

module _ (d : Data) (e : Editor) (can : CanScroll e) (way : Vertical) where
  abbrev key : Key
  key = wheel_key way

  abbrev t : ℕ
  t = text_height e.height

  abbrev scroll : Scroll
  scroll = By way 3

  -- the offset of the row that is shown first then
  abbrev moved : ℕ
  moved = top_away (rows d e) way 3 e.top t

  top-row : row_of (rows d e) moved ≡ wheeled_row d e way
  top-row = away-row d e can.rows_fit way 3 e.top

  -- where the cursor stays, and where it goes
  abbrev still : Option Message → Editor
  still message = as_left key (record (cleared e) { message = message })

  abbrev gone : Editor
  gone = as_left key (carried d (cleared e) moved)

  -- the message is as before if the view stays
  abbrev by : Bool → Bool → Editor
  by shown stays =
      as_left key (if shown
      then (if stays then record (cleared e) { message = (before e).message } else cleared e)
      else carried d (cleared e) moved)

  abbrev is-shown : Bool
  is-shown = shows_place d e moved

  new-is : after_key d None e key ≡ by is-shown (moved == row_home (rows d e) e.top)
  new-is =
      user-key d None e key can.settled (pressed way) (accepted e way)
      ∙ ap (as_left key) (wheel-any d (before e) way e.prompt e.search_state (cleared e) can.undecided)

  shown-is : shown_after d e key ≡ scrolled_by d scroll (by is-shown (moved == row_home (rows d e) e.top))
  shown-is =
      ap (λ s. scrolled_by d s (after_key d None e key)) (scrolls-by t way e.prompt e.search_state can.undecided)
      ∙ ap (scrolled_by d scroll) new-is

  still-rows : (message : Option Message) → HasRows (still message)
  still-rows message = record { text = can.rows_fit.text; columns = can.rows_fit.columns }

  gone-rows : HasRows gone
  gone-rows = record { text = can.rows_fit.text; columns = can.rows_fit.columns }

  stays-put : (message : Option Message) → StaysPut e (scrolled_by d scroll (still message))
  stays-put message = go way
    where
      go : (w : Vertical) → StaysPut e (scrolled_by d scroll (as_left (wheel_key w) (record (cleared e) { message = message })))
      go Up = record { place_is = refl; mark_is = refl; soft_is = refl; goal_is = refl; prompt_is = refl; search_is = refl }
      go Down = record { place_is = refl; mark_is = refl; soft_is = refl; goal_is = refl; prompt_is = refl; search_is = refl }

  -- where the cursor's row is shown
  wheels-still : is-shown ≡ true → (message : Option Message) → Wheels d e (wheeled_row d e way) (scrolled_by d scroll (still message))
  wheels-still shown message =
      let from : IsShownFrom (rows d e) e.place t (row_of (rows d e) moved) = shown-true (row_of (rows d e) moved) (row_of (rows d e) e.place) t shown in
      record {
        content_is = refl;
        top_is = top-is d (still message) (still-rows message) can.on scroll from ∙ top-row;
        shows = shows-there d (still message) (still-rows message) can.on scroll from;
        stays = λ there. stays-put message;
        goes = λ hidden. absurd (hidden (subst (IsShownFrom (rows d e) e.place t) top-row from));
      }

  law : KeepsShown e.width (rows d e) t
  law = keeps-shown d e.base e.width (side-some e.width can.rows_fit.columns) e.content.text can.rows_fit.text t (height-some e.height)

  wheels-gone : is-shown ≡ false → Wheels d e (wheeled_row d e way) (scrolled_by d scroll gone)
  wheels-gone hidden =
      let from = law.shows moved e.place (kept_goal d (cleared e)) in
      record {
        content_is = refl;
        top_is = top-is d gone gone-rows can.on scroll from ∙ top-row;
        shows = shows-there d gone gone-rows can.on scroll from;
        stays = λ there. absurd (shown-false (row_of (rows d e) moved) (row_of (rows d e) e.place) t hidden
            (subst (IsShownFrom (rows d e) e.place t) (sym top-row) there));
        goes = λ out. record { prompt_is = refl; search_is = refl };
      }

  wheels-by : (shown stays : Bool) → is-shown ≡ shown → Wheels d e (wheeled_row d e way) (scrolled_by d scroll (by shown stays))
  wheels-by true true is = wheels-still is (before e).message
  wheels-by true false is = wheels-still is None
  wheels-by false stays is = wheels-gone is

  wheels : Wheels d e (wheeled_row d e way) (shown_after d e key)
  wheels = subst (Wheels d e (wheeled_row d e way)) (sym shown-is) (wheels-by is-shown (moved == row_home (rows d e) e.top) refl)

  -- ---- where the cursor's row stays shown

  -- all but the message and the view is as it was
  abbrev Rests : Editor → Type 0
  Rests new = (message : Option Message) × (top : ℕ) × (new ≡ with_top (still message) top)

  rests-by : (shown stays : Bool) → is-shown ≡ shown → shown ≡ true → Rests (scrolled_by d scroll (by shown stays))
  rests-by true true is so = ((before e).message, top_behind d (still (before e).message) e.top scroll, refl)
  rests-by true false is so = (None, top_behind d (still None) e.top scroll, refl)
  rests-by false stays is so = absurd (cc so)

  rests : IsShownFrom (rows d e) e.place t (wheeled_row d e way) → Rests (shown_after d e key)
  rests there =
      let from : IsShownFrom (rows d e) e.place t (row_of (rows d e) moved) = subst (IsShownFrom (rows d e) e.place t) (sym top-row) there in
      let shown : is-shown ≡ true = among from in
      subst Rests (sym shown-is) (rests-by is-shown (moved == row_home (rows d e) e.top) refl shown)
    where
      among : IsShownFrom (rows d e) e.place t (row_of (rows d e) moved) → is-shown ≡ true
      among h = let low = h.0 in let high = h.1 in grind (arith, nat_tests)

pub wheel-moves-view : WheelMovesView
wheel-moves-view d e way can = wheels d e can way

-- ---- there and back

-- the wheel turned one way, and then the other, where the second turn makes good the first
module _ (d : Data) (e : Editor) (can : CanScroll e) (way other : Vertical) where
  abbrev height : ℕ
  height = text_height e.height

  abbrev resting : Option Message → ℕ → Editor
  resting message top = with_top (as_left (wheel_key way) (record (cleared e) { message = message })) top

  rest-can : (message : Option Message) (top : ℕ) → CanScroll (resting message top)
  rest-can message top = record {
    rows_fit = record { text = can.rows_fit.text; columns = can.rows_fit.columns };
    on = can.on;
    settled = can.settled;
    undecided = can.undecided;
  }

  again : (message : Option Message) (top : ℕ) → top_row_away (length (rows d e)) other 3 (row_of (rows d e) top) height ≡ top_row d e
      → IsShownFrom (rows d e) e.place height (top_row d e) → IsSeenAsBefore d e (shown_after d (resting message top) (wheel_key other))
  again message top is from =
      let turned = wheels d (resting message top) (rest-can message top) other in
      let stays = turned.stays (subst (IsShownFrom (rows d e) e.place height) (sym is) from) in
      record { place_is = stays.place_is; top_is = turned.top_is ∙ is }

  back : (k : ℕ) → wheeled_row d e way ≡ k → top_row_away (length (rows d e)) other 3 k height ≡ top_row d e
      → IsShownFrom (rows d e) e.place height (top_row d e) → IsShownFrom (rows d e) e.place height k
      → IsSeenAsBefore d e (shown_after d (shown_after d e (wheel_key way)) (wheel_key other))
  back k is returns from there =
      let turned = wheels d e can way in
      let rest = rests d e can way (subst (IsShownFrom (rows d e) e.place height) (sym is) there) in
      let at : row_of (rows d e) rest.1 ≡ k = sym (ap (top_row d) rest.2) ∙ turned.top_is ∙ is in
      subst (λ x. IsSeenAsBefore d e (shown_after d x (wheel_key other))) (sym rest.2)
      (again rest.0 rest.1 (ap (λ n. top_row_away (length (rows d e)) other 3 n height) at ∙ returns) from)

pub wheel-goes-back : WheelGoesBack
wheel-goes-back d e can = record {
  on = λ fits from there.
      let k = top_row d e in
      back d e can Down Up (k + 3) (omega (arith, fits)) (omega arith) from there;
  back = λ top is fits from there.
      back d e can Up Down top (omega (arith, is)) (omega (arith, is, fits)) from there;
}
