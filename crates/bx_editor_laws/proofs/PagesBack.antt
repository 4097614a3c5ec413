-- A page on and a page back lead to the view and the place that were before.
use Rattle.std.proofs.Common.{◌≡◌, ◌∙◌, ℕ, ◌+◌, ◌-◌, ◌<◌, ◌≤◌, true, false, [], ◌∷◌, length, None, refl, sym, ap, ap₂, subst, arith}
use Rattle.bx_ucd.specs.Data.{Data}
use Rattle.bx_paragraph.proofs.Starts.{side-some}
use Rattle.bx_view.specs.declared.moves.Goal.{Goal}
use Rattle.bx_view.specs.declared.moves.Vertical.{Vertical}
use Rattle.bx_view.specs.declared.moves.Vertical.TheVariants.{Up, Down}
use Rattle.bx_view.specs.Laws.{IsShownFrom}
use Rattle.bx_view.specs.Moves.{goal_of, rows_away}
use Rattle.bx_view.specs.TextRows.{cell_of, row_of}
use Rattle.bx_view.specs.Top.{top_row_away}
use Rattle.bx_editor.specs.declared.questions.answers.Prompt.{Prompt}
use Rattle.bx_editor.specs.declared.questions.answers.Prompt.TheVariants as prompts
use Rattle.bx_editor.specs.declared.scrolling.Scroll.TheVariants.{By}
use Rattle.bx_editor.specs.declared.search_state.SearchState.{SearchState}
use Rattle.bx_editor.specs.Editor.{Editor, rows, text_height, with_top}
use Rattle.bx_editor.specs.Functions.{HasRows, after_keys}
use Rattle.bx_editor.specs.Keys.{after_key}
use Rattle.bx_editor.specs.Picture.{scrolled_by, top_behind}
use Rattle.bx_editor.specs.Scrolling.{page_rows, scroll_in}
use Rattle.bx_editor_laws.specs.ScrollLaws.{PagesGoBack, PagesReturn, ShowsCursor, page_of, shown_after, top_row}
use Rattle.bx_editor_laws.specs.WorkLaws.{CanMove, IsCovering, LeadsBack, own_row}
use Rattle.bx_editor_laws.proofs.RowMoves.{Marks, enter, falls-there, far-down, far-up, kept-at, key-moves, keys-from, left, move_key, size}
use Rattle.bx_editor_laws.proofs.ThereAndBack.{page-moves-go-back}
use Rattle.bx_editor_laws.proofs.TopSettled.{away-row, top-is}

-- a page moves the view by a page
pages-by : (t : ℕ) (way : Vertical) (prompt : Prompt) (search_state : SearchState) → prompt ≡ prompts.Off
    → scroll_in t prompt search_state (move_key true way) ≡ By way (page_rows t)
pages-by t Up prompt search_state unasked = ap (λ q. scroll_in t q search_state (move_key true Up)) unasked
pages-by t Down prompt search_state unasked = ap (λ q. scroll_in t q search_state (move_key true Down)) unasked

-- another editor with the same place
same-place : (d : Data) (e : Editor) (n : ℕ) (x y : Editor) → x.place ≡ y.place → LeadsBack d e n x → LeadsBack d e n y
same-place d e n x y same leads = record {
  to_place = λ not. sym same ∙ leads.to_place not;
  to_edge = λ full more. subst (IsCovering e.width (own_row d e) (cell_of e.width (rows d e) e.place)) same (leads.to_edge full more);
}

module _ (d : Data) (e : Editor) (can : CanMove d e) (on : e.ended ≡ false) (none : e.goal ≡ None) (way other : Vertical) where
  abbrev goal : Goal
  goal = goal_of e.width (rows d e) e.place

  abbrev p : ℕ
  p = size true e.height

  abbrev t : ℕ
  t = text_height e.height

  abbrev own : Marks
  own = (e.mark, e.soft)

  -- the first key
  abbrev at-first : ℕ
  at-first = rows_away e.width (rows d e) way p goal e.place

  abbrev first : Editor
  first = kept-at d e can.unsought can.settled can.unasked true goal (left own) at-first

  first-is : after_key d None e (move_key true way) ≡ first
  first-is =
      keys-from d e can.unsought can.settled can.unasked true goal none refl way []
      ∙ key-moves d e can.unsought can.settled can.unasked true goal way own e.place

  abbrev first-top : ℕ
  first-top = top_behind d first e.top (By way p)

  first-shown : shown_after d e (move_key true way) ≡ with_top first first-top
  first-shown = ap₂ (λ s x. scrolled_by d s x) (pages-by t way e.prompt e.search_state can.unasked) first-is

  -- the second one
  abbrev then : Editor
  then = with_top e first-top

  abbrev at-second : ℕ
  at-second = rows_away e.width (rows d e) other p goal at-first

  abbrev second : Editor
  second = kept-at d then can.unsought can.settled can.unasked true goal (left (left own)) at-second

  second-is : after_key d None (with_top first first-top) (move_key true other) ≡ second
  second-is = key-moves d then can.unsought can.settled can.unasked true goal other (left own) at-first

  abbrev second-top : ℕ
  second-top = top_behind d second first-top (By other p)

  second-shown : shown_after d (with_top first first-top) (move_key true other) ≡ with_top second second-top
  second-shown = ap₂ (λ s x. scrolled_by d s x) (pages-by t other e.prompt e.search_state can.unasked) second-is

  both-shown : shown_after d (shown_after d e (move_key true way)) (move_key true other) ≡ with_top second second-top
  both-shown = ap (λ x. shown_after d x (move_key true other)) first-shown ∙ second-shown

  -- without the view
  both-is : after_keys d None e (move_key true way ∷ move_key true other ∷ [])
      ≡ kept-at d e can.unsought can.settled can.unasked true goal (left (left own)) at-second
  both-is =
      ap (λ x. after_key d None x (move_key true other)) first-is
      ∙ key-moves d e can.unsought can.settled can.unasked true goal other (left own) at-first

  first-rows : HasRows first
  first-rows = record { text = can.rows_fit.text; columns = can.rows_fit.columns }

  second-rows : HasRows second
  second-rows = record { text = can.rows_fit.text; columns = can.rows_fit.columns }

  back-by : (k : ℕ) → top_row_away (length (rows d e)) way p (top_row d e) t ≡ k → top_row_away (length (rows d e)) other p k t ≡ top_row d e
      → IsShownFrom (rows d e) at-first t k → IsShownFrom (rows d e) at-second t (top_row d e)
      → LeadsBack d e 1 (after_keys d None e (move_key true way ∷ move_key true other ∷ []))
      → let new = shown_after d (shown_after d e (move_key true way)) (move_key true other) in (top_row d new ≡ top_row d e) × LeadsBack d e 1 new
  back-by k there back first-in second-in leads =
      let one = away-row d first first-rows way p e.top ∙ there in
      let first-at : row_of (rows d e) first-top ≡ k =
      top-is d first first-rows on (By way p) (subst (IsShownFrom (rows d e) at-first t) (sym one) first-in) ∙ one in
      let two =
      away-row d second second-rows other p first-top ∙ ap (λ n. top_row_away (length (rows d e)) other p n t) first-at ∙ back in
      let second-at : row_of (rows d e) second-top ≡ top_row d e =
      top-is d second second-rows on (By other p) (subst (IsShownFrom (rows d e) at-second t) (sym two) second-in) ∙ two in
      subst (λ new. (top_row d new ≡ top_row d e) × LeadsBack d e 1 new) (sym both-shown) (
        second-at,
        same-place d e 1 (after_keys d None e (move_key true way ∷ move_key true other ∷ [])) (with_top second second-top)
            (ap (λ x. x.place) both-is) leads,
      )

module _ (d : Data) (e : Editor) (can : CanMove d e) (on : e.ended ≡ false) (none : e.goal ≡ None) (shows : ShowsCursor d e) where
  abbrev page : ℕ
  page = page_of e

  abbrev some : 1 ≤ e.width
  some = side-some e.width can.rows_fit.columns

  abbrev own-goal : Goal
  own-goal = goal_of e.width (rows d e) e.place

  abbrev enters : ℕ → ℕ
  enters = enter d e.base e.width some e.content.text can.rows_fit.text own-goal

  falls : (k : ℕ) → k < length (rows d e) → row_of (rows d e) (enters k) ≡ k
  falls = falls-there d e.base e.width some e.content.text can.rows_fit.text own-goal

  abbrev k : ℕ
  k = row_of (rows d e) e.place

  page-some : 1 ≤ page
  page-some = omega arith

  abbrev down : ℕ → ℕ
  down place = rows_away e.width (rows d e) Down page own-goal place

  abbrev up : ℕ → ℕ
  up place = rows_away e.width (rows d e) Up page own-goal place

  down-falls : (place j : ℕ) → row_of (rows d e) place ≡ j → j + page < length (rows d e) → row_of (rows d e) (down place) ≡ j + page
  down-falls place j at fits =
      ap (row_of (rows d e)) (far-down d e.base e.width some e.content.text can.rows_fit.text own-goal place j page at page-some fits)
      ∙ falls (j + page) fits

  up-falls : (place j : ℕ) → row_of (rows d e) place ≡ j → page ≤ j → j < length (rows d e) → row_of (rows d e) (up place) ≡ j - page
  up-falls place j at fits within =
      ap (row_of (rows d e)) (far-up d e.base e.width some e.content.text can.rows_fit.text own-goal place j page at page-some fits within)
      ∙ falls (j - page) (omega (arith, within))

  pages-return : PagesReturn d e
  pages-return = record {
    on = λ shown fits.
        let low = shows.above in
        let high = shows.below in
        let more : k + page < length (rows d e) = omega (arith, high, fits) in
        let one = down-falls e.place k refl more in
        let two : row_of (rows d e) (up (down e.place)) ≡ k + page - page = up-falls (down e.place) (k + page) one (omega arith) more in
        back-by d e can on none Down Up (top_row d e + page) (omega (arith, fits)) (omega arith)
        (omega (arith, one, low), omega (arith, one, high)) (omega (arith, two, low), omega (arith, two, high))
        ((page-moves-go-back d e 1 can none).below (omega (arith, more)));
    back = λ shown fits full.
        let low = shows.above in
        let high = shows.below in
        let within : k < length (rows d e) = omega (arith, high, full) in
        let one = up-falls e.place k refl (omega (arith, fits, low)) within in
        let lower : k - page + page < length (rows d e) = omega (arith, within, fits, low) in
        let two : row_of (rows d e) (down (up e.place)) ≡ k - page + page = down-falls (up e.place) (k - page) one lower in
        back-by d e can on none Up Down (top_row d e - page) (omega arith) (omega (arith, fits, full))
        (omega (arith, one, low, fits), omega (arith, one, high, fits, low)) (omega (arith, two, low, fits), omega (arith, two, high, fits, low))
        ((page-moves-go-back d e 1 can none).above (omega (arith, fits, low)));
  }

pub pages-go-back : PagesGoBack
pages-go-back d e can on none = record {
  on = λ shown fits. (pages-return d e can on none shown).on shown fits;
  back = λ shown fits full. (pages-return d e can on none shown).back shown fits full;
}
