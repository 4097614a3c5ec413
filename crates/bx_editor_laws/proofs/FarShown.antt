-- Far keys show the cursor's row.
use Rattle.std.proofs.Common.{◌≡◌, ◌∙◌, ℕ, ◌+◌, ◌/◌, ◌≤◌, min, Bool, true, false, None, refl, sym, ap, subst}
use Rattle.std.specs.Prelude.{◌&&◌, ◌||◌}
use Rattle.bx_keys.specs.declared.key.Key.{Key}
use Rattle.bx_keys.specs.declared.key.Key.TheVariants.{Fill, PageBack, PageOn, ScrollBack, ScrollOn}
use Rattle.bx_ucd.specs.Data.{Data}
use Rattle.bx_paragraph.proofs.Starts.{side-some}
use Rattle.bx_view.specs.Laws.{IsShownFrom}
use Rattle.bx_view.specs.TextRows.{row_of}
use Rattle.bx_view.specs.Top.{centred}
use Rattle.bx_view_laws.specs.Views.{Centres, IsFull}
use Rattle.bx_view_laws.proofs.ViewRows.{centres}
use Rattle.bx_editor.specs.declared.questions.answers.Prompt.{Prompt}
use Rattle.bx_editor.specs.declared.questions.answers.Prompt.TheVariants as prompts
use Rattle.bx_editor.specs.declared.scrolling.Scroll.TheVariants.{Centre}
use Rattle.bx_editor.specs.declared.search_state.SearchState.{SearchState}
use Rattle.bx_editor.specs.Editor.{Editor, rows, text_height}
use Rattle.bx_editor.specs.Functions.{HasRows}
use Rattle.bx_editor.specs.Keys.{after_key}
use Rattle.bx_editor.specs.Picture.{scrolled_by}
use Rattle.bx_editor.specs.Scrolling.{asks_line, centre_if, has_input_line, is_far, is_search, scroll_by, scroll_in}
use Rattle.bx_editor_laws.specs.ScrollLaws.{FarKeysShow, ShowsCursor, ShowsFar, top_row}
use Rattle.bx_editor_laws.proofs.TopSettled.{height-some, shows-there, top-is}

-- ---- a far key centres

no-one : (a b c : Bool) → (false || (a && false) || (b && false) || (c && false)) ≡ false
no-one true true true = refl
no-one true true false = refl
no-one true false true = refl
no-one true false false = refl
no-one false true true = refl
no-one false true false = refl
no-one false false true = refl
no-one false false false = refl

-- what moves the view by itself is not far
not-far : (prompt : Prompt) (search_state : SearchState) → is_far prompt search_state Fill ≡ false
not-far prompt search_state = no-one (asks_line prompt) (is_search search_state) (has_input_line prompt search_state)

absurd-far : (prompt : Prompt) (search_state : SearchState) (P : Type 0) → is_far prompt search_state Fill ≡ true → P
absurd-far prompt search_state P far = let no : false ≡ true = sym (not-far prompt search_state) ∙ far in absurd (cc no)

centres-by : (t : ℕ) (prompt : Prompt) (search_state : SearchState) (key : Key) → is_far prompt search_state key ≡ true
    → scroll_by t prompt search_state key ≡ Centre
centres-by t prompt search_state PageBack far = absurd-far prompt search_state (scroll_by t prompt search_state PageBack ≡ Centre) far
centres-by t prompt search_state PageOn far = absurd-far prompt search_state (scroll_by t prompt search_state PageOn ≡ Centre) far
centres-by t prompt search_state ScrollBack far = absurd-far prompt search_state (scroll_by t prompt search_state ScrollBack ≡ Centre) far
centres-by t prompt search_state ScrollOn far = absurd-far prompt search_state (scroll_by t prompt search_state ScrollOn ≡ Centre) far
centres-by t prompt search_state Fill far = absurd-far prompt search_state (scroll_by t prompt search_state Fill ≡ Centre) far
centres-by t prompt search_state _ far = ap centre_if far

centres-in : (t : ℕ) (prompt : Prompt) (search_state : SearchState) (key : Key) → (prompt ≡ prompts.Overwrite → ⊥) → is_far prompt search_state key ≡ true
    → scroll_in t prompt search_state key ≡ Centre
centres-in t prompts.Off search_state key other far = centres-by t prompts.Off search_state key far
centres-in t prompts.Line search_state key other far = centres-by t prompts.Line search_state key far
centres-in t prompts.Name search_state key other far = centres-by t prompts.Name search_state key far
centres-in t prompts.Code search_state key other far = centres-by t prompts.Code search_state key far
centres-in t prompts.File search_state key other far = centres-by t prompts.File search_state key far
centres-in t prompts.Overwrite search_state key other far = absurd (other refl)

-- ---- what is shown then

module _ (d : Data) (x : Editor) (has : HasRows x) (on : x.ended ≡ false) where
  abbrev t : ℕ
  t = text_height x.height

  law : Centres (rows d x) t
  law = centres d x.base x.width (side-some x.width has.columns) x.content.text has.text t (height-some x.height)

  abbrev there : ℕ
  there = row_of (rows d x) (centred (rows d x) x.top x.place t)

  shown : IsShownFrom (rows d x) x.place t there
  shown = law.shows x.top x.place

  is : top_row d (scrolled_by d Centre x) ≡ there
  is = top-is d x has on Centre shown

  from : ShowsCursor d x → IsShownFrom (rows d x) x.place t (row_of (rows d x) x.top)
  from h = (h.above, h.below)

  as-among : IsShownFrom (rows d x) x.place t (row_of (rows d x) x.top) → ShowsCursor d x
  as-among h = record { above = h.0; below = h.1 }

  far : ShowsFar d x (scrolled_by d Centre x)
  far = record {
    shows = shows-there d x has on Centre shown;
    stays = λ h. is ∙ law.stays x.top x.place (from h);
    full = λ hidden. subst (IsFull (rows d x) t) (sym is) (law.fills x.top x.place (λ h. hidden (as-among h)));
    above = λ hidden. subst (λ k. k + min (t / 2) (row_of (rows d x) x.place) ≤ row_of (rows d x) x.place) (sym is)
        (law.above x.top x.place (λ h. hidden (as-among h)));
  }

pub far-keys-show : FarKeysShow
far-keys-show d e key has on other is =
    let new = after_key d None e key in
    subst (λ s. ShowsFar d new (scrolled_by d s new)) (sym (centres-in (text_height e.height) e.prompt e.search_state key other is)) (far d new has on)
