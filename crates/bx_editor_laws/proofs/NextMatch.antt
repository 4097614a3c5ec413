-- FindNext leads to where Find and then Find lead, and no search is on behind it.
use Rattle.std.proofs.Common.{◌≡◌, ℕ, false, List, [], ◌∷◌, length, refl, sym, ap, ap₂, ◌∙◌, arith, ne_eqb}
use Rattle.std.specs.Prelude.{◌≢◌, ◌==◌, chars, None, if◌then◌else◌}
use Rattle.bx_keys.specs.declared.key.Key.TheVariants.{Find, FindBack, FindNext, FindPrevious}
use Rattle.bx_editor.specs.declared.search_state.SearchPurpose.TheVariants as purposes
use Rattle.bx_editor.specs.declared.search_state.SearchState.TheVariants.{Off, Typed}
use Rattle.bx_editor.specs.declared.cursor.Soft.{Soft}
use Rattle.bx_editor.specs.declared.cursor.Soft.TheVariants as softness
use Rattle.bx_ucd.specs.Data.{Data}
use Rattle.bx_editor.specs.declared.questions.answers.Prompt.{Prompt}
use Rattle.bx_editor.specs.declared.questions.answers.Prompt.TheVariants as prompts
use Rattle.bx_editor.specs.Asking.{without_prompt}
use Rattle.bx_editor.specs.Editor.{Editor, cleared}
use Rattle.bx_editor.specs.Before.{Before, before}
use Rattle.bx_editor.specs.Keys.{after_any, after_key, as_left}
use Rattle.bx_editor.specs.Functions.{after_keys}
use Rattle.bx_find.specs.Letters.{letters}
use Rattle.bx_editor.specs.Putting.{paste_ended}
use Rattle.bx_editor.specs.Search.{after_beginning, after_find_next, after_find_previous, next_or_start, reading, search_back, search_from, sought, sought_alone}
use Rattle.bx_editor.specs.Region.{aged, soft_left, unselected}
use Rattle.bx_editor_laws.proofs.GivenUp.{find-begins}
use Rattle.bx_editor.proofs.InSearch.{any-key}
use Rattle.bx_editor_laws.proofs.PasteEnded.{ended-by, ends-first, over}
use Rattle.bx_editor_laws.specs.WorkLaws.{FindNextIsFindTwice, FindPreviousIsFindBack}

some-letters : (ls : List ℕ) → ls ≢ [] → (length ls == 0) ≡ false
some-letters [] some = absurd (some refl)
some-letters (l ∷ ls) some = ne_eqb (length (l ∷ ls)) 0 (λ same. omega (arith, same))

aged-twice : (soft : Soft) → aged (aged soft) ≡ aged soft
aged-twice softness.Off = refl
aged-twice softness.Fresh = refl
aged-twice softness.Old = refl

-- it ends a question
pub next-any : (d : Data) (was : Before) (prompt : Prompt) (e : Editor) → e.prompt ≡ prompt → (prompt ≡ prompts.Overwrite → ⊥)
    → after_any d None was prompt Off e FindNext ≡ after_find_next d (unselected (without_prompt e))
next-any d was prompts.Off e is other = ap (λ a. after_find_next d (unselected (record e { prompt = a }))) is
next-any d was prompts.Line e is other = refl
next-any d was prompts.Name e is other = refl
next-any d was prompts.Code e is other = refl
next-any d was prompts.File e is other = refl
next-any d was prompts.Overwrite e is other = absurd (other refl)

pub previous-any : (d : Data) (was : Before) (prompt : Prompt) (e : Editor) → e.prompt ≡ prompt → (prompt ≡ prompts.Overwrite → ⊥)
    → after_any d None was prompt Off e FindPrevious ≡ after_find_previous d (unselected (without_prompt e))
previous-any d was prompts.Off e is other = ap (λ a. after_find_previous d (unselected (record e { prompt = a }))) is
previous-any d was prompts.Line e is other = refl
previous-any d was prompts.Name e is other = refl
previous-any d was prompts.Code e is other = refl
previous-any d was prompts.File e is other = refl
previous-any d was prompts.Overwrite e is other = absurd (other refl)

module _ (d : Data) (e : Editor) (off : e.search_state ≡ Off) (some : sought d e ≢ []) (other : e.prompt ≡ prompts.Overwrite → ⊥) where
  abbrev was : Editor
  was = unselected (without_prompt (cleared e))

  -- where no paste is under way
  pub next-twice : e.pasted ≡ None
      → after_key d None e FindNext ≡ record (after_keys d None e (Find ∷ Find ∷ [])) { search_state = Off; input_cursor = e.input_cursor }
  next-twice settled =
      let gone = search_from d (next_or_start d was) (sought_alone was) in
      let pressed : after_key d None e FindNext ≡ as_left FindNext gone =
      any-key d None e FindNext settled refl ∙ ap (λ s. as_left FindNext (after_any d None (before e) e.prompt s (cleared e) FindNext)) off
      ∙ ap (as_left FindNext) (next-any d (before e) e.prompt (cleared e) refl other)
      ∙ ap (λ b. as_left FindNext (if b then after_beginning purposes.Find was else gone)) (some-letters (sought d e) some) in
      let once = as_left Find (after_beginning purposes.Find was) in
      let twice : after_keys d None e (Find ∷ Find ∷ [])
      ≡ record gone { search_state = Typed; input_cursor = length e.query; goal = None; soft = aged (aged (soft_left e.soft)); clicks = None; pressed = None } =
      ap (λ new. after_key d None new Find) (find-begins d e settled off other) ∙ any-key d None once Find settled refl in
      pressed ∙ ap (λ s. record gone { search_state = Off; goal = None; soft = s; clicks = None; pressed = None }) (sym (aged-twice (soft_left e.soft)))
      ∙ sym (ap (λ (new : Editor). record new { search_state = Off; input_cursor = e.input_cursor }) twice)

  pub previous-twice : e.pasted ≡ None
      → after_key d None e FindPrevious ≡ record (after_keys d None e (Find ∷ FindBack ∷ [])) { search_state = Off; input_cursor = e.input_cursor }
  previous-twice settled =
      let gone = search_back d (sought_alone was) in
      let pressed : after_key d None e FindPrevious ≡ as_left FindPrevious gone =
      any-key d None e FindPrevious settled refl ∙ ap (λ s. as_left FindPrevious (after_any d None (before e) e.prompt s (cleared e) FindPrevious)) off
      ∙ ap (as_left FindPrevious) (previous-any d (before e) e.prompt (cleared e) refl other)
      ∙ ap (λ b. as_left FindPrevious (if b then after_beginning purposes.Find was else gone)) (some-letters (sought d e) some) in
      let once = as_left Find (after_beginning purposes.Find was) in
      let twice : after_keys d None e (Find ∷ FindBack ∷ [])
      ≡ record gone { search_state = Typed; input_cursor = length e.query; goal = None; soft = aged (aged (soft_left e.soft)); clicks = None; pressed = None } =
      ap (λ new. after_key d None new FindBack) (find-begins d e settled off other) ∙ any-key d None once FindBack settled refl in
      pressed ∙ ap (λ s. record gone { search_state = Off; goal = None; soft = s; clicks = None; pressed = None }) (sym (aged-twice (soft_left e.soft)))
      ∙ sym (ap (λ (new : Editor). record new { search_state = Off; input_cursor = e.input_cursor }) twice)

-- ---- a paste ends first

module _ (d : Data) (e : Editor) where
  cursor : (paste_ended d e).input_cursor ≡ e.input_cursor
  cursor = ended-by d e (λ (x : Editor). x.input_cursor ≡ e.input_cursor) refl refl (λ list. refl) (λ list. refl) refl

  letters-stay : sought d (paste_ended d e) ≡ sought d e
  letters-stay =
      ap₂ (λ q a. letters d (reading a) (chars q))
      (ended-by d e (λ (x : Editor). x.query ≡ e.query) refl refl (λ list. refl) (λ list. refl) refl)
      (ended-by d e (λ (x : Editor). x.purpose ≡ e.purpose) refl refl (λ list. refl) (λ list. refl) refl)

  unsought : e.search_state ≡ Off → (paste_ended d e).search_state ≡ Off
  unsought off = ended-by d e (λ (x : Editor). x.search_state ≡ Off) off off (λ list. refl) (λ list. refl) off

  asked-still : (paste_ended d e).prompt ≡ e.prompt
  asked-still = ended-by d e (λ (x : Editor). x.prompt ≡ e.prompt) refl refl (λ list. refl) (λ list. refl) refl

pub find-next-is-find-twice : FindNextIsFindTwice
find-next-is-find-twice d e off some other =
    let x = paste_ended d e in
    ends-first d None e FindNext refl
    ∙ next-twice d x (unsought d e off) (λ none. some (sym (letters-stay d e) ∙ none)) (λ over. other (sym (asked-still d e) ∙ over)) (over d e)
    ∙ ap₂ (λ (new : Editor) spot. record new { search_state = Off; input_cursor = spot })
    (ap (λ new. after_key d None new Find) (sym (ends-first d None e Find refl))) (cursor d e)

pub find-previous-is-find-back : FindPreviousIsFindBack
find-previous-is-find-back d e off some other =
    let x = paste_ended d e in
    ends-first d None e FindPrevious refl
    ∙ previous-twice d x (unsought d e off) (λ none. some (sym (letters-stay d e) ∙ none)) (λ over. other (sym (asked-still d e) ∙ over)) (over d e)
    ∙ ap₂ (λ (new : Editor) spot. record new { search_state = Off; input_cursor = spot })
    (ap (λ new. after_key d None new FindBack) (sym (ends-first d None e Find refl))) (cursor d e)
