-- In a text that is only looked at, each key that would change it only says so.
use Rattle.std.proofs.Common.{◌≡◌, ◌∙◌, ◌⊎◌, inl, inr, ⊎_elim, true, false, Option, Some, None, refl, sym, ap, ap₂, subst, if◌then◌else◌}
use Rattle.std.specs.Prelude.{◌&&◌, not}
use Rattle.bx_keys.specs.declared.key.Key.{Key}
use Rattle.bx_keys.specs.declared.key.Key.TheVariants.{Insert, NewLine, Erase, ErasePoint, Delete, EraseWord, DeleteWord, Cut, Put, UndoEdit, RedoEdit, Undo, Redo}
use Rattle.bx_keys.specs.declared.key.Key.TheVariants.{Name as NameKey, PasteStart, Replace, Save}
use Rattle.bx_store.specs.declared.store.StoreFault.{StoreFault}
use Rattle.bx_ucd.specs.Data.{Data}
use Rattle.bx_editor.specs.declared.answer.Answer.TheVariants.{Ends}
use Rattle.bx_editor.specs.declared.message.Message.TheVariants.{ViewOnly}
use Rattle.bx_editor.specs.declared.questions.answers.Prompt.TheVariants as prompts
use Rattle.bx_editor.specs.declared.search_state.SearchState.TheVariants.{Off}
use Rattle.bx_editor.specs.Answering.{answer_of}
use Rattle.bx_editor.specs.Asking.{without_prompt}
use Rattle.bx_editor.specs.Before.{Before, before}
use Rattle.bx_editor.specs.Editor.{Editor, cleared, unpressed, with_typing}
use Rattle.bx_editor.specs.declared.undo_groups.typing.Typing.TheVariants.{Paste}
use Rattle.bx_editor.specs.Status.{row_text}
use Rattle.bx_editor.specs.Effects.{Refuses, by}
use Rattle.bx_editor.specs.Functions.{is_told_key}
use Rattle.bx_editor.specs.Keys.{after_any, after_key, after_pressing, as_left, changes_text, effect_of, refuses_replacing}
use Rattle.bx_editor.specs.Putting.{is_free, paste_begun}
use Rattle.bx_editor.proofs.InSearch.{any-key}
use Rattle.bx_editor_laws.specs.ViewLaws.{SaysViewOnly, ViewIsTold, ViewOnlyIsTold, only_told, view_only_row}
use Rattle.bx_editor_laws.proofs.KeyEnds.{behind, ended-key, free-key, no-overwrite}

-- what such a key leaves of a selection that is fresh, a kept column and presses
left-behind : (key : Key) → changes_text key ≡ true → (x : Editor) → as_left key x ≡ behind x
left-behind (Insert c) is x = refl
left-behind NewLine is x = refl
left-behind Erase is x = refl
left-behind ErasePoint is x = refl
left-behind Delete is x = refl
left-behind EraseWord is x = refl
left-behind DeleteWord is x = refl
left-behind Cut is x = refl
left-behind Put is x = refl
left-behind UndoEdit is x = refl
left-behind RedoEdit is x = refl
left-behind Undo is x = refl
left-behind Redo is x = refl
left-behind Replace is x = refl
left-behind NameKey is x = refl
left-behind Save is x = refl
left-behind _ is x = absurd (cc is)

-- such a key is pressed by the user
not-told : (key : Key) → changes_text key ≡ true → is_told_key key ≡ false
not-told (Insert c) is = refl
not-told NewLine is = refl
not-told Erase is = refl
not-told ErasePoint is = refl
not-told Delete is = refl
not-told EraseWord is = refl
not-told DeleteWord is = refl
not-told Cut is = refl
not-told Put is = refl
not-told UndoEdit is = refl
not-told RedoEdit is = refl
not-told Undo is = refl
not-told Redo is = refl
not-told Replace is = refl
not-told NameKey is = refl
not-told Save is = refl
not-told _ is = absurd (cc is)

-- but for Replace, it is not refused before what is asked and sought has it
accepts : (e : Editor) (key : Key) → (key ≡ Replace → ⊥) → refuses_replacing e key ≡ false
accepts e Replace other = absurd (other refl)
accepts e _ other = refl

is-replace : (key : Key) → (key ≡ Replace) ⊎ (key ≡ Replace → ⊥)
is-replace Replace = inl refl
is-replace _ = inr (λ e. cc e)

ends-accepts : (e : Editor) (key : Key) → answer_of key ≡ Ends → refuses_replacing e key ≡ false
ends-accepts e Replace ends = absurd (cc ends)
ends-accepts e _ ends = refl

-- the status row says it
says-so : (d : Data) (e new : Editor) → new ≡ only_told e → SaysViewOnly d e new
says-so d e new is = record { stays = is; says = subst (λ (x : Editor). row_text d x ≡ view_only_row d e) (sym is) refl }

module _ (d : Data) (fault : Option StoreFault) (e : Editor) (looked : e.read_only ≡ true) (settled : e.pasted ≡ None) where
  refused : (was : Before) (x : Editor) (key : Key) → changes_text key ≡ true → x.read_only ≡ true
      → after_pressing d fault was x key ≡ record x { message = Some ViewOnly }
  refused was x key is reads = ap₂ (λ c r. by d fault was x (if c && r then Refuses else effect_of d x key)) is reads

  replacing : (e.prompt ≡ prompts.Overwrite → ⊥) → after_key d fault e Replace ≡ only_told e
  replacing other =
      any-key d fault e Replace settled refl
      ∙ ap₂ (λ r o. as_left Replace (if r && not o
      then by d fault (before e) (cleared e) Refuses
      else after_any d fault (before e) e.prompt e.search_state (cleared e) Replace)) looked (no-overwrite e.prompt other)

  module _ (key : Key) (is : changes_text key ≡ true) where
    accepted : refuses_replacing e key ≡ false → e.prompt ≡ prompts.Off → e.search_state ≡ Off → after_key d fault e key ≡ only_told e
    accepted accept unasked unsought =
        free-key d fault e key settled (not-told key is) accept unasked unsought
        ∙ ap (as_left key) (refused (before e) (cleared e) key is looked)
        ∙ left-behind key is (record (cleared e) { message = Some ViewOnly })

    pressed : e.prompt ≡ prompts.Off → e.search_state ≡ Off → after_key d fault e key ≡ only_told e
    pressed unasked unsought = ⊎_elim
        (λ (same : key ≡ Replace). ap (after_key d fault e) same ∙ replacing (λ over. let no : prompts.Off ≡ prompts.Overwrite = sym unasked ∙ over in cc no))
        (λ other. accepted (accepts e key other) unasked unsought) (is-replace key)

    ending : (e.prompt ≡ prompts.Overwrite → ⊥) → answer_of key ≡ Ends → after_key d fault e key ≡ only_told (without_prompt e)
    ending other ends =
        ended-key d fault e key settled (not-told key is) (ends-accepts e key ends) ends other
        ∙ ap (as_left key) (refused (before e) (without_prompt (cleared e)) key is looked)
        ∙ left-behind key is (record (without_prompt (cleared e)) { message = Some ViewOnly })

  pasting : e.prompt ≡ prompts.Off → e.search_state ≡ Off → after_key d fault e PasteStart ≡ unpressed (record e { message = Some ViewOnly })
  pasting unasked unsought =
      let free : is_free e.prompt e.search_state e.pasted ≡ true =
      ap₂ (λ p s. is_free p s e.pasted) unasked unsought ∙ ap (is_free prompts.Off Off) settled in
      ap₂ (λ r f. if r && f then unpressed (record e { message = Some ViewOnly }) else unpressed (with_typing (paste_begun e.prompt e.search_state e.pasted e) Paste))
      looked free

  view-is-told : ViewIsTold d fault e
  view-is-told = record {
    key = λ key unasked unsought is. says-so d e (after_key d fault e key) (pressed key is unasked unsought);
    ending = λ key other ends is. says-so d (without_prompt e) (after_key d fault e key) (ending key is other ends);
    replace = λ other. says-so d e (after_key d fault e Replace) (replacing other);
    paste = pasting;
  }

pub view-only-is-told : ViewOnlyIsTold
view-only-is-told d fault e looked settled = view-is-told d fault e looked settled
