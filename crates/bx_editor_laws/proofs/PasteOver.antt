-- A paste that is under way is over after a key exactly if the key ends it.
use Rattle.std.proofs.Common.{◌≡◌, ℕ, Bool, true, false, List, Option, Some, None, refl, sym, ap, subst, ◌∙◌, if◌then◌else◌}
use Rattle.std.specs.Prelude.{◌≢◌}
use Rattle.bx_keys.specs.declared.key.Key.{Key}
use Rattle.bx_keys.specs.declared.key.Key.TheVariants.{Fill, Insert, Notice, PasteStart, Repaint, Size}
use Rattle.bx_store.specs.declared.store.StoreFault.{StoreFault}
use Rattle.bx_ucd.specs.Data.{Data}
use Rattle.bx_editor.specs.declared.questions.answers.Prompt.{Prompt}
use Rattle.bx_editor.specs.declared.questions.answers.Prompt.TheVariants as prompts
use Rattle.bx_editor.specs.declared.search_state.SearchState.{SearchState}
use Rattle.bx_editor.specs.declared.search_state.SearchState.TheVariants.{Off, Begun, Typed, WithBegun, WithTyped, Replacing}
use Rattle.bx_editor.specs.Before.{Before, before}
use Rattle.bx_editor.specs.Editor.{Editor, cleared, unpressed, with_typing}
use Rattle.bx_editor.specs.declared.message.Message.TheVariants.{ViewOnly}
use Rattle.bx_editor.specs.declared.undo_groups.typing.Typing.TheVariants.{Paste}
use Rattle.bx_editor.specs.Functions.{is_told_key}
use Rattle.bx_editor.specs.Keys.{after_any, after_key, after_press, ends_paste}
use Rattle.bx_editor.specs.Putting.{after_paste_start, longer, paste_begun, paste_ended, pasted_with, pastes_crlf, refuses_paste}
use Rattle.bx_editor_laws.specs.PastingLaws.{PastesEndByKeys}
use Rattle.bx_editor.proofs.InSearch.{each-key}
use Rattle.bx_editor_laws.proofs.PasteAlone.{IsSettled, user-settled}
use Rattle.bx_editor_laws.proofs.PasteEnded.{in-ends, over}

-- ---- a key that ends it

pressed-over : (d : Data) (fault : Option StoreFault) (e : Editor) (key : Key) (pasted : Option (List ℕ)) → pasted ≢ None
    → ends_paste key ≡ true → IsSettled (after_press d fault pasted e key)
pressed-over d fault e key None some ends = absurd (some refl)
pressed-over d fault e key (Some list) some ends =
    subst IsSettled (sym (in-ends d fault e key ends)) (user-settled d fault (paste_ended d e) key (over d e))

ended : (d : Data) (fault : Option StoreFault) (e : Editor) (key : Key) → e.pasted ≢ None → ends_paste key ≡ true
    → IsSettled (after_key d fault e key)
ended d fault e key some =
    each-key d fault e (λ k new. ends_paste k ≡ true → IsSettled new) (λ height width ends. absurd (cc ends)) (λ notice ends. absurd (cc ends))
    (λ ends. absurd (cc ends)) (λ ends. absurd (cc ends), λ ends. over d e) (λ k small ends. pressed-over d fault e k e.pasted some ends) key

-- ---- any other key

painted : (d : Data) (fault : Option StoreFault) (was : Before) (prompt : Prompt) (search_state : SearchState) (e : Editor)
    → (after_any d fault was prompt search_state e Repaint).pasted ≡ e.pasted
painted d fault was prompts.Off Off e = refl
painted d fault was prompts.Off Begun e = refl
painted d fault was prompts.Off Typed e = refl
painted d fault was prompts.Off WithBegun e = refl
painted d fault was prompts.Off WithTyped e = refl
painted d fault was prompts.Off Replacing e = refl
painted d fault was prompts.Line search_state e = refl
painted d fault was prompts.Name search_state e = refl
painted d fault was prompts.Code search_state e = refl
painted d fault was prompts.File search_state e = refl
painted d fault was prompts.Overwrite search_state e = refl

-- PasteStart begins none while one is under way
begun : (e : Editor) (prompt : Prompt) (search_state : SearchState) (pasted : Option (List ℕ)) → e.pasted ≡ pasted → IsSettled (paste_begun prompt search_state pasted e)
    → IsSettled e
begun e prompts.Off Off None is h = is
begun e prompts.Off Off (Some list) is h = h
begun e prompts.Off Begun pasted is h = h
begun e prompts.Off Typed pasted is h = h
begun e prompts.Off WithBegun pasted is h = h
begun e prompts.Off WithTyped pasted is h = h
begun e prompts.Off Replacing pasted is h = h
begun e prompts.Line search_state pasted is h = h
begun e prompts.Name search_state pasted is h = h
begun e prompts.Code search_state pasted is h = h
begun e prompts.File search_state pasted is h = h
begun e prompts.Overwrite search_state pasted is h = h

either-settled : (b : Bool) (p q e : Editor) → (IsSettled p → IsSettled e) → (IsSettled q → IsSettled e) → IsSettled (if b then p else q) → IsSettled e
either-settled true p q e h k is = h is
either-settled false p q e h k is = k is

started : (e : Editor) → IsSettled (after_paste_start e) → IsSettled e
started e =
    let begins = paste_begun e.prompt e.search_state e.pasted e in
    either-settled (refuses_paste e) (unpressed (record e { message = Some ViewOnly })) (unpressed (with_typing begins Paste)) e (λ is. is)
    (begun e e.prompt e.search_state e.pasted refl)

-- a key that leaves none under way ends it
stays : (d : Data) (fault : Option StoreFault) (e : Editor) (pasted : Option (List ℕ)) (key : Key) → is_told_key key ≡ false → e.pasted ≡ pasted → pasted ≢ None
    → IsSettled (after_press d fault pasted e key) → ends_paste key ≡ true
stays d fault e None key small is some h = absurd (some refl)
stays d fault e (Some list) (Insert c) small is some h =
    let crlf = pastes_crlf d e.content.text c in
    let both : Some (longer crlf list c) ≡ None = ap (λ p. pasted_with crlf p c) (sym is) ∙ h in absurd (cc both)
stays d fault e (Some list) Repaint small is some h = absurd (some (sym is ∙ (sym (painted d fault (before e) e.prompt e.search_state (cleared e)) ∙ h)))
stays d fault e (Some list) PasteStart small is some h = absurd (cc small)
stays d fault e (Some list) Fill small is some h = absurd (cc small)
stays d fault e (Some list) (Size height width) small is some h = absurd (cc small)
stays d fault e (Some list) (Notice notice) small is some h = absurd (cc small)
stays d fault e (Some list) key small is some h = refl

only : (d : Data) (fault : Option StoreFault) (e : Editor) (key : Key) → e.pasted ≢ None → IsSettled (after_key d fault e key)
    → ends_paste key ≡ true
only d fault e key some =
    each-key d fault e (λ k new. IsSettled new → ends_paste k ≡ true) (λ height width none. absurd (some none)) (λ notice none. absurd (some none))
    (λ none. absurd (some none)) (λ none. absurd (some (started e none)), λ none. refl)
    (λ k small none. stays d fault e e.pasted k small refl some none) key

pub pastes-end-by-keys : PastesEndByKeys
pastes-end-by-keys d fault e key some = (ended d fault e key some, only d fault e key some)
