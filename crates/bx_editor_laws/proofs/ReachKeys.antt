-- Each key leaves the stored text in reach of undo and redo, unless it stores another one, or an edit drops it.
use Rattle.std.proofs.Common.{◌≡◌, ◌∙◌, ℕ, Bool, true, false, List, [], ◌∷◌, refl, sym, ap, subst, inl, inr, if◌then◌else◌}
use Rattle.std.specs.Prelude.{◌&&◌, Option, Some, None, is_none, is_some}
use Rattle.bx_keys.specs.declared.key.Key.{Key}
use Rattle.bx_keys.specs.declared.key.Key.TheVariants.{Delete, Erase, ErasePoint, Fill, Insert, NewLine, Notice, PasteStart, Repaint, Replace, Size}
use Rattle.bx_store.specs.declared.store.StoreFault.{StoreFault}
use Rattle.bx_ucd.specs.Data.{Data}
use Rattle.bx_editor.specs.declared.answer.Answer.{Answer}
use Rattle.bx_editor.specs.declared.answer.Answer.TheVariants as answers
use Rattle.bx_editor.specs.declared.questions.answers.Prompt.{Prompt}
use Rattle.bx_editor.specs.declared.questions.answers.Prompt.TheVariants as prompts
use Rattle.bx_editor.specs.declared.search_state.SearchState.{SearchState}
use Rattle.bx_editor.specs.declared.search_state.SearchState.TheVariants.{Off, Begun, Typed, WithBegun, WithTyped, Replacing}
use Rattle.bx_editor.specs.declared.undo_groups.typing.Typing.TheVariants as typings
use Rattle.bx_editor.specs.Answering.{answer_of, without_line}
use Rattle.bx_editor.specs.Before.{before}
use Rattle.bx_editor.specs.Editor.{Editor, cleared, unpressed, with_typing}
use Rattle.bx_editor.specs.Effects.{Refuses, by}
use Rattle.bx_editor.specs.Keys.{after_any, after_key, after_press, after_user, answered_overwrite, answered_question, ends_name, ends_paste, is_save}
use Rattle.bx_editor.specs.Keys.{overwrites, refuses_replacing, saving_by, saving_of}
use Rattle.bx_editor.specs.Putting.{paste_ended}
use Rattle.bx_editor.specs.Saving.{Saving, can_save, own_saving, saving_over, saving_under}
use Rattle.bx_editor.proofs.EffectsKept as kept
use Rattle.bx_editor.proofs.InSearch.{each-key}
use Rattle.bx_editor_laws.specs.Laws.{after_typing}
use Rattle.bx_editor_laws.specs.StoredLaws.{KeepsInReach, StaysInReach, may_edit, stores}
use Rattle.bx_editor_laws.proofs.InReach.{ended, file-letter, name, overwriting, query, question, question-letter, replacement, shown}
use Rattle.bx_editor_laws.proofs.ReachEffects.{InPast, InReach, is_typed, pressed, typed-key}
use Rattle.bx_editor_laws.proofs.PasteEnded.{ends-first, none-ended, over}
use Rattle.bx_editor_laws.proofs.StoredKeys.{is-some-if, repaint-saves, saving-settled}

-- an answer without a line may edit only where the key does
typed-name : (key : Key) → is_typed (without_line (answer_of key)) ≡ true → may_edit key ≡ true
typed-name (Insert c) is = refl
typed-name NewLine is = refl
typed-name Erase is = refl
typed-name ErasePoint is = refl
typed-name Delete is = refl
typed-name Replace is = refl
typed-name _ is = absurd (cc is)

module _ (n : ℕ) (d : Data) (fault : Option StoreFault) where
  -- `x` is the editor as the key finds it
  module _ (x : Editor) (key : Key) (h : InReach n d x) (p : may_edit key ≡ true → InPast n d x) where
    abbrev e : Editor
    e = cleared x

    -- what the key stores is not stored
    abbrev Fails : Option Saving → Type 0
    Fails saving = (is_some saving && is_none fault) ≡ false

    at-fails : (b : Bool) (saving : Saving) → Fails (if b then Some saving else None) → (b && is_none fault) ≡ false
    at-fails b saving fails = ap (λ t. t && is_none fault) (sym (is-some-if b saving)) ∙ fails

    own-fails : Fails (if is_save key && can_save x then Some (own_saving x x.name) else None) → ((is_save key && can_save x) && is_none fault) ≡ false
    own-fails fails = at-fails (is_save key && can_save x) (own_saving x x.name) fails

    answering : is_typed (answer_of key) ≡ true → InPast n d e
    answering is = p (typed-key key is)

    answering-name : is_typed (without_line (answer_of key)) ≡ true → InPast n d e
    answering-name is = p (typed-name key is)

    line-question : (prompt : Prompt) → e.prompt ≡ prompt → (prompt ≡ prompts.File → ⊥) → (one : Answer) → (is_typed one ≡ true → InPast n d e)
        → ((is_save key && can_save x) && is_none fault) ≡ false → InReach n d (answered_question d fault (before x) e key one)
    line-question prompt is no-name (answers.Letter c) q fails = question-letter n d fault (before x) e key h p prompt c is no-name (q refl)
    line-question prompt is no-name one q fails = question n d fault (before x) e key h p one q (λ c is-letter. cc is-letter) fails

    file-question : e.prompt ≡ prompts.File → (one : Answer) → (is_typed one ≡ true → InPast n d e) → Fails (saving_by x prompts.File key one)
        → InReach n d (answered_question d fault (before x) e key one)
    file-question is (answers.Letter c) q fails =
        file-letter n d fault (before x) e key h p c is (at-fails (ends_name x c) (saving_under x x.answer) fails)
    file-question is one q fails = question n d fault (before x) e key h p one q (λ c is-letter. cc is-letter) (own-fails fails)

    overwrite : (one : Answer) → Fails (saving_by x prompts.Overwrite key one) → InReach n d (answered_overwrite fault (before x) e one)
    overwrite (answers.Letter c) fails = overwriting n d fault (before x) e key h p c (at-fails (overwrites x c) (saving_over x) fails)
    overwrite _ fails = h

    any : (prompt : Prompt) (search_state : SearchState) → e.prompt ≡ prompt → Fails (saving_by x prompt key (answer_of key))
        → InReach n d (after_any d fault (before x) prompt search_state e key)
    any prompts.Off Off is fails = pressed n d fault (before x) e key h p (own-fails fails)
    any prompts.Off Begun is fails = query n d fault (before x) e key h p (answer_of key) answering (own-fails fails)
    any prompts.Off Typed is fails = query n d fault (before x) e key h p (answer_of key) answering (own-fails fails)
    any prompts.Off WithBegun is fails = replacement n d fault (before x) e key h p (answer_of key) answering (own-fails fails)
    any prompts.Off WithTyped is fails = replacement n d fault (before x) e key h p (answer_of key) answering (own-fails fails)
    any prompts.Off Replacing is fails = shown n d fault (before x) e key h p (without_line (answer_of key)) answering-name (own-fails fails)
    any prompts.Line search_state is fails = line-question prompts.Line is (λ file. cc file) (answer_of key) answering (own-fails fails)
    any prompts.Code search_state is fails = line-question prompts.Code is (λ file. cc file) (answer_of key) answering (own-fails fails)
    any prompts.Name search_state is fails = name n d fault (before x) e key h p (without_line (answer_of key)) answering-name (own-fails fails)
    any prompts.File search_state is fails = file-question is (answer_of key) answering fails
    any prompts.Overwrite search_state is fails = overwrite (answer_of key) fails

    user-by : (b : Bool) → Fails (saving_by x x.prompt key (answer_of key))
        → InReach n d (if b then by d fault (before x) e Refuses else after_any d fault (before x) x.prompt x.search_state e key)
    user-by true fails = h
    user-by false fails = any x.prompt x.search_state refl fails

    user : Fails (saving_by x x.prompt key (answer_of key)) → InReach n d (after_user d fault x key)
    user fails = user-by (refuses_replacing x key) fails

  pastes : kept.IsKeptPasting (InReach n d)
  pastes = record { pasted = λ e pasted message typing h. h; lengthened = λ e pasted soft h. h; unpressed = λ e h. h }

  -- no paste is under way
  settled-stays : (x : Editor) → x.pasted ≡ None → InReach n d x → (key : Key) → (may_edit key ≡ true → InPast n d x)
      → (is_some (saving_of x key) && is_none fault) ≡ false → InReach n d (after_key d fault x key)
  settled-stays x settled h key =
      each-key d fault x
      (λ k new. (may_edit k ≡ true → InPast n d x) → (is_some (saving_of x k) && is_none fault) ≡ false → InReach n d new)
      (λ height width p fails. h) (λ notice p fails. h) (λ p fails. h) (
        λ p fails. kept.start-keeps (InReach n d) pastes x h,
        λ p fails. subst (λ (y : Editor). InReach n d (unpressed (with_typing y typings.Off))) (sym (none-ended d x settled)) h,
      )
      (λ k small p fails.
      subst (λ pasted. InReach n d (after_press d fault pasted x k)) (sym settled)
      (user x k h p (ap (λ saving. is_some saving && is_none fault) (sym (saving-settled x k settled)) ∙ fails))) key

  -- a key that leaves a paste under way
  in-paste : (x : Editor) (list : List ℕ) → x.pasted ≡ Some list → InReach n d x → (key : Key) → ends_paste key ≡ false → InReach n d (after_key d fault x key)
  in-paste x list pasted h (Insert c) stays = subst (λ p. InReach n d (after_press d fault p x (Insert c))) (sym pasted) h
  in-paste x list pasted h Repaint stays =
      subst (λ p. InReach n d (after_press d fault p x Repaint)) (sym pasted)
      (user x Repaint h (λ is. absurd (cc is)) (ap (λ b. b && is_none fault) (repaint-saves x x.prompt)))
  in-paste x list pasted h Fill stays = h
  in-paste x list pasted h PasteStart stays = kept.start-keeps (InReach n d) pastes x h
  in-paste x list pasted h (Size height width) stays = h
  in-paste x list pasted h (Notice notice) stays = h
  in-paste x list pasted h _ stays = absurd (cc stays)

  by-paste : (e : Editor) (key : Key) (pasted : Option (List ℕ)) → e.pasted ≡ pasted → InReach n d e → (may_edit key ≡ true → InPast n d e)
      → (is_some (saving_of e key) && is_none fault) ≡ false → ends_paste key ≡ false → InReach n d (after_key d fault e key)
  by-paste e key None is h p fails stays = settled-stays e is h key p fails
  by-paste e key (Some list) is h p fails stays = in-paste e list is h key stays

  -- where a key that ends a paste finds the text in reach
  abbrev Finds : Editor → Key → Type 0
  Finds e key = InReach n d (paste_ended d e) × (may_edit key ≡ true → InPast n d (paste_ended d e))

  by-end : (e : Editor) (key : Key) (ends : Bool) → ends_paste key ≡ ends → InReach n d e → (may_edit key ≡ true → InPast n d e) → Finds e key
      → (let x : Editor = if ends then paste_ended d e else e in (is_some (saving_of x key) && is_none fault) ≡ false)
      → InReach n d (after_key d fault e key)
  by-end e key true ends h p finds fails =
      subst (InReach n d) (sym (ends-first d fault e key ends)) (settled-stays (paste_ended d e) (over d e) finds.0 key finds.1 fails)
  by-end e key false ends h p finds fails = by-paste e key e.pasted refl h p fails ends

  pub key-stays : (e : Editor) (key : Key) → InReach n d e → KeepsInReach n e key → stores d e (key, fault) ≡ false → InReach n d (after_key d fault e key)
  key-stays e key h (inl few) fails =
      let k : InPast n d e = (h, few) in
      let x = ended n d e k in
      by-end e key (ends_paste key) refl h (λ is. k) (x.0, λ is. x) fails
  key-stays e key h (inr still) fails =
      let never : may_edit key ≡ true → ⊥ = λ is. cc (sym still.0 ∙ is) in
      by-end e key (ends_paste key) refl h (λ is. absurd (never is))
      (subst (InReach n d) (sym (none-ended d e still.1)) h, λ is. absurd (never is)) fails

module _ (n : ℕ) (d : Data) where
  pub all-stay : (e : Editor) (typed : List (Key × Option StoreFault)) → InReach n d e → StaysInReach d n e typed
      → InReach n d (after_typing d e typed)
  all-stay e [] h stays = h
  all-stay e (key ∷ typed) h stays =
      all-stay (after_key d key.1 e key.0) typed (key-stays n d key.1 e key.0 h stays.0 stays.1.0) stays.1.1
