-- A replay counts as unchanged only with the opened text and no past; it stays in its name and pastes alone.
use Rattle.std.proofs.Common.{◌≡◌, ℕ, Bool, true, false, List, [], ◌∷◌, ◌++◌, Option, Some, None, refl, sym, ap, subst, ◌∙◌, inl}
use Rattle.std.proofs.Common.{inr, not, if◌then◌else◌}
use Rattle.std.specs.Prelude.{◌&&◌, is_some, option_to_list}
use Rattle.bx_keys.specs.declared.key.Key.{Key}
use Rattle.bx_keys.specs.declared.key.Key.TheVariants.{Quit, Save}
use Rattle.bx_ucd.specs.Data.{Data}
use Rattle.bx_editor.specs.declared.questions.answers.Prompt.{Prompt}
use Rattle.bx_editor.specs.declared.questions.answers.Prompt.TheVariants as prompts
use Rattle.bx_editor.specs.Editor.{Editor}
use Rattle.bx_editor.specs.Putting.{paste_ended}
use Rattle.bx_editor.specs.Replay.{after_passed_save}
use Rattle.bx_editor.specs.Saving.{is_empty_name, with_answered_name, without_answer}
use Rattle.bx_editor.specs.declared.search_state.SearchState.{SearchState}
use Rattle.bx_editor.specs.declared.search_state.SearchState.TheVariants.{Off, Begun, Typed, WithBegun, WithTyped, Replacing}
use Rattle.bx_editor.specs.Keys.{after_key}
use Rattle.bx_editor.specs.Picture.{scrolled}
use Rattle.bx_session.specs.Session.{Session}
use Rattle.bx_session.specs.Laws.{after_replaying}
use Rattle.bx_session_laws.specs.Recovery.{IsNamed, PastesAlone}
use Rattle.bx_session.specs.Replaying.{after_all_replayed, after_passed, after_replayed, after_replayed_press, replayed_on}
use Rattle.bx_session_laws.proofs.Alike.{Work, work}
use Rattle.bx_session_laws.proofs.KeysAlike.{ended_alike, key_alike}
use Rattle.bx_session_laws.proofs.Deeds.{Traces, deeds_trace}
use Rattle.bx_session_laws.proofs.Lasting.{Serves}
use Rattle.bx_session_laws.proofs.Names.{deeds_stay, ended_home, ended_name}
use Rattle.bx_session_laws.proofs.SavedAlike.{passed_work}
use Rattle.bx_session.proofs.KeyKinds.{is_other, not_quitting, not_storing}
use Rattle.bx_session.proofs.KeySizes.{user_pasted}
use Rattle.bx_session.proofs.Ending.{over, quit_user}
use Rattle.bx_session_laws.proofs.Recovered.{keeps_alone}
use Rattle.bx_session.proofs.Replayed.{applies, each-replayed, quit_replayed}
use Rattle.bx_session_laws.proofs.WorkKept.{quit_works}

pub over_traces : (d : Data) (first : List ℕ) (e : Editor) → Traces first (work e) → Traces first (work (paste_ended d e))
over_traces d first e h =
    let alike = ended_alike d e e in subst (Traces first) (sym alike.first) (deeds_trace first alike.deeds (work e) h)

passed_traces : (first : List ℕ) (w : Work) (name : Option (List ℕ)) → Traces first w → Traces first (record w { stored = None; name = name })
passed_traces first w name h = record { chain = h.chain; first_is = h.first_is; stored = inl refl; unchanged = h.unchanged }

-- a replay beside itself
pub serves_itself : (e : Editor) (key : Key) → is_other e key ≡ true → Serves e e key
serves_itself e key other =
    record { goes_on = not_quitting e key other; stores_nothing = not_storing e key other; rests = inr refl; names = refl }

key_traces : (d : Data) (first : List ℕ) (e : Editor) (key : Key) → PastesAlone e → Traces first (work e) → Traces first (work (replayed_on d e key))
key_traces d first e key alone h =
    let over : Editor = paste_ended d e in
    let traces = over_traces d first e h in
    each-replayed d over.prompt over.search_state e (λ k new. Traces first (work new))
    (subst (Traces first) (sym (quit_works d over.prompt over.search_state e refl refl)) traces)
    (λ k quits saves. (let passes = passed_work over.prompt k over in
    subst (Traces first) (sym passes.is) (passed_traces first (work over) passes.name traces)))
    (λ k other. (let alike = key_alike d None e e k alone (serves_itself e k other) in
    subst (Traces first) (sym alike.first) (deeds_trace first alike.deeds (work e) h))) key

-- where saves go: nothing is stored, so a name stays once they go to a file
record StaysNamed (e new : Editor) : Type 0 where
  pub home : new.home ≡ e.home
  pub name : e.home ≡ true → new.name ≡ e.name

work_named : (e new : Editor) → (work new).name ≡ (work e).name → (work new).home ≡ (work e).home → StaysNamed e new
work_named e new name home = record { home = home; name = λ at. name }

taken_named : (takes : Bool) (e : Editor) → (e.home ≡ true → takes ≡ false)
    → StaysNamed e (after_passed_save (if takes then with_answered_name e else without_answer e))
taken_named true e none = record { home = refl; name = λ at. (let both : true ≡ false = none at in absurd (cc both)) }
taken_named false e none = record { home = refl; name = λ at. refl }

not_taken : (some home : Bool) → home ≡ true → (some && not home) ≡ false
not_taken true true at = refl
not_taken false true at = refl
not_taken some false at = absurd (cc at)

passed_named : (prompt : Prompt) (key : Key) (e : Editor) → StaysNamed e (after_passed prompt key e)
passed_named prompts.File Save e = record { home = refl; name = λ at. refl }
passed_named prompts.File key e = taken_named (is_some e.name && not e.home) e (not_taken (is_some e.name) e.home)
passed_named prompt key e = record { home = refl; name = λ at. refl }

over_named : (d : Data) (e new : Editor) → StaysNamed (paste_ended d e) new → StaysNamed e new
over_named d e new h = record {
  home = h.home ∙ ended_home d e;
  name = λ at. h.name (ended_home d e ∙ at) ∙ ended_name d e;
}

key_named : (d : Data) (e : Editor) (key : Key) → PastesAlone e → StaysNamed e (replayed_on d e key)
key_named d e key alone =
    let over : Editor = paste_ended d e in
    each-replayed d over.prompt over.search_state e (λ k new. StaysNamed e new)
    (let is = quit_works d over.prompt over.search_state e refl refl in
    over_named d e (after_replayed d over.prompt over.search_state e Quit)
    (work_named over (after_replayed d over.prompt over.search_state e Quit) (ap (λ (w : Work). w.name) is) (ap (λ (w : Work). w.home) is)))
    (λ k quits saves. over_named d e (after_passed over.prompt k over) (passed_named over.prompt k over))
    (λ k other. (let alike = key_alike d None e e k alone (serves_itself e k other) in
    let stay = deeds_stay alike.deeds (work e) in
    work_named e (after_key d None e k) (ap (λ (w : Work). w.name) alike.first ∙ stay.0) (ap (λ (w : Work). w.home) alike.first ∙ stay.1))) key

still_named : (e new : Editor) → StaysNamed e new → IsNamed e → IsNamed new
still_named e new stays named at =
    let home : e.home ≡ true = sym stays.home ∙ at in ap is_empty_name (stays.name home) ∙ named home

-- and a paste stays alone
answer_pasted : (takes : Bool) (e : Editor) → e.pasted ≡ None → (after_passed_save (if takes then with_answered_name e else without_answer e)).pasted ≡ None
answer_pasted true e none = none
answer_pasted false e none = none

passed_pasted : (prompt : Prompt) (key : Key) (e : Editor) → e.pasted ≡ None → (after_passed prompt key e).pasted ≡ None
passed_pasted prompts.File Save e none = none
passed_pasted prompts.File key e none = answer_pasted (is_some e.name && not e.home) e none
passed_pasted prompt key e none = none

given_up : (d : Data) (prompt : Prompt) (search_state : SearchState) (e : Editor) → ((prompt ≡ prompts.Off) × (search_state ≡ Off) → ⊥)
    → (after_replayed d prompt search_state e Quit).pasted ≡ None
given_up d prompt search_state e on =
    let x : Editor = paste_ended d e in
    ap (λ (y : Editor). y.pasted) (quit_replayed d prompt search_state e on ∙ quit_user d None e) ∙ user_pasted d None x Quit ∙ over d e

quit_pasted : (d : Data) (prompt : Prompt) (search_state : SearchState) (e : Editor) → (after_replayed d prompt search_state e Quit).pasted ≡ None
quit_pasted d prompts.Off Off e = over d e
quit_pasted d prompts.Off Begun e = given_up d prompts.Off Begun e (λ off. cc off.1)
quit_pasted d prompts.Off Typed e = given_up d prompts.Off Typed e (λ off. cc off.1)
quit_pasted d prompts.Off WithBegun e = given_up d prompts.Off WithBegun e (λ off. cc off.1)
quit_pasted d prompts.Off WithTyped e = given_up d prompts.Off WithTyped e (λ off. cc off.1)
quit_pasted d prompts.Off Replacing e = given_up d prompts.Off Replacing e (λ off. cc off.1)
quit_pasted d prompts.Line search_state e = given_up d prompts.Line search_state e (λ off. cc off.0)
quit_pasted d prompts.Name search_state e = given_up d prompts.Name search_state e (λ off. cc off.0)
quit_pasted d prompts.Code search_state e = given_up d prompts.Code search_state e (λ off. cc off.0)
quit_pasted d prompts.File search_state e = given_up d prompts.File search_state e (λ off. cc off.0)
quit_pasted d prompts.Overwrite search_state e = given_up d prompts.Overwrite search_state e (λ off. cc off.0)

unpasted : (e : Editor) → e.pasted ≡ None → PastesAlone e
unpasted e none = λ some. absurd (some none)

key_stays_alone : (d : Data) (e : Editor) (key : Key) → PastesAlone e → PastesAlone (replayed_on d e key)
key_stays_alone d e key alone =
    let x : Editor = paste_ended d e in
    each-replayed d x.prompt x.search_state e (λ k new. PastesAlone new)
    (unpasted (after_replayed d x.prompt x.search_state e Quit) (quit_pasted d x.prompt x.search_state e))
    (λ k quits saves. unpasted (after_passed x.prompt k x) (passed_pasted x.prompt k x (over d e))) (λ k other. keeps_alone d None e k alone) key

any_traces : (d : Data) (first : List ℕ) (e : Editor) (key : Option Key) → PastesAlone e → Traces first (work e)
    → Traces first (work (after_all_replayed d e (option_to_list key)))
any_traces d first e None alone h = h
any_traces d first e (Some key) alone h = key_traces d first (scrolled d e) key alone h

any_named : (d : Data) (e : Editor) (key : Option Key) → PastesAlone e → IsNamed e → IsNamed (after_all_replayed d e (option_to_list key))
any_named d e None alone named = named
any_named d e (Some key) alone named = still_named (scrolled d e) (replayed_on d (scrolled d e) key) (key_named d (scrolled d e) key alone) named

any_alone : (d : Data) (e : Editor) (key : Option Key) → PastesAlone e → PastesAlone (after_all_replayed d e (option_to_list key))
any_alone d e None alone = alone
any_alone d e (Some key) alone = key_stays_alone d (scrolled d e) key alone

pub record Replays (first : List ℕ) (new : Session) : Type 0 where
  pub goes_on : new.editor.ended ≡ false
  pub traces : Traces first (work new.editor)
  pub alone : PastesAlone new.editor
  pub named : IsNamed new.editor

pub replays : (d : Data) (first : List ℕ) (s : Session) (presses : List (Option Key)) → Replays first s → Replays first (after_replaying d s presses)
replays d first s [] h = h
replays d first s (key ∷ presses) h =
    let each = applies d s key h.goes_on in
    replays d first (after_replayed_press d s key) presses (record {
      goes_on = each.goes_on;
      traces = subst (λ (e : Editor). Traces first (work e)) (sym each.editor) (any_traces d first s.editor key h.alone h.traces);
      alone = subst PastesAlone (sym each.editor) (any_alone d s.editor key h.alone);
      named = subst IsNamed (sym each.editor) (any_named d s.editor key h.alone h.named);
    })

pub replaying_more : (d : Data) (s : Session) (presses more : List (Option Key))
    → after_replaying d s (presses ++ more) ≡ after_replaying d (after_replaying d s presses) more
replaying_more d s [] more = refl
replaying_more d s (key ∷ presses) more = replaying_more d (after_replayed_press d s key) presses more
