-- What a Quit leaves of the parts that edits and steps change, once it has ended a paste.
use Rattle.std.proofs.Common.{◌≡◌, Bool, true, false, not, Option, Some, None, refl, ap, ap₂, ◌∙◌, if◌then◌else◌}
use Rattle.std.specs.Prelude.{◌||◌}
use Rattle.bx_store.specs.declared.store.StoreFault.{StoreFault}
use Rattle.bx_keys.specs.declared.key.Key.TheVariants.{Quit}
use Rattle.bx_ucd.specs.Data.{Data}
use Rattle.bx_editor.specs.declared.questions.answers.Prompt.{Prompt}
use Rattle.bx_editor.specs.declared.questions.answers.Prompt.TheVariants as prompts
use Rattle.bx_editor.specs.declared.message.Message.TheVariants.{Unsaved}
use Rattle.bx_editor.specs.Before.{before}
use Rattle.bx_editor.specs.Editor.{Editor, cleared}
use Rattle.bx_editor.specs.declared.search_state.SearchState.{SearchState}
use Rattle.bx_editor.specs.declared.search_state.SearchState.TheVariants.{Off, Begun, Typed, WithBegun, WithTyped, Replacing}
use Rattle.bx_editor.specs.Keys.{after_any, after_key}
use Rattle.bx_editor.specs.Putting.{paste_ended}
use Rattle.bx_session.specs.Replaying.{after_replayed}
use Rattle.bx_session.proofs.Ending.{quit_user}
use Rattle.bx_session.proofs.Replayed.{quit_replayed}
use Rattle.bx_session_laws.specs.Recovery.{NamesAgree}
use Rattle.bx_session_laws.proofs.Alike.{Work, work}
use Rattle.bx_session_laws.proofs.Lasting.{having, lasting}
use Rattle.bx_session_laws.proofs.Names.{agree_on, ended_home, ended_name}

-- it changes nothing that edits and steps change, whether a search or a question is on or not
gives_up : (d : Data) (prompt : Prompt) (search_state : SearchState) (e : Editor) → ((prompt ≡ prompts.Off) × (search_state ≡ Off) → ⊥)
    → (paste_ended d e).prompt ≡ prompt → (paste_ended d e).search_state ≡ search_state
    → work (after_any d None (before (paste_ended d e)) prompt search_state (cleared (paste_ended d e)) Quit) ≡ work (paste_ended d e)
    → work (after_replayed d prompt search_state e Quit) ≡ work (paste_ended d e)
gives_up d prompt search_state e on asked is left =
    let x : Editor = paste_ended d e in
    ap work (quit_replayed d prompt search_state e on ∙ quit_user d None e)
    ∙ ap₂ (λ (a : Prompt) (s : SearchState). work (after_any d None (before x) a s (cleared x) Quit)) asked is
    ∙ left

pub quit_works : (d : Data) (prompt : Prompt) (search_state : SearchState) (e : Editor) → (paste_ended d e).prompt ≡ prompt
    → (paste_ended d e).search_state ≡ search_state → work (after_replayed d prompt search_state e Quit) ≡ work (paste_ended d e)
quit_works d prompts.Off Off e asked is = refl
quit_works d prompts.Off Begun e asked is = gives_up d prompts.Off Begun e (λ off. cc off.1) asked is refl
quit_works d prompts.Off Typed e asked is = gives_up d prompts.Off Typed e (λ off. cc off.1) asked is refl
quit_works d prompts.Off WithBegun e asked is = gives_up d prompts.Off WithBegun e (λ off. cc off.1) asked is refl
quit_works d prompts.Off WithTyped e asked is = gives_up d prompts.Off WithTyped e (λ off. cc off.1) asked is refl
quit_works d prompts.Off Replacing e asked is = gives_up d prompts.Off Replacing e (λ off. cc off.1) asked is refl
quit_works d prompts.Line search_state e asked is = gives_up d prompts.Line search_state e (λ off. cc off.0) asked is refl
quit_works d prompts.Name search_state e asked is = gives_up d prompts.Name search_state e (λ off. cc off.0) asked is refl
quit_works d prompts.Code search_state e asked is = gives_up d prompts.Code search_state e (λ off. cc off.0) asked is refl
quit_works d prompts.File search_state e asked is = gives_up d prompts.File search_state e (λ off. cc off.0) asked is refl
quit_works d prompts.Overwrite search_state e asked is = gives_up d prompts.Overwrite search_state e (λ off. cc off.0) asked is refl

-- in a session it changes at most whether the session has ended
ends_by : (ends : Bool) (e : Editor) → (ended : Bool)
    × (work (if ends then record (cleared e) { quit_before = true; ended = true } else record (cleared e) { quit_before = true; message = Some Unsaved })
    ≡ record (work e) { ended = ended })
ends_by true e = (true, refl)
ends_by false e = (e.ended, refl)

pub quit_leaves : (d : Data) (fault : Option StoreFault) (prompt : Prompt) (search_state : SearchState) (e : Editor)
    → (ended : Bool) × (work (after_any d fault (before e) prompt search_state (cleared e) Quit) ≡ record (work e) { ended = ended })
quit_leaves d fault prompts.Off Off e = ends_by (not e.changed || e.quit_before) e
quit_leaves d fault prompts.Off search_state e = (e.ended, refl)
quit_leaves d fault prompt search_state e = (e.ended, refl)

-- and it leaves where saves go
pub quit_names : (d : Data) (fault : Option StoreFault) (e f : Editor) → NamesAgree e f → let g = having (lasting e) f in
    let y : Editor = paste_ended d g in NamesAgree (after_key d fault e Quit) (after_replayed d y.prompt y.search_state g Quit)
quit_names d fault e f names =
    let g = having (lasting e) f in
    let x : Editor = paste_ended d e in
    let y : Editor = paste_ended d g in
    let left = quit_leaves d fault x.prompt x.search_state x in
    let here : work (after_key d fault e Quit) ≡ record (work x) { ended = left.0 } = ap work (quit_user d fault e) ∙ left.1 in
    let there = quit_works d y.prompt y.search_state g refl refl in
    agree_on e f (after_key d fault e Quit) (after_replayed d y.prompt y.search_state g Quit)
    (ap (λ (w : Work). w.name) here ∙ ended_name d e) (ap (λ (w : Work). w.home) here ∙ ended_home d e)
    (ap (λ (w : Work). w.name) there ∙ ended_name d g) (ap (λ (w : Work). w.home) there ∙ ended_home d g) names
