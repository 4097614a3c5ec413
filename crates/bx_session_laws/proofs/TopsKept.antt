-- A key of a replay leaves the row that is shown first; only what scrolls behind it moves it.
use Rattle.std.proofs.Common.{◌≡◌, Bool, true, false, not, ◌&&◌, None, refl, ap, ◌∙◌, if◌then◌else◌}
use Rattle.std.specs.Prelude.{is_some}
use Rattle.bx_keys.specs.declared.key.Key.{Key}
use Rattle.bx_keys.specs.declared.key.Key.TheVariants.{Quit, Save}
use Rattle.bx_ucd.specs.Data.{Data}
use Rattle.bx_editor.specs.declared.questions.answers.Prompt.{Prompt}
use Rattle.bx_editor.specs.declared.questions.answers.Prompt.TheVariants as prompts
use Rattle.bx_editor.specs.declared.search_state.SearchState.{SearchState}
use Rattle.bx_editor.specs.declared.search_state.SearchState.TheVariants.{Off, Begun, Typed, WithBegun, WithTyped, Replacing}
use Rattle.bx_editor.specs.Editor.{Editor}
use Rattle.bx_editor.specs.Putting.{paste_ended}
use Rattle.bx_editor.specs.Saving.{with_answered_name, without_answer}
use Rattle.bx_session.specs.Replaying.{after_passed, after_replayed, replayed_on}
use Rattle.bx_session.proofs.KeySizes.{ended_top, key_top}
use Rattle.bx_session.proofs.Replayed.{each-replayed, quit_replayed}

answered : (b : Bool) (e : Editor) → (if b then with_answered_name e else without_answer e).top ≡ e.top
answered true e = refl
answered false e = refl

passed_top : (prompt : Prompt) (key : Key) (e : Editor) → (after_passed prompt key e).top ≡ e.top
passed_top prompts.File Save e = refl
passed_top prompts.File key e = answered (is_some e.name && not e.home) e
passed_top prompt key e = refl

given_up : (d : Data) (prompt : Prompt) (search_state : SearchState) (e : Editor) → ((prompt ≡ prompts.Off) × (search_state ≡ Off) → ⊥)
    → (after_replayed d prompt search_state e Quit).top ≡ e.top
given_up d prompt search_state e on = ap (λ (x : Editor). x.top) (quit_replayed d prompt search_state e on) ∙ key_top d None e Quit

quit_top : (d : Data) (prompt : Prompt) (search_state : SearchState) (e : Editor) → (after_replayed d prompt search_state e Quit).top ≡ e.top
quit_top d prompts.Off Off e = ended_top d e
quit_top d prompts.Off Begun e = given_up d prompts.Off Begun e (λ off. cc off.1)
quit_top d prompts.Off Typed e = given_up d prompts.Off Typed e (λ off. cc off.1)
quit_top d prompts.Off WithBegun e = given_up d prompts.Off WithBegun e (λ off. cc off.1)
quit_top d prompts.Off WithTyped e = given_up d prompts.Off WithTyped e (λ off. cc off.1)
quit_top d prompts.Off Replacing e = given_up d prompts.Off Replacing e (λ off. cc off.1)
quit_top d prompts.Line search_state e = given_up d prompts.Line search_state e (λ off. cc off.0)
quit_top d prompts.Name search_state e = given_up d prompts.Name search_state e (λ off. cc off.0)
quit_top d prompts.Code search_state e = given_up d prompts.Code search_state e (λ off. cc off.0)
quit_top d prompts.File search_state e = given_up d prompts.File search_state e (λ off. cc off.0)
quit_top d prompts.Overwrite search_state e = given_up d prompts.Overwrite search_state e (λ off. cc off.0)

pub replayed_top : (d : Data) (e : Editor) (key : Key) → (replayed_on d e key).top ≡ e.top
replayed_top d e key =
    let over : Editor = paste_ended d e in
    each-replayed d over.prompt over.search_state e (λ k new. new.top ≡ e.top) (quit_top d over.prompt over.search_state e)
    (λ k quits saves. passed_top over.prompt k over ∙ ended_top d e) (λ k other. key_top d None e k) key
