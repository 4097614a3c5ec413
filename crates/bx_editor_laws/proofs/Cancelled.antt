-- Cancel outside a search.
use Rattle.std.proofs.Common.{◌≡◌, refl, sym, ap, ap₂, ◌∙◌}
use Rattle.std.specs.Prelude.{◌≢◌, None}
use Rattle.bx_keys.specs.declared.key.Key.TheVariants.{Cancel}
use Rattle.bx_ucd.specs.Data.{Data}
use Rattle.bx_editor.specs.declared.questions.answers.Prompt.{Prompt}
use Rattle.bx_editor.specs.declared.questions.answers.Prompt.TheVariants as prompts
use Rattle.bx_editor.specs.declared.search_state.SearchState.{SearchState}
use Rattle.bx_editor.specs.Asking.{without_prompt}
use Rattle.bx_editor.specs.Editor.{Editor, cleared}
use Rattle.bx_editor.specs.Before.{Before, before}
use Rattle.bx_editor.specs.Keys.{after_any, as_left}
use Rattle.bx_editor.proofs.InSearch.{any-key}
use Rattle.bx_editor_laws.specs.SelectionLaws.{CancelUnmarks}

asked : (d : Data) (was : Before) (prompt : Prompt) (search_state : SearchState) (e : Editor) → prompt ≢ prompts.Off
    → after_any d None was prompt search_state e Cancel ≡ without_prompt e
asked d was prompts.Off search_state e some = absurd (some refl)
asked d was prompts.Line search_state e some = refl
asked d was prompts.Name search_state e some = refl
asked d was prompts.Code search_state e some = refl
asked d was prompts.File search_state e some = refl
asked d was prompts.Overwrite search_state e some = refl

pub cancel-unmarks : CancelUnmarks
cancel-unmarks d e unsought settled = record {
  unmarked = λ unasked.
      any-key d None e Cancel settled refl ∙ ap₂ (λ a s. as_left Cancel (after_any d None (before e) a s (cleared e) Cancel)) unasked unsought;
  unasked = λ some.
      any-key d None e Cancel settled refl ∙ ap (as_left Cancel) (asked d (before e) e.prompt e.search_state (cleared e) some)
      ∙ ap (λ s. record (as_left Cancel (without_prompt (cleared e))) { search_state = s }) (sym unsought);
}
