-- The prompts of the status row.
use Rattle.std.specs.Prelude.{◌≡◌, ◌≢◌}
use Rattle.bx_editor.specs.declared.questions.answers.Prompt.TheVariants as prompts
use Rattle.bx_editor.specs.declared.search_state.SearchState.TheVariants as search_states
use Rattle.bx_editor.specs.Editor.{Editor}

-- while something is asked no search is on
abbrev pub HasOnePrompt : Editor → Type 0
HasOnePrompt e = e.prompt ≢ prompts.Off → e.search_state ≡ search_states.Off
