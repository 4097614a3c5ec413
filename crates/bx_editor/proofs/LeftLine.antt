-- A search that ends leaves the cursor in the input line of a question, if there is one.
use Rattle.std.proofs.Common.{ℕ, List}
use Rattle.bx_ucd.specs.Data.{Data}
use Rattle.bx_editor.specs.declared.questions.answers.Prompt.{Prompt}
use Rattle.bx_editor.specs.declared.questions.answers.Prompt.TheVariants as prompts
use Rattle.bx_editor.specs.declared.search_state.SearchState.{SearchState}
use Rattle.bx_editor.specs.declared.search_state.SearchState.TheVariants.{Off}
use Rattle.bx_editor.specs.InputLines.{StandsInLine}

pub line-left : (d : Data) (prompt : Prompt) (search_state : SearchState) (query replacement answer : List ℕ) (cursor : ℕ)
    → StandsInLine d prompt search_state query replacement answer cursor → StandsInLine d prompt Off query replacement answer cursor
line-left d prompts.Off search_state query replacement answer cursor h = tt
line-left d prompts.Line search_state query replacement answer cursor h = h
line-left d prompts.Name search_state query replacement answer cursor h = h
line-left d prompts.Code search_state query replacement answer cursor h = h
line-left d prompts.File search_state query replacement answer cursor h = h
line-left d prompts.Overwrite search_state query replacement answer cursor h = h
