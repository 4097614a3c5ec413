-- The answer that is being typed has at most the number of characters that its question takes.
use Rattle.std.specs.Prelude.{ℕ, ◌≤◌, List, length, chars}
use Rattle.bx_editor.specs.declared.questions.answers.Prompt.{Prompt}
use Rattle.bx_editor.specs.declared.questions.answers.Prompt.TheVariants.{Line, Name, Code}
use Rattle.bx_editor.specs.Asking.{longest_code, longest_line}
use Rattle.bx_editor.specs.Saving.{longest_name}

-- the most characters of the answer to a question. A name of a character has none, since its one letter answers. Without a question
-- (`Off`) the answer is that to the latest one, which may have been a name to save under
abbrev pub limit_of : Prompt → ℕ
limit_of Name = 0
limit_of Code = longest_code
limit_of Line = longest_line
limit_of _ = longest_name

-- what the user may have typed, in UTF-8, as the answer to a question
abbrev pub IsAnswer : Prompt → List ℕ → Type 0
IsAnswer prompt answer = length (chars answer) ≤ limit_of prompt
