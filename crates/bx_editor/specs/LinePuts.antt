-- The held text put into an input line. `d` is Unicode's data, `e` the editor, `c` a character.
use Rattle.std.specs.Prelude.{ℕ, ◌==◌, not, Bool, List, [], ◌∷◌, fold, Some, None}
use Rattle.bx_ucd.specs.Data.{Data}
use Rattle.bx_editor.specs.declared.message.Message.TheVariants.{NothingToPut}
use Rattle.bx_editor.specs.declared.questions.answers.Prompt.{Prompt}
use Rattle.bx_editor.specs.declared.questions.answers.Prompt.TheVariants as prompts
use Rattle.bx_editor.specs.declared.search_state.SearchState.{SearchState}
use Rattle.bx_editor.specs.declared.search_state.SearchState.TheVariants.{Begun, Typed, WithBegun, WithTyped}
use Rattle.bx_editor.specs.Asking.{after_answer_letter}
use Rattle.bx_editor.specs.Editor.{Editor, cleared}
use Rattle.bx_editor.specs.InputLines.{first_line}
use Rattle.bx_editor.specs.Replacing.{replacement_typed}
use Rattle.bx_editor.specs.Search.{after_letter}

-- a character other than a line end is typed in the input line of a search: the query or the replacement
abbrev pub typed_in_search : Data → SearchState → Editor → ℕ → Editor
typed_in_search d Begun e c = after_letter d e c
typed_in_search d Typed e c = after_letter d e c
typed_in_search d WithBegun e c = replacement_typed d e c
typed_in_search d WithTyped e c = replacement_typed d e c
typed_in_search d _ e c = e

-- in that of a question, and without one in that of a search
abbrev pub typed_in : Data → Prompt → SearchState → Editor → ℕ → Editor
typed_in d prompts.Off search_state e c = typed_in_search d search_state e c
typed_in d prompt search_state e c = after_answer_letter d None prompt e c

-- as a key of its own
abbrev pub typed_alone : Data → Editor → ℕ → Editor
typed_alone d e c = typed_in d e.prompt e.search_state (cleared e) c

-- a character other than a line end
abbrev pub is_in_line : ℕ → Bool
is_in_line c = not (c == 0xA)

-- what is typed at a prompt, with all that a typed character settles, as in another editor
abbrev pub with_typed_of : Editor → Editor → Editor
with_typed_of was e = record e {
  query = was.query;
  replacement = was.replacement;
  answer = was.answer;
  input_cursor = was.input_cursor;
  place = was.place;
  search_state = was.search_state;
  message = was.message;
  quit_before = was.quit_before;
  typing = was.typing;
}

-- characters are typed one after the other; if there are none, that is told
abbrev pub typed_one_by_one : Data → Editor → List ℕ → Editor
typed_one_by_one d e [] = record (cleared e) { message = Some NothingToPut }
typed_one_by_one d e (c ∷ cs) = fold (typed_alone d) e (c ∷ cs)

-- the held text is typed, up to its first line end or tab
abbrev pub after_line_put : Data → Editor → Editor
after_line_put d e = typed_one_by_one d e (first_line d e.held)
