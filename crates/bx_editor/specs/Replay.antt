-- What a replay does in place of keys of a journal that save or quit, and its end.
use Rattle.std.specs.Prelude.{length, not, ◌&&◌, is_some, Some, None, if◌then◌else◌}
use Rattle.bx_editor.specs.declared.undo_groups.typing.Typing.TheVariants.{Off}
use Rattle.bx_editor.specs.declared.search_state.SearchState.TheVariants as search_states
use Rattle.bx_editor.specs.declared.questions.answers.Prompt.TheVariants as prompts
use Rattle.bx_editor.specs.Editor.{Editor}
use Rattle.bx_editor.specs.Region.{aged}
use Rattle.bx_editor.specs.Saving.{with_answered_name, without_answer}

-- a Quit outside a search and a question ends what any key ends, and does nothing else
abbrev pub after_passed_quit : Editor → Editor
after_passed_quit e = record e { typing = Off; soft = aged e.soft; goal = None; clicks = None; pressed = None }

-- a Save ends a search and a question too; no undo counts as leading to the stored text, since a journal does not tell whether the
-- save succeeded
abbrev pub after_passed_save : Editor → Editor
after_passed_save e = record (after_passed_quit e) { search_state = search_states.Off; prompt = prompts.Off; stored = None }

-- the answer that saves under a name becomes the name where saves go to no file yet, as it does whether or not its save succeeds
abbrev pub after_passed_answer : Editor → Editor
after_passed_answer e = after_passed_save (if is_some e.name && not e.home then with_answered_name e else without_answer e)

-- at the end no search is on, nothing is asked, and the next edit begins an undo group; the text is the stored one unless it counts
-- as changed
abbrev pub at_replay_end : Editor → Editor
at_replay_end e = record e { search_state = search_states.Off; prompt = prompts.Off; typing = Off; stored = if e.changed then None else Some (length e.content.past) }
