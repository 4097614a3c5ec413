-- What the key before left.
use Rattle.std.specs.Prelude.{Bool, Option}
use Rattle.bx_editor.specs.declared.message.Message.{Message}
use Rattle.bx_editor.specs.declared.undo_groups.typing.Typing.{Typing}
use Rattle.bx_editor.specs.Editor.{Editor}

-- whether it was Quit, its message, and what the next edit may go on with
pub record Before : Type 0 where
  pub again : Bool
  pub message : Option Message
  pub typing : Typing

abbrev pub before : Editor → Before
before e = record { again = e.quit_before; message = e.message; typing = e.typing }
