-- What is told can be shown. `ucd` is Unicode's data.
use Rattle.std.specs.Prelude.{◌≡◌, ℕ, ◌<◌, true, List, Option, IfSome}
use Rattle.bx_common.specs.Characters.{are_ascii_printable}
use Rattle.bx_ucd.specs.Data.{Data}
use Rattle.bx_editor.specs.questions.Told.{told_text}

-- all that is told is printable ASCII, SPACE to TILDE; the code keeps a level in a byte
abbrev pub ToldIsPrintable : Type 0
ToldIsPrintable = (ucd : Data) (cs : List ℕ) (level : Option ℕ) → IfSome level (λ n. n < 256) → are_ascii_printable (told_text ucd cs level) ≡ true
