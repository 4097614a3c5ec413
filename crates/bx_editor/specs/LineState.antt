-- An input line: what is typed at a prompt.
use Rattle.std.specs.Prelude.{ℕ, List}

-- the line's text in UTF-8, and the cursor's place in it, in bytes
pub record LineState : Type 0 where
  pub text : List ℕ
  pub cursor : ℕ
