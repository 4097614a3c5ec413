-- A painting appended to other bytes (`Output` of `src/output.rt`).
use Rattle.std.specs.Prelude.{ℕ, List}

-- a painting that is being written
pub record OutputState : Type 0 where
  -- the bytes before the painting, which stay
  pub before : List ℕ
  -- the bytes of the painting so far
  pub painting : List ℕ
