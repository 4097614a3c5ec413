-- A control sequence that the code reads at once, not byte by byte (`src/sequence.rt`).
use Rattle.std.specs.Prelude.{◌≡◌, ◌≤◌, ℕ, List, [], length, drop}
use Rattle.bx_grid.specs.declared.command.Command.{Command}
use Rattle.bx_grid.specs.Terminal.{Terminal, run_ended, after_command, reads}
use Rattle.bx_common.specs.Characters.{largest_side}

-- the first `len` bytes are a sequence: a terminal `t` with no token half read ends its run, obeys this command, and then reads
-- the other bytes
pub record BeginWithSequence (bytes : List ℕ) (command : Command) (len : ℕ) : Type 0 where
  pub some : 1 ≤ len
  pub within : len ≤ length bytes
  pub obeyed : (t : Terminal) → t.half_read ≡ [] → t.height ≤ largest_side → t.width ≤ largest_side
      → reads t bytes ≡ reads (after_command (run_ended t) command) (drop len bytes)
