-- Exit statuses.
use Rattle.std.specs.Prelude.{ℕ, Result, Ok, Err}
use Rattle.std.specs.declared.process.ExitCode.{ExitCode}

abbrev pub status_of : ExitCode → ℕ
status_of code = code.status

-- 0 after a run without a fault, and 1 after a fault
abbrev pub status_after : {E : Type 0} → Result (Unit {0}) E → ℕ
status_after (Ok done) = 0
status_after (Err fault) = 1
