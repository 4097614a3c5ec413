use Rattle.std.proofs.Common.{◌≤◌, ◌-◌, length, take}
use Rattle.bx_terminal.specs.Printables.{IsPrintable}
use Rattle.bx_terminal.proofs.text.printable_len.Given as goal

abbrev pub invariant-loop-len : goal.invariant-loop-len
invariant-loop-len l = (l.len ≤ length l.bytes) × IsPrintable (take l.len l.bytes)

abbrev pub decreases-loop-len : goal.decreases-loop-len
decreases-loop-len l = length l.bytes - l.len
