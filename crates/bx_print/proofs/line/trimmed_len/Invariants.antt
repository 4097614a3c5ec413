use Rattle.std.proofs.Common.{◌≡◌, ◌≤◌, length, take}
use Rattle.bx_print.specs.Page.{trimmed}
use Rattle.bx_print.proofs.line.trimmed_len.Given as goal

abbrev pub invariant-loop-len : goal.invariant-loop-len
invariant-loop-len l = record {
  within : l.len ≤ length l.bytes;
  same : trimmed (take l.len l.bytes) ≡ trimmed l.bytes;
}

abbrev pub decreases-loop-len : goal.decreases-loop-len
decreases-loop-len l = l.len
