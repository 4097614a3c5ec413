use Rattle.std.proofs.Common.{◌≡◌, take}
use Rattle.bx_common.specs.Characters.{are_ascii_printable}
use Rattle.bx_rows.proofs.cells.fitting.are_ascii_printable.Given as goal

abbrev pub invariant-loop-byte : goal.invariant-loop-byte
invariant-loop-byte l = l.is_so ≡ are_ascii_printable (take l.byte-index l.bytes)
