-- All bytes that were passed are printable.
use Rattle.std.proofs.Common.{◌≡◌, ◌<◌, ◌≤◌, ◌-◌, ℕ, true, length, get_or}
use Rattle.bx_common.specs.Characters.{is_ascii_printable}
use Rattle.bx_rows.proofs.cells.ascii_run.printable_stop.Given as goal

abbrev pub invariant-loop-stop : goal.invariant-loop-stop
invariant-loop-stop l = record {
  order : l.at ≤ l.stop;
  inside : l.stop ≤ length l.bytes;
  printable : (i : ℕ) → l.at ≤ i → i < l.stop → is_ascii_printable (get_or l.bytes i 0) ≡ true;
}

abbrev pub decreases-loop-stop : goal.decreases-loop-stop
decreases-loop-stop l = length l.bytes - l.stop
