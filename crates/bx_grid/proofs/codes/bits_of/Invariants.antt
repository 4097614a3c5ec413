use Rattle.std.proofs.Common.{◌≡◌, ◌≤◌, ◌<◌, ℕ, get_or}
use lib.Bits.{bit_xor}
use Rattle.bx_grid.proofs.codes.bits_of.Given as goal

abbrev pub invariant-loop-i : goal.invariant-loop-i
invariant-loop-i l = record {
  differing : (k : ℕ) → k < l.i → bit_xor (get_or l.codes k 0) (get_or l.others k 0) ≤ l.bits.differing;
  none : l.codes ≡ l.others → l.bits.differing ≡ 0;
  any : (k : ℕ) → k < l.i → get_or l.codes k 0 ≤ l.bits.any;
}
