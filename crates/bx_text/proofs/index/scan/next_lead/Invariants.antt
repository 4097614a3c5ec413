-- No byte before it may begin a separator.
use Rattle.std.proofs.Common.{◌≡◌, ◌<◌, ◌≤◌, ◌-◌, ℕ, false, length, get_or}
use Rattle.bx_text.proofs.index.scan.next_lead.Given as goal

abbrev pub invariant-loop-at : goal.invariant-loop-at
invariant-loop-at l = record {
  order : l.from ≤ l.at;
  inside : l.at ≤ length l.bytes;
  none_between : (i : ℕ) → l.from ≤ i → i < l.at → get_or l.lead_bytes.may_separate (get_or l.bytes i 0) false ≡ false;
}

abbrev pub decreases-loop-at : goal.decreases-loop-at
decreases-loop-at l = length l.bytes - l.at
