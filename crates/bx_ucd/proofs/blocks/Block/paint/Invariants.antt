use Rattle.std.proofs.Common.{◌≡◌, ℕ, ◌<◌, ◌≤◌, length, max, None}
use Rattle.bx_ucd.specs.Blocks.{class_in}
use Rattle.bx_ucd.proofs.blocks.Block.paint.Given as goal

abbrev pub invariant-loop-i : goal.invariant-loop-i
invariant-loop-i l = record {
  whole : l.self.whole ≡ None;
  len : length l.self.each ≡ 256;
  upto : l.i ≤ max l.low l.end;
  painted : (k : ℕ) → l.low ≤ k → k < l.i → class_in l.self k ≡ l.class;
  below : (k : ℕ) → k < l.low → k < 256 → class_in l.self k ≡ class_in l.fn.self k;
  above : (k : ℕ) → l.i ≤ k → k < 256 → class_in l.self k ≡ class_in l.fn.self k;
}
