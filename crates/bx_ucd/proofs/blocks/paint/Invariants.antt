use Rattle.std.proofs.Common.{◌≡◌, ℕ, ◌<◌, ◌≤◌, ◌*◌, ◌/◌, length}
use Rattle.bx_ucd.specs.Blocks.{class_at}
use Rattle.bx_ucd.proofs.blocks.paint.Given as goal

abbrev pub invariant-loop-b : goal.invariant-loop-b
invariant-loop-b l = record {
  len : length l.blocks ≡ length l.fn.blocks;
  painted : (code : ℕ) → l.painted.range.low ≤ code → code ≤ l.painted.range.high → code < 256 * length l.fn.blocks → code / 256 < l.b
      → class_at l.blocks code ≡ l.painted.class;
  below : (code : ℕ) → code < l.painted.range.low → code < 256 * length l.fn.blocks → class_at l.blocks code ≡ class_at l.fn.blocks code;
  above : (code : ℕ) → l.painted.range.high < code → code < 256 * length l.fn.blocks → class_at l.blocks code ≡ class_at l.fn.blocks code;
  later : (code : ℕ) → l.b ≤ code / 256 → code < 256 * length l.fn.blocks → class_at l.blocks code ≡ class_at l.fn.blocks code;
}
