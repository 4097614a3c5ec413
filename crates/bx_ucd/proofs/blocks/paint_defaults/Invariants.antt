use Rattle.std.proofs.Common.{◌≡◌, ℕ, ◌*◌, ◌<◌, length, drop}
use Rattle.std.specs.Prelude.{unwrap_or, filter_map}
use Rattle.bx_ucd.specs.Answers.{default, class_by_ranges}
use Rattle.bx_ucd.specs.Blocks.{class_at}
use Rattle.bx_ucd.proofs.blocks.paint_defaults.Given as goal

abbrev pub invariant-loop-entry : goal.invariant-loop-entry
invariant-loop-entry l = record {
  len : length l.blocks ≡ length l.fn.blocks;
  painted : (code : ℕ) → code < 256 * length l.fn.blocks → unwrap_or (class_by_ranges (filter_map default l.entries) code) (class_at l.fn.blocks code)
      ≡ unwrap_or (class_by_ranges (filter_map default (drop l.entry-index l.entries)) code) (class_at l.blocks code);
}
