-- The sequences written so far, and the sequences left.
use Rattle.std.proofs.Common.{◌≡◌, drop, length, replicate, None}
use Rattle.bx_levels.specs.resolve.Levels.{with_sequences}
use Rattle.bx_levels.proofs.resolve.by_rules.each_by_rules.Given as goal

abbrev pub invariant-loop-sequence : goal.invariant-loop-sequence
invariant-loop-sequence g l = record {
  as_long : length l.each.items ≡ length l.chars;
  written : with_sequences (g.D.BidiData.data l.tables) l.chars l.explicit.kept.items l.sequence-items (replicate (length l.chars) None)
      ≡ with_sequences (g.D.BidiData.data l.tables) l.chars l.explicit.kept.items (drop l.sequence-index l.sequence-items) l.each.items;
}
