-- The levels written so far, and those that the sequences left will write.
use Rattle.std.proofs.Common.{◌≡◌, ◌≤◌, length}
use Rattle.std.specs.Prelude.{All}
use Rattle.bx_levels.specs.embedding.Sequences.{RunSequence}
use Rattle.bx_levels.specs.resolve.Levels.{with_sequences}
use Rattle.bx_levels.proofs.resolve.formatted.write_left.Given as goal

abbrev pub invariant-loop-each : goal.invariant-loop-each
invariant-loop-each g l = record {
  own : l.walk.explicit ≡ l.fn.walk.explicit;
  text : l.buffers.body ≡ l.fn.buffers.body;
  all : length l.each.items ≡ length l.kept;
  few : All (λ (s : RunSequence). length s.indexes ≤ length l.kept) l.walk.left;
  written : with_sequences (g.D.BidiData.data l.tables) l.fn.buffers.body l.kept l.fn.walk.left l.fn.each.items
      ≡ with_sequences (g.D.BidiData.data l.tables) l.fn.buffers.body l.kept l.walk.left l.each.items;
}

abbrev pub decreases-loop-each : goal.decreases-loop-each
decreases-loop-each g l = length l.walk.left
