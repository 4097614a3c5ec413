-- The first start is among those from the offset reached on.
use Rattle.std.proofs.Common.{◌≡◌, ◌-◌, true, drop, find, length, nat_le}
use Rattle.std.specs.Str.{IsCharBoundary}
use Rattle.unicode_segmentation.specs.Grapheme.{graphemes}
use Rattle.bx_view.specs.Words.{word_starts}
use Rattle.bx_view.proofs.moves.words.first_start.Given as goal

abbrev pub invariant-loop-at : goal.invariant-loop-at
invariant-loop-at g l = record {
  bound : IsCharBoundary l.body l.at;
  same : find (nat_le l.from) (word_starts (g.D.BidiData.data l.tables) l.fn.before l.fn.before l.fn.start (graphemes true (drop l.fn.start l.body)))
      ≡ find (nat_le l.from) (word_starts (g.D.BidiData.data l.tables) l.second l.first l.at (graphemes true (drop l.at l.body)));
}

abbrev pub decreases-loop-at : goal.decreases-loop-at
decreases-loop-at g l = length l.body - l.at
