-- The word goes on from the offset reached.
use Rattle.std.proofs.Common.{◌≡◌, ◌-◌, true, drop, length}
use Rattle.std.specs.Str.{IsCharBoundary}
use Rattle.unicode_segmentation.specs.Grapheme.{graphemes}
use Rattle.bx_view.specs.Words.{word_end}
use Rattle.bx_view.specs.declared.moves.unit_kind.UnitKind.TheVariants.{Other}
use Rattle.bx_view.proofs.moves.stretch.word_end.Given as goal

abbrev pub invariant-loop-at : goal.invariant-loop-at
invariant-loop-at g l = record {
  bound : IsCharBoundary l.body l.at;
  same : word_end (g.D.BidiData.data l.tables) Other l.fn.begin (graphemes true (drop l.fn.begin l.body))
      ≡ word_end (g.D.BidiData.data l.tables) l.last l.at (graphemes true (drop l.at l.body));
}

abbrev pub decreases-loop-at : goal.decreases-loop-at
decreases-loop-at g l = length l.body - l.at
