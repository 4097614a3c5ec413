-- The last start is among those from the offset reached on, or the one found before.
use Rattle.std.proofs.Common.{◌≡◌, ◌-◌, true, drop, find, nat_lt, reverse}
use Rattle.std.specs.Option.{option_or}
use Rattle.std.specs.Str.{IsCharBoundary}
use Rattle.unicode_segmentation.specs.Grapheme.{graphemes}
use Rattle.bx_view.specs.Words.{word_starts}
use Rattle.bx_view.specs.declared.moves.unit_kind.UnitKind.TheVariants.{Mark}
use Rattle.bx_view.proofs.moves.words.last_start.Given as goal

abbrev pub invariant-loop-at : goal.invariant-loop-at
invariant-loop-at g l = record {
  bound : IsCharBoundary l.body l.at;
  same : find (λ o. nat_lt o l.fn.bound) (reverse (word_starts (g.D.BidiData.data l.tables) Mark Mark l.fn.start (graphemes true (drop l.fn.start l.body))))
      ≡ option_or (find (λ o. nat_lt o l.fn.bound)
      (reverse (word_starts (g.D.BidiData.data l.tables) l.second l.first l.at (graphemes true (drop l.at l.body))))) l.found;
}

abbrev pub decreases-loop-at : goal.decreases-loop-at
decreases-loop-at g l = l.end - l.at
