-- No word begins from the bound on and before the offset, and words can be read from the row on.
use Rattle.std.proofs.Common.{◌≡◌, ◌<◌, find, length, nat_lt, reverse}
use Rattle.bx_view.specs.WordReads.{ReadsAlone}
use Rattle.bx_view.specs.Words.{body_words}
use Rattle.bx_view.proofs.moves.words.start_before.Given as goal

abbrev pub invariant-loop-row : goal.invariant-loop-row
invariant-loop-row g l = record {
  within : l.row < length l.paragraph.starts;
  reads : ReadsAlone (g.D.BidiData.data l.tables) l.paragraph l.row;
  same : find (λ o. nat_lt o l.fn.offset) (reverse (body_words (g.D.BidiData.data l.tables) l.paragraph.body))
      ≡ find (λ o. nat_lt o l.bound) (reverse (body_words (g.D.BidiData.data l.tables) l.paragraph.body));
}

abbrev pub decreases-loop-row : goal.decreases-loop-row
decreases-loop-row g l = l.row
