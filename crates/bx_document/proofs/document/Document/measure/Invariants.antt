-- The matches from the stop on are still to come.
use Rattle.std.proofs.Common.{◌≡◌, ◌≤◌, ◌+◌, ◌-◌, ◌^◌, length, min}
use Rattle.bx_find.specs.Matches.{spans_from}
use Rattle.bx_text.specs.Changes.{IsRange}
use Rattle.bx_document.specs.Swapped.{last_stop, swapped}
use Rattle.bx_document.proofs.document.Document.measure.Given as goal

abbrev pub invariant-loop-found : goal.invariant-loop-found
invariant-loop-found g l = record {
  range : IsRange l.self.document.content.text l.start l.measure.stop;
  enough : l.measure.count ≤ l.measure.stop;
  fits : l.measure.len ≤ 2 ^ 64 - 1;
  last : last_stop l.measure.stop
      (spans_from (g.D.BidiData.data l.self.tables) l.reading l.query l.self.document.content.text l.measure.stop)
      ≡ last_stop l.start (spans_from (g.D.BidiData.data l.self.tables) l.reading l.query l.self.document.content.text l.start);
  all : l.measure.count
      + length (spans_from (g.D.BidiData.data l.self.tables) l.reading l.query l.self.document.content.text l.measure.stop)
      ≡ length (spans_from (g.D.BidiData.data l.self.tables) l.reading l.query l.self.document.content.text l.start);
  whole : min (2 ^ 64 - 1) (l.measure.len + length (swapped l.measure.stop l.self.document.content.text l.other
      (spans_from (g.D.BidiData.data l.self.tables) l.reading l.query l.self.document.content.text l.measure.stop)))
      ≡ min (2 ^ 64 - 1) (length (swapped l.start l.self.document.content.text l.other
      (spans_from (g.D.BidiData.data l.self.tables) l.reading l.query l.self.document.content.text l.start)));
}

abbrev pub decreases-loop-found : goal.decreases-loop-found
decreases-loop-found g l = length l.self.document.content.text - l.measure.stop
