-- The matches from here on are still to come.
use Rattle.std.proofs.Common.{◌≡◌, ◌-◌, ◌++◌, length, string_bytes, IsCharBoundary}
use Rattle.bx_find.specs.Matches.{spans_from}
use Rattle.bx_document.specs.Swapped.{swapped}
use Rattle.bx_document.proofs.document.Document.swapped.Given as goal

abbrev pub invariant-loop-found : goal.invariant-loop-found
invariant-loop-found g l = record {
  bounds : IsCharBoundary l.self.document.content.text l.from;
  whole : string_bytes l.copy ++ swapped l.from l.self.document.content.text l.other
      (spans_from (g.D.BidiData.data l.self.tables) l.reading l.query l.self.document.content.text l.from)
      ≡ swapped l.start l.self.document.content.text l.other
      (spans_from (g.D.BidiData.data l.self.tables) l.reading l.query l.self.document.content.text l.start);
}

abbrev pub decreases-loop-found : goal.decreases-loop-found
decreases-loop-found g l = length l.self.document.content.text - l.from
