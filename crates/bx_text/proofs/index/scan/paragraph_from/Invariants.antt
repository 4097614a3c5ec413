-- The paragraph goes on at the scan's offset.
use Rattle.std.proofs.Common.{◌≡◌, ◌≤◌, ◌-◌, IsCharBoundary, drop, length}
use Rattle.bx_text.specs.index.Paragraphs.{lengths}
use Rattle.bx_text.specs.index.Ended.{first, further}
use Rattle.bx_text.proofs.index.scan.paragraph_from.Given as goal

abbrev pub invariant-loop-at : goal.invariant-loop-at
invariant-loop-at g l = record {
  bounds : IsCharBoundary l.text.edited.text l.at;
  start_before : l.start ≤ l.at;
  goes_on : first (lengths (g.D.BidiData.data l.tables) (drop l.start l.text.edited.text))
      ≡ further (l.at - l.start) (first (lengths (g.D.BidiData.data l.tables) (drop l.at l.text.edited.text)));
}

abbrev pub decreases-loop-at : goal.decreases-loop-at
decreases-loop-at g l = length l.text.edited.text - l.at
