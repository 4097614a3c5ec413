-- The paragraphs before the offset are in the blocks, and the others follow.
use Rattle.std.proofs.Common.{◌≡◌, ◌≤◌, ◌-◌, ◌++◌, [], IsCharBoundary, drop, length}
use Rattle.bx_text.specs.index.Paragraphs.{lengths, total}
use Rattle.bx_text.specs.index.Flat.{flat}
use Rattle.bx_text.specs.index.ScanRanges.{IsScanRange}
use Rattle.bx_text.proofs.index.index.Index.build.Given as goal

abbrev pub invariant-loop-at : goal.invariant-loop-at
invariant-loop-at g l = record {
  bounds : IsCharBoundary l.text.edited.text l.at;
  range : IsScanRange (g.D.BidiData.data l.tables) l.text.edited.text l.at l.range;
  position : l.position ≤ length l.front.blocks;
  front : flat l.front.blocks ++ lengths (g.D.BidiData.data l.tables) (drop l.at l.text.edited.text)
      ≡ lengths (g.D.BidiData.data l.tables) l.text.edited.text;
  behind : flat (drop l.position l.front.blocks) ≡ [];
  bytes : total (flat l.front.blocks) ≡ l.at;
}

abbrev pub decreases-loop-at : goal.decreases-loop-at
decreases-loop-at g l = length l.text.edited.text - l.at
