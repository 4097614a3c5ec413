-- The paragraphs before the offset are inserted, and those after it are still to come.
use Rattle.std.proofs.Common.{◌≡◌, ◌≤◌, ◌<◌, ◌^◌, ◌+◌, ◌-◌, ◌++◌, IsCharBoundary, take, drop, length}
use Rattle.bx_text.specs.index.Paragraphs.{lengths, total}
use Rattle.bx_text.specs.index.Ended.{ended_within}
use Rattle.bx_text.specs.index.Flat.{flat, room_at}
use Rattle.bx_text.specs.index.ScanRanges.{IsScanRange}
use Rattle.bx_text.proofs.index.rescan.insert_scanned.Given as goal

abbrev pub invariant-loop-at : goal.invariant-loop-at
invariant-loop-at g l =
    let ucd = g.D.BidiData.data l.scanned.tables.now in
    let text = l.scanned.text.now.edited.text in
    let left = ended_within (l.stop - l.at) (lengths ucd (drop l.at text)) in
    let all = ended_within (l.stop - l.start) (lengths ucd (drop l.start text)) in
    record {
      bounds : IsCharBoundary text l.at;
      range : IsScanRange ucd text l.at l.range;
      position : l.position ≤ length l.blocks.blocks;
      front : flat (take l.position l.blocks.blocks) ++ left ≡ flat (take l.fn.position l.fn.blocks.blocks) ++ all;
      back : flat (drop l.position l.blocks.blocks) ≡ flat (drop l.fn.position l.fn.blocks.blocks);
      room : length left ≤ room_at l.blocks l.position;
      short : total (flat l.blocks.blocks) + total left < 2 ^ 64;
      few : length (flat l.blocks.blocks) + length left < 2 ^ 64;
      stop : l.at + total left ≡ l.start + total all;
    }

abbrev pub decreases-loop-at : goal.decreases-loop-at
decreases-loop-at g l = l.stop - l.at
