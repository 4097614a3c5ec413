-- The paragraphs before this one, which end at the offset or before it.
use Rattle.std.proofs.Common.{◌≡◌, ◌≤◌, take}
use Rattle.bx_text.specs.index.Paragraphs.{total}
use Rattle.bx_text.proofs.index.blocks.position_within.Given as goal

abbrev pub invariant-loop-paragraph : goal.invariant-loop-paragraph
invariant-loop-paragraph l = record {
  number : l.number ≡ l.paragraph-index;
  start : l.start ≡ total (take l.paragraph-index l.lengths);
  start_before : l.start ≤ l.offset;
}
