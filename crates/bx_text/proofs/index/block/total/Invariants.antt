-- The bytes of the paragraphs counted so far.
use Rattle.std.proofs.Common.{◌≡◌, take}
use Rattle.bx_text.specs.index.Paragraphs.{total}
use Rattle.bx_text.proofs.index.block.total.Given as goal

abbrev pub invariant-loop-paragraph : goal.invariant-loop-paragraph
invariant-loop-paragraph l = l.bytes ≡ total (take l.paragraph-index l.lengths)
