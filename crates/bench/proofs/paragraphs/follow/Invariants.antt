-- The index describes the text.
use Rattle.std.proofs.Common.{◌≡◌}
use Rattle.bx_text.specs.index.Paragraphs.{lengths}
use Rattle.bench.proofs.paragraphs.follow.Given as goal

abbrev pub invariant-loop : goal.invariant-loop
invariant-loop g l = l.index.paragraphs ≡ lengths (g.D.BidiData.data l.tables) l.text.edited.text

abbrev pub invariant-loop-2 : goal.invariant-loop-2
invariant-loop-2 g l = l.index.paragraphs ≡ lengths (g.D.BidiData.data l.tables) l.text.edited.text
