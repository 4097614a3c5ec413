use Rattle.bx_document.proofs.RoomBehind.{Leaves}
use Rattle.bx_document.proofs.input_line.room_behind.Given as goal

abbrev pub invariant-loop-glyph : goal.invariant-loop-glyph
invariant-loop-glyph l = Leaves l.fn.room l.fn.glyphs l.glyph-index l.left
