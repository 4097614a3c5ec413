-- Pieces of whole characters in their buffers lie in them, as the comparison of pieces with bytes wants.
use Rattle.std.proofs.Common.{List, [], ◌∷◌}
use Rattle.bx_text.specs.declared.pieces.piece.Piece.{Piece}
use Rattle.bx_text.specs.pieces.Bytes.{AreWithin}
use Rattle.bx_text.specs.Buffers.{AreInBuffers, Buffers}

pub are_within : (b : Buffers) (ps : List Piece) → AreInBuffers b ps → AreWithin b ps
are_within b [] h = tt
are_within b (p ∷ ps) h = (h.0.inside, are_within b ps h.1)
