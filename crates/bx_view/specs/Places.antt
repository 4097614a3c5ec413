-- The places of a text, from its paragraphs and clusters alone: without window, direction and rows. `ucd` is what the tables
-- say, a text its bytes.
use Rattle.std.specs.Prelude.{ℕ, true, List, [], ◌∷◌, ◌++◌, flat_map, Contains}
use Rattle.bx_ucd.specs.Data.{Data}
use Rattle.unicode_segmentation.specs.Grapheme.{graphemes}
use Rattle.bx_text.specs.index.Paragraphs.{Paragraph, paragraphs}
use Rattle.bx_view.specs.Numbers.{boundaries}

-- bytes as one piece; no piece, if there are none
abbrev pub one_piece : List ℕ → List (List ℕ)
one_piece [] = []
one_piece (b ∷ bs) = (b ∷ bs) ∷ []

-- a paragraph in pieces: the clusters of its body, and its separator
abbrev pub pieces_of : Paragraph → List (List ℕ)
pieces_of p = graphemes true p.body ++ one_piece p.separator

-- a text in pieces
abbrev pub pieces : Data → List ℕ → List (List ℕ)
pieces ucd text = flat_map pieces_of (paragraphs ucd text)

-- the places of a text: the boundaries of its clusters and its separators
abbrev pub text_places : Data → List ℕ → List ℕ
text_places ucd text = boundaries 0 (pieces ucd text)

-- an offset is a place of the text, in any window
abbrev pub IsTextPlace : Data → List ℕ → ℕ → Type 0
IsTextPlace ucd text offset = Contains (text_places ucd text) offset
