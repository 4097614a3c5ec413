-- Paragraphs and units by their numbers: the numbers of a place, and the place that two numbers name. `ucd` is what the tables say.
use Rattle.std.specs.Prelude.{ℕ, ◌+◌, nat_lt, true, List, [], count_by, map, slice_index_or, length, take, ◌∷◌, ◌-◌, min}
use Rattle.unicode_segmentation.specs.Grapheme.{graphemes}
use Rattle.unicode_segmentation.specs.Segments.{with_offsets}
use Rattle.bx_ucd.specs.Data.{Data}
use Rattle.bx_text.specs.index.Paragraphs.{lengths_of, paragraphs, paragraph_of, spans, Paragraph, bare, lengths, total}

-- the number of paragraphs of a text
abbrev pub count : Data → List ℕ → ℕ
count ucd text = length (paragraphs ucd text)

-- paragraph `number`; an empty one if there is none
abbrev pub paragraph_at : Data → List ℕ → ℕ → Paragraph
paragraph_at ucd text number = slice_index_or (paragraphs ucd text) number (bare [])

-- the body of paragraph `number`
abbrev pub body_at : Data → List ℕ → ℕ → List ℕ
body_at ucd text number = (paragraph_at ucd text number).body

-- the offset at which the body of paragraph `number` begins
abbrev pub start_at : Data → List ℕ → ℕ → ℕ
start_at ucd text number = total (take number (lengths ucd text))

-- the number of the paragraph, from 0, that an offset of a text falls in
abbrev pub paragraph_number : Data → List ℕ → ℕ → ℕ
paragraph_number ucd text offset = paragraph_of (map lengths_of (paragraphs ucd text)) offset

-- the number of units that begin before a place, in a body that begins at the offset `start`
abbrev pub units_before : ℕ → ℕ → List ℕ → ℕ
units_before start place body = count_by (λ (at, _). nat_lt (start + at) place) (with_offsets 0 (graphemes true body))

-- the number of a place among the units of its paragraph, from 1
abbrev pub unit_number : Data → List ℕ → ℕ → ℕ
unit_number ucd text place =
    let ps = paragraphs ucd text in
    let k = paragraph_number ucd text place in
    let start = (slice_index_or (spans (map lengths_of ps)) k (0, 0)).0 in
    units_before start place (slice_index_or (map (λ p. p.body) ps) k []) + 1

-- the start of each piece and the end of the last; the first begins at the offset `start`
abbrev pub boundaries : ℕ → List (List ℕ) → List ℕ
boundaries start [] = start ∷ []
boundaries start (p ∷ ps) = start ∷ boundaries (start + length p) ps

-- The place of unit `unit`, counted from 0, in a body that begins at the offset `start`: the start of the unit; the body's end,
-- if the body has fewer units.
abbrev pub unit_place : ℕ → List ℕ → ℕ → ℕ
unit_place start body unit = slice_index_or (boundaries start (graphemes true body)) unit (start + length body)

-- The place of unit `unit` of paragraph `paragraph`, both counted from 1, where 0 means 1. If the text has fewer paragraphs, it
-- is in the last one.
abbrev pub place_of : Data → List ℕ → ℕ → ℕ → ℕ
place_of ucd text paragraph unit =
    let number = min (paragraph - 1) (count ucd text - 1) in
    unit_place (start_at ucd text number) (body_at ucd text number) (unit - 1)
