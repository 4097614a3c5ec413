-- The units of a paragraph's body, which are its extended grapheme clusters with their byte offsets, and the face of each: what a window of
-- `w` columns shows for it. A cluster is given as its bytes; `cs` are its characters, and `ucd` is Unicode's data.
use Rattle.std.specs.Prelude.{ℕ, ◌+◌, true, List, map, length, chars, slice_range, ◌==◌, nat_lt, Bool, false, [], ◌∷◌, Option, Some, None}
use Rattle.std.specs.List.{list_any}
use Rattle.bx_ucd.specs.Data.{Data}
use Rattle.bx_ucd.specs.declared.class.Class.{Class}
use Rattle.bx_ucd.specs.declared.class.Class.TheVariants.{LRE, RLE, LRO, RLO, PDF, LRI, RLI, FSI, PDI}
use Rattle.unicode_segmentation.specs.Grapheme.{graphemes}
use Rattle.unicode_segmentation.specs.Segments.{with_offsets}
use Rattle.bx_rows.specs.declared.cells.unit.Unit.{Unit}
use Rattle.bx_rows.specs.declared.cells.unit.Face.{Face}
use Rattle.bx_rows.specs.declared.cells.unit.Face.TheVariants.{Tab, Placeholder, Own}
use Rattle.bx_common.specs.Characters.{is_control}
use Rattle.unicode_width.specs.Width.{str_width}

-- the character of a text that has exactly one
abbrev pub only_char : List ℕ → Option ℕ
only_char (c ∷ []) = Some c
only_char _ = None

-- the only character is U+0009
abbrev pub is_tab : Option ℕ → Bool
is_tab None = false
is_tab (Some c) = c == 9

-- the letter, as its ASCII byte, of an explicit formatting character: e E o O p for LRE RLE LRO RLO PDF, i I f P for LRI RLI FSI PDI
abbrev pub letter_of : Class → Option ℕ
letter_of LRE = Some 101
letter_of RLE = Some 69
letter_of LRO = Some 111
letter_of RLO = Some 79
letter_of PDF = Some 112
letter_of LRI = Some 105
letter_of RLI = Some 73
letter_of FSI = Some 102
letter_of PDI = Some 80
letter_of _ = None

-- the letter of a cluster that is one explicit formatting character
abbrev pub format_letter : Data → Option ℕ → Option ℕ
format_letter ucd None = None
format_letter ucd (Some c) = letter_of (ucd.class c)

-- the columns of a text, with East Asian ambiguous characters narrow
abbrev pub columns_of : List ℕ → ℕ
columns_of cs = str_width false cs

-- the face of a text of n columns: the placeholder `~` for none, `#` for more than the window has, else the text itself
abbrev pub sized_face : ℕ → ℕ → Face
sized_face w n = elim (n == 0) [ true ↦ Placeholder 126 | false ↦ elim (nat_lt w n) [ true ↦ Placeholder 35 | false ↦ Own n ] ]

-- the face of a cluster's characters: a tab; `?` for a control; a formatting character's letter; else by its columns
abbrev pub face_of : Data → ℕ → List ℕ → Face
face_of ucd w cs = elim (is_tab (only_char cs)) [
  | true ↦ Tab
  | false ↦ elim (list_any is_control cs) [
    | true ↦ Placeholder 63
    | false ↦ elim (format_letter ucd (only_char cs)) [
      | Some letter ↦ Placeholder letter
      | None ↦ sized_face w (columns_of cs)
    ]
  ]
]

-- the face of a cluster
abbrev pub face : Data → ℕ → List ℕ → Face
face ucd w cluster = face_of ucd w (chars cluster)

-- the unit of a cluster that begins at byte offset `start`
abbrev pub unit_at : Data → ℕ → ℕ × List ℕ → Unit
unit_at ucd w (start, cluster) = record { start = start; stop = start + length cluster; face = face ucd w cluster }

-- the units of a body in a window of `w` columns (`true`: extended grapheme clusters)
abbrev pub units : Data → ℕ → List ℕ → List Unit
units ucd w body = map (unit_at ucd w) (with_offsets 0 (graphemes true body))

-- the bytes of a unit
abbrev pub unit_text : List ℕ → Unit → List ℕ
unit_text body u = slice_range body u.start u.stop

-- the characters of a unit
abbrev pub unit_chars : List ℕ → Unit → List ℕ
unit_chars body u = chars (unit_text body u)
