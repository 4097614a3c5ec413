-- Plain rows, in which each unit is one character of one column, shown as itself. Their pictures have a short way in the code.
-- Characters are codes (`c`, `cs`), `ucd` is what the tables say, `w` the window's columns.
use Rattle.std.specs.Prelude.{◌≡◌, ◌⊎◌, ℕ, zero, suc, ◌+◌, ◌%◌, true, false, List, [], ◌∷◌, ◌++◌, map, length, take, drop, encode_utf8, encode_utf8_all, Option, None, Some}
use Rattle.std.specs.List.{zip}
use Rattle.bx_ucd.specs.Data.{Data}
use Rattle.bx_ucd.specs.declared.joining.Form.{Form}
use Rattle.bx_rows.specs.declared.cells.unit.Face.TheVariants.{Own}
use Rattle.bx_rows.specs.declared.cells.unit.Unit.{Unit}
use Rattle.bx_rows.specs.cells.Units.{face}
use Rattle.bx_rows.specs.cells.Simple.{begins}
use Rattle.bx_rows.specs.cells.UnitFacts.{units_from}
use Rattle.bx_rows.specs.joining.Joining.{body_forms, first_forms}
use Rattle.bx_rows.specs.declared.drawn.Drawn.{Drawn}
use Rattle.bx_rows.specs.RowPicture.{Glyph, glyph, is_own, shown_text, mirror_image_within}
use Rattle.bx_rows.specs.Shown.{glyph_of}

-- one unit per character, the first at the offset `at`, in bytes
abbrev pub single_units : ℕ → List ℕ → List Unit
single_units at [] = []
single_units at (c ∷ cs) =
    let stop = at + length (encode_utf8 c) in
    record { start = at; stop = stop; face = Own 1 } ∷ single_units stop cs

-- a cluster ends before a text: the text is empty, or its first character begins a cluster
abbrev pub IsClusterEnd : List ℕ → Type 0
IsClusterEnd text = (length text ≡ 0) ⊎ ((d : ℕ) × (more : List ℕ) × (text ≡ encode_utf8 d ++ more) × (begins d ≡ true))

-- the glyph of a character, not mirrored
abbrev pub single_glyph : ℕ → Glyph
single_glyph c = glyph (encode_utf8 c) 1 false

-- the glyph of a character at a level, mirrored and in its joining form at an odd one
abbrev pub leveled_glyph : Data → ℕ → ℕ → ℕ → Form → Glyph
leveled_glyph ucd w c level form = glyph (shown_text ucd w 1 level (form ∷ []) (encode_utf8 c)) 1 false

-- the glyphs of characters at their levels and in their forms, in text order
abbrev pub leveled_glyphs : Data → ℕ → List ℕ → List ℕ → List Form → List Glyph
leveled_glyphs ucd w cs levels forms = map (λ (c, at). leveled_glyph ucd w c at.0 at.1) (zip cs (zip levels forms))

-- the text at a level, mirrored if the level is odd
abbrev pub mirrored_text : Data → ℕ → ℕ → ℕ → List ℕ → List ℕ
mirrored_text ucd w n level text = elim (level % 2) [ zero ↦ text | suc _ ↦ mirror_image_within ucd w n text ]

-- the glyph of a character at a level, mirrored but not joined at an odd one
abbrev pub mirrored_glyph : Data → ℕ → ℕ → ℕ → Glyph
mirrored_glyph ucd w c level = glyph (mirrored_text ucd w 1 level (encode_utf8 c)) 1 false

-- the glyphs of characters at their levels, mirrored but not joined at odd ones, in text order
abbrev pub mirrored_glyphs : Data → ℕ → List ℕ → List ℕ → List Glyph
mirrored_glyphs ucd w cs levels = map (λ (c, level). mirrored_glyph ucd w c level) (zip cs levels)

-- the glyph `g` of a letter with the letter's form `c` as its text, if that is shown as itself in one column; None: the letter
-- has no such form
abbrev pub formed_glyph : Data → ℕ → Glyph → Option ℕ → Glyph
formed_glyph ucd w g None = g
formed_glyph ucd w g (Some c) = elim (is_own 1 (face ucd w (encode_utf8 c))) [ true ↦ glyph (encode_utf8 c) g.columns g.negative | false ↦ g ]

-- a glyph at an odd level in the form of its letter; the level, the letter and the form are given
abbrev pub joined_glyph : Data → ℕ → Glyph → ℕ × (ℕ × Form) → Glyph
joined_glyph ucd w g (level, at) = elim (level % 2) [ zero ↦ g | suc _ ↦ formed_glyph ucd w g (ucd.form at.0 at.1) ]

-- at this level no joining form changes a text of one letter: it is only mirrored
abbrev pub IsFormless : Data → ℕ → ℕ → List ℕ → Type 0
IsFormless ucd w level text = (form : Form) → shown_text ucd w 1 level (form ∷ []) text ≡ mirrored_text ucd w 1 level text

-- the forms of a body's characters from character `number`, from 0, on: one for each of `cs`
abbrev pub char_forms : Data → List ℕ → List (Option ℕ) → ℕ → List ℕ → List Form
char_forms ucd body each number cs = first_forms (length cs) (drop number (body_forms ucd body each))

-- from the offset `at` of a body on, each of the first `count` units, or of all if there are fewer, is one character of one
-- column; the glyphs are those of these characters, not mirrored or joined
pub record AreSingle (ucd : Data) (w : ℕ) (body : List ℕ) (at count : ℕ) (glyphs : List Drawn) : Type 0 where
  pub cs : List ℕ
  pub rest : List ℕ
  pub bytes : drop at body ≡ encode_utf8_all cs ++ rest
  pub units : take count (units_from ucd w body at) ≡ single_units at cs
  pub shown : map glyph_of glyphs ≡ map single_glyph cs
