-- The picture of a row: the glyphs of its units in visual order, mirrored (L4) and joined at odd levels, and blanks up to the
-- window's edge. `w` is the window's columns, `ucd` what the tables say.
use Rattle.std.specs.Prelude.{ℕ, zero, suc, ◌+◌, ◌-◌, ◌%◌, ◌==◌, Bool, true, false, List, [], ◌∷◌, ◌++◌, map, length, take, sum, flat_map, replicate, slice_index_or, Option}
use Rattle.std.specs.Prelude.{unwrap_or, chars, encode_utf8_all}
use Rattle.std.specs.List.{zip}
use Rattle.bx_ucd.specs.Data.{Data}
use Rattle.bx_common.specs.Characters.{are_ascii_printable}
use Rattle.bx_ucd.specs.declared.joining.Form.{Form}
use Rattle.bx_rows.specs.declared.cells.unit.Face.{Face}
use Rattle.bx_rows.specs.declared.cells.unit.Face.TheVariants.{Tab, Placeholder, Own}
use Rattle.bx_rows.specs.declared.cells.unit.Unit.{Unit}
use Rattle.bx_rows.specs.cells.Units.{face, unit_text}
use Rattle.bx_rows.specs.joining.Joining.{text_forms, in_forms}
use Rattle.bx_rows.specs.Wrapping.{columns_at}
use Rattle.bx_rows.specs.RowLevels.{visual}

-- a glyph: its bytes, its columns, and whether it is in negative image
pub record Glyph : Type 0 where
  pub text : List ℕ
  pub columns : ℕ
  pub negative : Bool

-- the glyph with these parts
abbrev pub glyph : List ℕ → ℕ → Bool → Glyph
glyph text columns negative = record { text = text; columns = columns; negative = negative }

-- SPACE, in one column
abbrev pub blank : Glyph
blank = glyph (32 ∷ []) 1 false

-- one glyph per character of printable ASCII
abbrev pub letter_glyphs : List ℕ → List Glyph
letter_glyphs text = map (λ b. glyph (b ∷ []) 1 false) text

-- own text of `n` columns: one glyph per character if it is printable ASCII, else one glyph
abbrev pub text_glyphs : ℕ → List ℕ → List Glyph
text_glyphs n text = elim (are_ascii_printable text) [ true ↦ letter_glyphs text | false ↦ glyph text n false ∷ [] ]

-- the mirrors of characters; characters without a mirror stay
abbrev pub mirrors_of : Data → List ℕ → List ℕ
mirrors_of ucd cs = map (λ c. unwrap_or (ucd.mirror c) c) cs

-- a text with its characters mirrored
abbrev pub mirror_image : Data → List ℕ → List ℕ
mirror_image ucd text = encode_utf8_all (mirrors_of ucd (chars text))

-- the face is the unit's own text, in `n` columns
abbrev pub is_own : ℕ → Face → Bool
is_own n (Own m) = m == n
is_own n _ = false

-- the characters' mirrors are shown as themselves in `n` columns
abbrev pub mirrors_fit : Data → ℕ → ℕ → List ℕ → Bool
mirrors_fit ucd w n cs = is_own n (face ucd w (encode_utf8_all (mirrors_of ucd cs)))

-- characters, mirrored if their mirrors fit in `n` columns
abbrev pub mirrored_chars : Data → ℕ → ℕ → List ℕ → List ℕ
mirrored_chars ucd w n cs = elim (mirrors_fit ucd w n cs) [ true ↦ mirrors_of ucd cs | false ↦ cs ]

-- a text, mirrored if the mirrors of its characters fit
abbrev pub mirror_image_within : Data → ℕ → ℕ → List ℕ → List ℕ
mirror_image_within ucd w n text = elim (mirrors_fit ucd w n (chars text)) [ true ↦ mirror_image ucd text | false ↦ text ]

-- the mirrored text in the forms of the text's letters if it is shown as itself in `n` columns, else without
abbrev pub joined_image_within : Data → ℕ → ℕ → List Form → List ℕ → List ℕ
joined_image_within ucd w n forms text =
    let letters = chars text in
    let other = encode_utf8_all (in_forms ucd forms letters (mirrored_chars ucd w n letters)) in
    elim (is_own n (face ucd w other)) [ true ↦ other | false ↦ mirror_image_within ucd w n text ]

-- the text shown at a level: mirrored and then joined if the level is odd
abbrev pub shown_text : Data → ℕ → ℕ → ℕ → List Form → List ℕ → List ℕ
shown_text ucd w n level forms text = elim (level % 2) [ zero ↦ text | suc _ ↦ joined_image_within ucd w n forms text ]

-- the glyphs of a unit with this text and face at a level; `columns`, those that it takes in its row, matter for a tab alone
abbrev pub face_glyphs : Data → ℕ → List ℕ → Face → ℕ → ℕ → List Form → List Glyph
face_glyphs ucd w text Tab columns level forms = replicate columns blank
face_glyphs ucd w text (Placeholder letter) columns level forms = glyph (letter ∷ []) 1 true ∷ []
face_glyphs ucd w text (Own n) columns level forms = text_glyphs n (shown_text ucd w n level forms text)

-- the forms of a unit's characters in a body whose characters have the levels `each`
abbrev pub unit_forms : Data → List ℕ → List (Option ℕ) → Unit → List Form
unit_forms ucd body each u = text_forms ucd body each (length (chars (take u.start body))) (unit_text body u)

-- the columns of each unit of the rest of a row, of which `c` columns are taken
abbrev pub unit_columns : ℕ → ℕ → List Unit → List ℕ
unit_columns w c [] = []
unit_columns w c (u ∷ us) = let n = columns_at w c u.face in n ∷ unit_columns w (c + n) us

-- the sum of the columns of a row's units
abbrev pub columns_used : ℕ → List Unit → ℕ
columns_used w us = sum (unit_columns w 0 us)

-- the glyphs of each unit of a row, given the columns and levels of its units; the body's characters have the levels `each`
abbrev pub unit_glyphs : Data → ℕ → List ℕ → List (Option ℕ) → List Unit → List ℕ → List ℕ → List (List Glyph)
unit_glyphs ucd w body each us columns levels =
    map (λ (u, at). face_glyphs ucd w (unit_text body u) u.face at.0 at.1 (unit_forms ucd body each u)) (zip us (zip columns levels))

-- glyphs with a row's `n` blanks: at the right in a paragraph of even level, at the left in one of odd level
abbrev pub with_blanks : ℕ → ℕ → List Glyph → List Glyph
with_blanks paragraph n glyphs = elim (paragraph % 2) [ zero ↦ glyphs ++ replicate n blank | suc _ ↦ replicate n blank ++ glyphs ]

-- the glyphs of a row's units in visual order
abbrev pub own_glyphs : Data → ℕ → List ℕ → List (Option ℕ) → List Unit → List ℕ → List Glyph
own_glyphs ucd w body each us levels =
    let glyphs = unit_glyphs ucd w body each us (unit_columns w 0 us) levels in
    flat_map (λ k. slice_index_or glyphs k []) (visual levels)

-- a row from left to right: the glyphs of its units, and the blanks
abbrev pub draw : Data → ℕ → List ℕ → ℕ → List (Option ℕ) → List Unit → List ℕ → List Glyph
draw ucd w body paragraph each us levels = with_blanks paragraph (w - columns_used w us) (own_glyphs ucd w body each us levels)
