-- A printed text: its rows of `w` columns, each as a line of plain bytes. `ucd` is Unicode's data, `g` a glyph, `r` a row.
use Rattle.std.specs.Prelude.{ℕ, ◌==◌, true, false, List, [], ◌∷◌, ◌++◌, if◌then◌else◌, flat_map}
use Rattle.std.specs.List.{join_by}
use Rattle.bx_ucd.specs.Data.{Data}
use Rattle.bx_common.specs.declared.base.Base.{Base}
use Rattle.bx_rows.specs.RowPicture.{Glyph}
use Rattle.bx_view.specs.TextRows.{text_row_glyphs, text_rows}
use Rattle.bx_print.specs.declared.style.Placeholders.{Placeholders}
use Rattle.bx_print.specs.declared.style.Placeholders.TheVariants.{Bracketed, LeftOut}

-- the printed bytes of a placeholder with this letter; 91 and 93 are `[` and `]`
abbrev pub placeholder_bytes : Placeholders → List ℕ → List ℕ
placeholder_bytes LeftOut letter = []
placeholder_bytes Bracketed letter = 91 ∷ letter ++ 93 ∷ []

-- the printed bytes of a glyph; a glyph in negative image is a placeholder
abbrev pub glyph_bytes : Placeholders → Glyph → List ℕ
glyph_bytes placeholders g = elim (g.negative) [ true ↦ placeholder_bytes placeholders g.text | false ↦ g.text ]

-- a byte before bytes that end without a blank (32); a blank before nothing is dropped
abbrev pub before : ℕ → List ℕ → List ℕ
before b [] = if b == 32 then [] else b ∷ []
before b (c ∷ cs) = b ∷ c ∷ cs

-- bytes without the blanks at their end
abbrev pub trimmed : List ℕ → List ℕ
trimmed [] = []
trimmed (b ∷ bs) = before b (trimmed bs)

-- the line of a row: its glyphs from left to right, without blanks at the end
abbrev pub line : Placeholders → List Glyph → List ℕ
line placeholders glyphs = trimmed (flat_map (glyph_bytes placeholders) glyphs)

-- the lines of a text's rows in `w` columns, separated by line feeds (10)
abbrev pub page : Data → Placeholders → Base → ℕ → List ℕ → List ℕ
page ucd placeholders base w text =
    join_by (λ r. line placeholders (text_row_glyphs ucd w r)) (10 ∷ []) (text_rows ucd base w text)
