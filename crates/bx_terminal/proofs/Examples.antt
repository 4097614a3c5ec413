-- Pictures, columns and reading, on worked examples.
use Rattle.std.proofs.Common.{◌≡◌, ℕ, true, false, List, [], ◌∷◌, ◌++◌, replicate, Option, Some, None, refl}
use Rattle.std.specs.Prelude.{codes, ◌*◌}
use Rattle.std.specs.Str.{chars}
use Rattle.unicode_width.proofs.Computing.{unicode_width}
use Rattle.bx_grid.specs.Columns.{Col, Unknown, Glyph, blank, run_columns}
use Rattle.bx_grid.specs.Grid.{paste, AreBlank}
use Rattle.bx_common.specs.Glyphs.{is_one_glyph}
use Rattle.bx_grid.specs.Glyphs.{WholeGlyph, IsGlyph, whole_columns, all_columns, AreWhole, AreWholeRows}
use Rattle.bx_grid.specs.Picture.{PictureState, Shows}
use Rattle.bx_grid.specs.Terminal.{Terminal, reads, after_resize}
use Rattle.bx_grid.proofs.Whole.{whole-append, whole_glyph, whole_blanks, whole_head}

-- nothing is known of it
abbrev fresh : ℕ → ℕ → Terminal
fresh h w = record { height = h; width = w; columns = replicate (h * w) Unknown; position = None; negative = None; run = []; half_read = [] }

-- one row, with nothing half read
abbrev row : ℕ → List Col → Option (ℕ × ℕ) → Terminal
row w columns position = record { height = 1; width = w; columns = columns; position = position; negative = Some false; run = []; half_read = [] }

abbrev pub g : ℕ → Col
g b = Glyph (b ∷ []) 1 0 false

-- U+4E16
abbrev pub wide : List ℕ
wide = 0xE4 ∷ 0xB8 ∷ 0x96 ∷ []

pub opening : reads (fresh 1 5) (codes "\u{1b}[0m\u{1b}[2J\u{1b}[1;1Hab\u{1b}[1;1H") ≡ row 5 (g 0x61 ∷ g 0x62 ∷ replicate 3 blank) (Some (0, 0))
unfolding chars
opening = refl

-- a run waits for the byte that ends it
pub run_waits : reads (fresh 1 5) (codes "\u{1b}[0m\u{1b}[2J\u{1b}[1;1Hab")
    ≡ record { height = 1; width = 5; columns = replicate 5 blank; position = Some (0, 0); negative = Some false; run = 0x61 ∷ 0x62 ∷ []; half_read = [] }
unfolding chars
run_waits = refl

pub negative_stays : reads (fresh 1 1) (codes "\u{1b}[0m\u{1b}[2J\u{1b}[1;1H\u{1b}[7m")
    ≡ record { height = 1; width = 1; columns = blank ∷ []; position = Some (0, 0); negative = Some true; run = []; half_read = [] }
unfolding chars
negative_stays = refl

-- a glyph on the second column of a wide one leaves the first unknown
pub half_covered : reads (fresh 1 4) (codes "\u{1b}[0m\u{1b}[2J\u{1b}[1;1H" ++ (wide ++ codes "\u{1b}[1;2Hx\u{1b}[1;1H"))
    ≡ row 4 (Unknown ∷ g 0x78 ∷ blank ∷ blank ∷ []) (Some (0, 0))
unfolding chars unicode_width
half_covered = refl

-- so does erasing from there
pub half_erased : reads (fresh 1 4) (codes "\u{1b}[0m\u{1b}[2J\u{1b}[1;1H" ++ (wide ++ codes "\u{1b}[1;2H\u{1b}[K"))
    ≡ row 4 (Unknown ∷ blank ∷ blank ∷ blank ∷ []) None
unfolding chars unicode_width
half_erased = refl

-- a run that is not all ASCII is one glyph
pub one_glyph : reads (fresh 1 4) (codes "\u{1b}[m\u{1b}[2J\u{1b}[H\u{1b}[7mx" ++ (wide ++ codes "\u{1b}[0m"))
    ≡ row 4 (Glyph (0x78 ∷ wide) 3 0 true ∷ Glyph (0x78 ∷ wide) 3 1 true ∷ Glyph (0x78 ∷ wide) 3 2 true ∷ blank ∷ []) (Some (0, 3))
unfolding chars unicode_width
one_glyph = refl

-- a run to the last column leaves the position unknown, one past it leaves all unknown
pub to_the_edge : reads (fresh 1 2) (codes "\u{1b}[0m\u{1b}[2J\u{1b}[1;1Hab\u{1b}[0m") ≡ row 2 (g 0x61 ∷ g 0x62 ∷ []) None
unfolding chars
to_the_edge = refl

pub past_the_edge : reads (fresh 2 2) (codes "\u{1b}[0m\u{1b}[2J\u{1b}[1;1Habc\u{1b}[1;1H") ≡ record (fresh 2 2) { position = Some (0, 0) }
unfolding chars
past_the_edge = refl

-- the position does not go on in the next row
pub never_wraps : reads (fresh 2 2) (codes "\u{1b}[0m\u{1b}[2J\u{1b}[1;1Hab\u{1b}[0mc\u{1b}[1;1H") ≡ record (fresh 2 2) { position = Some (0, 0) }
unfolding chars
never_wraps = refl

-- a change of the window within a sequence; then the whole painting of another size
pub resized_within : reads (after_resize (reads (fresh 4 20) (codes "\u{1b}[0m\u{1b}[2J\u{1b}[")) 1 5)
    (codes "1;1Hab\u{1b}[0m\u{1b}[2J\u{1b}[1;1Hab\u{1b}[1;1H")
    ≡ row 5 (g 0x61 ∷ g 0x62 ∷ replicate 3 blank) (Some (0, 0))
unfolding chars
resized_within = refl

-- a character that is broken off, and what follows it in a run
pub broken_off : reads (record {
  height = 1;
  width = 2;
  columns = blank ∷ blank ∷ [];
  position = Some (0, 0);
  negative = Some false;
  run = 0x61 ∷ [];
  half_read = 0xD7 ∷ [];
}) (0x62 ∷ [])
    ≡ record { height = 1; width = 2; columns = Unknown ∷ Unknown ∷ []; position = None; negative = None; run = 0x62 ∷ []; half_read = [] }
unfolding chars
broken_off = refl

-- a control character of C1
pub next_line_control : reads (row 1 (blank ∷ []) (Some (0, 0))) (0xC2 ∷ 0x85 ∷ []) ≡ fresh 1 1
unfolding chars
next_line_control = refl

pub escape_ends_a_run : reads (record {
  height = 1;
  width = 1;
  columns = blank ∷ [];
  position = Some (0, 0);
  negative = Some false;
  run = 0x61 ∷ [];
  half_read = [];
}) (0x1B ∷ [])
    ≡ record { height = 1; width = 1; columns = g 0x61 ∷ []; position = None; negative = Some false; run = []; half_read = 0x1B ∷ [] }
unfolding chars
escape_ends_a_run = refl

-- ---- whole glyphs

abbrev letter : WholeGlyph
letter = record { text = 0x61 ∷ []; negative = false }

-- U+4E16, negative
abbrev dark : WholeGlyph
dark = record { text = wide; negative = true }

pub one_after_another : all_columns (letter ∷ dark ∷ []) ≡ g 0x61 ∷ Glyph wide 2 0 true ∷ Glyph wide 2 1 true ∷ []
unfolding chars unicode_width
one_after_another = refl

pub wide_alone : is_one_glyph wide ≡ true
unfolding chars unicode_width
wide_alone = refl

-- two letters are two glyphs
pub two_letters : is_one_glyph (0x61 ∷ 0x62 ∷ []) ≡ false
unfolding chars unicode_width
two_letters = refl

-- a letter with U+0301 is one, and the mark alone takes no column
pub letter_with_mark : is_one_glyph (0x61 ∷ 0xCC ∷ 0x81 ∷ []) ≡ true
unfolding chars unicode_width
letter_with_mark = refl

pub mark_alone : is_one_glyph (0xCC ∷ 0x81 ∷ []) ≡ false
unfolding chars unicode_width
mark_alone = refl

-- ---- glyphs put into a grid

pub wide_in_four : paste (replicate 4 blank) 0 (run_columns false wide) ≡ Glyph wide 2 0 false ∷ Glyph wide 2 1 false ∷ blank ∷ blank ∷ []
unfolding chars unicode_width
wide_in_four = refl

-- e with U+0301 has one column
pub marked_letter : run_columns true (0x65 ∷ 0xCC ∷ 0x81 ∷ []) ≡ Glyph (0x65 ∷ 0xCC ∷ 0x81 ∷ []) 1 0 true ∷ []
unfolding chars unicode_width
marked_letter = refl

-- nothing goes over the second column of a wide glyph
pub no_blank_there : AreBlank 1 1 (paste (replicate 4 blank) 0 (run_columns false wide)) → ⊥
unfolding chars unicode_width
no_blank_there h = cc h

abbrev pub four : List Col → PictureState
four columns = record { height = 1; width = 4; columns = columns; row = 0; column = 0 }

abbrev pub wide_row : List Col
wide_row = Glyph wide 2 0 false ∷ Glyph wide 2 1 false ∷ blank ∷ blank ∷ []

pub wide_shown : Shows (reads (fresh 1 4) (codes "\u{1b}[0m\u{1b}[2J\u{1b}[1;1H" ++ (wide ++ codes "\u{1b}[1;1H"))) (four wide_row)
unfolding chars unicode_width
wide_shown = record {
  nothing_half_read = record { no_run = refl; no_token = refl };
  same_height = refl;
  same_width = refl;
  same_columns = refl;
  normal = refl;
  at_cursor = refl;
}

abbrev light : WholeGlyph
light = record { text = wide; negative = false }

light_is : IsGlyph light
unfolding chars unicode_width lib.Utf8.encode
light_is = record { utf8 = (0x4E16 ∷ [], (refl, refl)); one = refl }

wide_whole : AreWhole wide_row
unfolding chars unicode_width
wide_whole = whole-append (whole_columns light) (replicate 2 blank) (whole_glyph light light_is) (whole_blanks 2)

pub wide_rows : AreWholeRows 1 4 wide_row
wide_rows = (wide_whole, tt)

-- half a glyph is none
pub half_a_glyph : AreWhole (Glyph wide 2 0 false ∷ blank ∷ []) → ⊥
unfolding chars unicode_width
half_a_glyph a = let h = whole_head wide 2 false (blank ∷ []) a in let e = h.are in cc e

-- nor does one go on in the next row
pub over_the_edge : AreWholeRows 2 1 (Glyph wide 2 0 false ∷ Glyph wide 2 1 false ∷ []) → ⊥
unfolding chars unicode_width
over_the_edge rows = let h = whole_head wide 2 false [] rows.0 in let e = h.are in cc e
