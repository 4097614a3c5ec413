-- Paintings of worked examples.
use Rattle.std.proofs.Common.{◌≡◌, ℕ, true, false, List, [], ◌∷◌, ◌++◌, replicate, Some, refl}
use Rattle.std.specs.Fmt.{digits}
use Rattle.std.specs.Str.{chars}
use Rattle.std.specs.Prelude.{codes}
use Rattle.unicode_width.proofs.Computing.{unicode_width}
use Rattle.bx_grid.specs.Columns.{Col, Glyph, blank}
use Rattle.bx_grid.specs.Picture.{PictureState}
use Rattle.bx_grid.specs.Terminal.{Terminal, reads}
use Rattle.bx_grid.specs.Effects.{Puts, Erases, effects}
use Rattle.bx_paint.specs.Painting.{whole_bytes, changes_bytes}
use Rattle.bx_paint.specs.Changed.{changed}

abbrev g : ℕ → Col
g b = Glyph (b ∷ []) 1 0 false

-- U+4E16
abbrev wide : List Col
wide = Glyph (0xE4 ∷ 0xB8 ∷ 0x96 ∷ []) 2 0 false ∷ Glyph (0xE4 ∷ 0xB8 ∷ 0x96 ∷ []) 2 1 false ∷ []

-- one row
abbrev five : List Col → ℕ → PictureState
five columns column = record { height = 1; width = 5; columns = columns; row = 0; column = column }

abbrev four : List Col → ℕ → PictureState
four columns column = record { height = 1; width = 4; columns = columns; row = 0; column = column }

abbrev status : PictureState
status = record { height = 2; width = 10; columns = replicate 10 blank ++ (g 0x2D ∷ blank ∷ g 0x31 ∷ g 0x3A ∷ g 0x31 ∷ replicate 5 blank); row = 0; column = 0 }

abbrev ab : PictureState
ab = five (g 0x61 ∷ g 0x62 ∷ replicate 3 blank) 0

abbrev xab : PictureState
xab = five (g 0x78 ∷ g 0x61 ∷ g 0x62 ∷ replicate 2 blank) 1

-- ---- whole

pub status_row : whole_bytes status ≡ codes "\u{1b}[0m\u{1b}[2J\u{1b}[2;1H-\u{1b}[2;3H1:1\u{1b}[1;1H"
unfolding digits
status_row = refl

pub negative_mark : whole_bytes (record { height = 1; width = 3; columns = g 0x61 ∷ Glyph (0x49 ∷ []) 1 0 true ∷ blank ∷ []; row = 0; column = 0 })
    ≡ codes "\u{1b}[0m\u{1b}[2J\u{1b}[1;1Ha\u{1b}[7mI\u{1b}[0m\u{1b}[1;1H"
unfolding digits
negative_mark = refl

pub wide_alone : whole_bytes (four (wide ++ replicate 2 blank) 0) ≡ codes "\u{1b}[0m\u{1b}[2J\u{1b}[1;1H" ++ (0xE4 ∷ 0xB8 ∷ 0x96 ∷ codes "\u{1b}[1;1H")
unfolding digits
wide_alone = refl

-- ---- changes

pub inserted : changes_bytes ab xab ≡ codes "\u{1b}[1;1Hxab\u{1b}[1;2H"
unfolding digits
inserted = refl

pub erased : changes_bytes xab ab ≡ codes "\u{1b}[1;1Hab\u{1b}[1;3H\u{1b}[0K\u{1b}[1;1H"
unfolding digits
erased = refl

pub nothing_new : changes_bytes ab ab ≡ []
unfolding digits
nothing_new = refl

pub moved : changes_bytes xab (record xab { column = 3 }) ≡ codes "\u{1b}[1;4H"
unfolding digits
moved = refl

pub last_erased : changes_bytes (record xab { column = 3 }) (five (g 0x78 ∷ g 0x61 ∷ replicate 3 blank) 2) ≡ codes "\u{1b}[1;3H\u{1b}[0K\u{1b}[1;3H"
unfolding digits
last_erased = refl

-- a blank before the tail is sent as any glyph
pub blank_between : changes_bytes xab (five (g 0x78 ∷ blank ∷ g 0x62 ∷ replicate 2 blank) 1) ≡ codes "\u{1b}[1;2H \u{1b}[1;2H"
unfolding digits
blank_between = refl

-- each glyph beside a wide one has its CUP
pub before_wide : changes_bytes (four (wide ++ replicate 2 blank) 0) (four (g 0x78 ∷ wide ++ blank ∷ []) 1)
    ≡ codes "\u{1b}[1;1Hx\u{1b}[1;2H" ++ (0xE4 ∷ 0xB8 ∷ 0x96 ∷ codes "\u{1b}[1;2H")
unfolding digits
before_wide = refl

-- ---- a terminal that reads them

abbrev showing : PictureState → Terminal
showing p = record {
  height = p.height;
  width = p.width;
  columns = p.columns;
  position = Some (p.row, p.column);
  negative = Some false;
  run = [];
  half_read = [];
}

pub shown : reads (showing xab) (changes_bytes xab ab) ≡ showing ab
unfolding digits chars
shown = refl

pub done : effects (showing xab) (changes_bytes xab ab) ≡ Puts 0 (0x61 ∷ []) false ∷ Puts 1 (0x62 ∷ []) false ∷ Erases 2 ∷ []
unfolding digits chars
done = refl

pub was_to_be_done : changed xab ab ≡ Puts 0 (0x61 ∷ []) false ∷ Puts 1 (0x62 ∷ []) false ∷ Erases 2 ∷ []
was_to_be_done = refl

-- a wide glyph moves on by a column: none of its old columns is left
abbrev before : PictureState
before = four (wide ++ replicate 2 blank) 0

abbrev after : PictureState
after = four (g 0x78 ∷ wide ++ blank ∷ []) 1

pub wide_shown : reads (showing before) (changes_bytes before after) ≡ showing after
unfolding digits chars unicode_width
wide_shown = refl

pub wide_done : effects (showing before) (changes_bytes before after) ≡ Puts 0 (0x78 ∷ []) false ∷ Puts 1 (0xE4 ∷ 0xB8 ∷ 0x96 ∷ []) false ∷ []
unfolding digits chars unicode_width
wide_done = refl

-- a wide glyph moves back by a column: its old second column is in the tail, and is erased
pub wide_back : reads (showing after) (changes_bytes after before) ≡ showing before
unfolding digits chars unicode_width
wide_back = refl

pub wide_back_done : effects (showing after) (changes_bytes after before) ≡ Puts 0 (0xE4 ∷ 0xB8 ∷ 0x96 ∷ []) false ∷ Erases 2 ∷ []
unfolding digits chars unicode_width
wide_back_done = refl

-- `e` and U+0301, one glyph of one column, with a letter after it
abbrev accented : PictureState
accented = four (Glyph (0x65 ∷ 0xCC ∷ 0x81 ∷ []) 1 0 false ∷ g 0x78 ∷ replicate 2 blank) 0

pub accent_shown : reads (showing before) (changes_bytes before accented) ≡ showing accented
unfolding digits chars unicode_width
accent_shown = refl
