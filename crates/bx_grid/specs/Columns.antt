-- The content of columns, and a row after a run of columns was put in it.
use Rattle.bx_grid.specs.Tokens.{is_only}
pub use Rattle.bx_common.specs.Characters.{is_ascii_printable, are_ascii_printable, is_ascii_glyph}
use Rattle.std.specs.Str.{bytes_eq}
use Rattle.unicode_width.specs.Width.{str_width}
use Rattle.std.specs.Prelude.{ℕ, zero, suc, chars, ◌+◌, ◌-◌, ◌*◌, nat_lt, if◌then◌else◌, Bool, true, false, ◌&&◌, ◌==◌, not, List, [], ◌∷◌}
use Rattle.std.specs.Prelude.{◌++◌, length, map, take, drop}

-- What a column shows: `Unknown`, only in the model of a terminal, or one column of a glyph, by the glyph's text, its number of
-- columns, the index of this one from 0 (`offset`), and whether the glyph is negative.
pub data Col : Type 0 where
  Unknown : Col
  Glyph : (text : List ℕ) (columns offset : ℕ) (negative : Bool) → Col

-- a blank: U+0020, one column, not negative
abbrev pub blank : Col
blank = Glyph (32 ∷ []) 1 0 false

-- the number of columns that a column's glyph has after this one, and before it
abbrev pub columns_after : Col → ℕ
columns_after Unknown = 0
columns_after (Glyph text columns offset negative) = columns - (offset + 1)

abbrev pub columns_before : Col → ℕ
columns_before Unknown = 0
columns_before (Glyph text columns offset negative) = offset

-- the columns of a row before those that are put: a glyph that reaches into the put ones becomes unknown
abbrev pub cut_before : List Col → List Col
cut_before [] = []
cut_before (x ∷ xs) = (if nat_lt (length xs) (columns_after x) then Unknown else x) ∷ cut_before xs

-- the columns of a row after those that are put, without the first `d` of them: a glyph that begins in the put ones, or before,
-- becomes unknown
abbrev pub cut_after : ℕ → List Col → List Col
cut_after d [] = []
cut_after d (x ∷ xs) = (if nat_lt d (columns_before x) then Unknown else x) ∷ cut_after (d + 1) xs

-- a row with the columns `new` put from index `k` on
abbrev pub put_in_row : List Col → ℕ → List Col → List Col
put_in_row row k new = cut_before (take k row) ++ new ++ cut_after 0 (drop (k + length new) row)

-- the columns of all rows of this width, with `new` put in a row from a column on, both counted from 0
abbrev pub put : ℕ → List Col → ℕ → ℕ → List Col → List Col
put width columns row column new =
    take (row * width) columns
    ++ (put_in_row (take width (drop (row * width) columns)) column new ++ drop width (drop (row * width) columns))

-- the column is a blank
abbrev pub is_blank : Col → Bool
is_blank Unknown = false
is_blank (Glyph text columns offset negative) = is_only 0x20 text && (columns == 1) && (offset == 0) && not negative

-- both are true, or both are false
abbrev pub bool_eq : Bool → Bool → Bool
bool_eq true b = b
bool_eq false b = not b

-- both columns look the same
abbrev pub col_eq : Col → Col → Bool
col_eq Unknown Unknown = true
col_eq (Glyph a n i x) (Glyph b m j y) = (bytes_eq a b && (n == m)) && ((i == j) && bool_eq x y)
col_eq _ _ = false

-- both lists look the same
abbrev pub are_equal : List Col → List Col → Bool
are_equal [] [] = true
are_equal (c ∷ cs) (d ∷ ds) = col_eq c d && are_equal cs ds
are_equal _ _ = false

-- ---- glyphs

-- `count` columns of a glyph, the first at this offset in it
abbrev pub glyph_columns_from : List ℕ → ℕ → Bool → ℕ → ℕ → List Col
glyph_columns_from text columns negative offset zero = []
glyph_columns_from text columns negative offset (suc count) =
    Glyph text columns offset negative ∷ glyph_columns_from text columns negative (offset + 1) count

-- all columns of a glyph
abbrev pub glyph_columns : List ℕ → ℕ → Bool → List Col
glyph_columns text columns negative = glyph_columns_from text columns negative 0 columns

-- one glyph of one column for each byte of a run, all in this rendition
abbrev pub plain_columns : Bool → List ℕ → List Col
plain_columns negative run = map (λ b. Glyph (b ∷ []) 1 0 negative) run

-- the columns of a run: characters from SPACE to TILDE are a glyph each, any other run is one glyph
abbrev pub run_columns : Bool → List ℕ → List Col
run_columns negative run =
    if are_ascii_printable run then plain_columns negative run else glyph_columns run (str_width false (chars run)) negative

-- a column in the other rendition: negative if it was normal, normal if it was negative
abbrev pub turned : Col → Col
turned Unknown = Unknown
turned (Glyph text columns offset negative) = Glyph text columns offset (not negative)
