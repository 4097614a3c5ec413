-- Whole glyphs: lists of columns in which each glyph has all its columns.
use Rattle.std.specs.Prelude.{◌≡◌, ◌≢◌, ◌+◌, ◌-◌, ◌<◌, ◌≤◌, length, slice_index_or, ℕ, zero, suc, Bool, true, List, [], ◌∷◌, ◌++◌, take, drop, All}
use Rattle.std.specs.Str.{IsUtf8}
use Rattle.bx_grid.specs.Columns.{Col, Unknown, Glyph, run_columns}
use Rattle.bx_common.specs.Glyphs.{is_one_glyph}

-- a glyph by its text and its rendition
pub record WholeGlyph : Type 0 where
  pub text : List ℕ
  pub negative : Bool

-- a glyph that a printable run can put
pub record IsGlyph (g : WholeGlyph) : Type 0 where
  pub utf8 : IsUtf8 g.text
  pub one : is_one_glyph g.text ≡ true

-- all columns of a glyph
abbrev pub whole_columns : WholeGlyph → List Col
whole_columns g = run_columns g.negative g.text

-- the columns of glyphs, side by side
abbrev pub all_columns : List WholeGlyph → List Col
all_columns [] = []
all_columns (g ∷ gs) = whole_columns g ++ all_columns gs

-- these columns are whole glyphs
pub record AreWhole (columns : List Col) : Type 0 where
  pub glyphs : List WholeGlyph
  pub each : All IsGlyph glyphs
  pub are : all_columns glyphs ≡ columns

-- each of these rows, of `width` columns, consists of whole glyphs
abbrev pub AreWholeRows : ℕ → ℕ → List Col → Type 0
AreWholeRows zero width columns = Unit {0}
AreWholeRows (suc rows) width columns = AreWhole (take width columns) × AreWholeRows rows width (drop width columns)

-- ---- two lists of columns

-- the column of this glyph at `index` belongs to a glyph that has all its `count` columns there
pub record StandsWhole (text : List ℕ) (count offset : ℕ) (negative : Bool) (index : ℕ) (columns : List Col) : Type 0 where
  pub glyph : IsGlyph (record { text = text; negative = negative })
  pub counted : count ≡ length (run_columns negative text)
  pub within : offset < count
  pub begins : offset ≤ index
  pub all : take count (drop (index - offset) columns) ≡ run_columns negative text

-- the glyph of a column that is at `index` stands whole in the columns; an unknown column has no glyph
abbrev pub IsWholeAt : Col → ℕ → List Col → Type 0
IsWholeAt Unknown index columns = ⊥
IsWholeAt (Glyph text count offset negative) index columns = StandsWhole text count offset negative index columns

-- a column that both lists have at an index belongs to a glyph that both have there as a whole
abbrev pub ShareWholeGlyphs : List Col → List Col → Type 0
ShareWholeGlyphs old new = (i : ℕ) → i < length old → slice_index_or old i Unknown ≡ slice_index_or new i Unknown
    → IsWholeAt (slice_index_or old i Unknown) i old × IsWholeAt (slice_index_or old i Unknown) i new

-- the index `other` lies in the glyph of this column, which is at `index`
abbrev pub IsOfGlyph : Col → ℕ → ℕ → Type 0
IsOfGlyph Unknown index other = ⊥
IsOfGlyph (Glyph text count offset negative) index other = (index ≤ other + offset) × (other + offset < index + count)

-- where a column differs, so do all columns of its glyph
abbrev pub DifferInWholeGlyphs : List Col → List Col → Type 0
DifferInWholeGlyphs old new = (i k : ℕ) → i < length old → IsOfGlyph (slice_index_or old i Unknown) i k
    → slice_index_or old i Unknown ≢ slice_index_or new i Unknown → slice_index_or old k Unknown ≢ slice_index_or new k Unknown

-- if the second list begins with a glyph, the first begins with all its columns
abbrev pub BeginAlike : List Col → List Col → Type 0
BeginAlike old [] = Unit {0}
BeginAlike old (Unknown ∷ cs) = Unit {0}
BeginAlike old (Glyph text count offset negative ∷ cs) = offset ≡ 0 → take count old ≡ take count (Glyph text count offset negative ∷ cs)
