-- Columns in which no glyph is cut, some of them unknown. Each row of a terminal is such a list, so the rest of an
-- overwritten glyph is found beside it (`src/columns.rt`).
use Rattle.std.specs.Prelude.{◌≡◌, ◌+◌, ◌⊎◌, ℕ, zero, suc, List, [], ◌∷◌, take, drop}
use Rattle.bx_grid.specs.Columns.{Col, columns_after, columns_before}

-- two adjacent columns, `x` left of `y`: a glyph that extends past the first continues in the second, and one that began before
-- the second is in the first
pub record Meet (x y : Col) : Type 0 where
  pub onward : (columns_after x ≡ 0) ⊎ (columns_after x ≡ columns_after y + 1)
  pub back : (columns_before y ≡ 0) ⊎ (columns_before y ≡ columns_before x + 1)

-- a column beside the first of a list, which may be empty
abbrev pub MeetFirst : Col → List Col → Type 0
MeetFirst x [] = Unit {0}
MeetFirst x (y ∷ ys) = Meet x y

-- no glyph is cut between two of these columns; one may continue beyond the first or the last
abbrev pub AreUncut : List Col → Type 0
AreUncut [] = Unit {0}
AreUncut (x ∷ xs) = MeetFirst x xs × AreUncut xs

-- in each of these rows of this width no glyph is cut
abbrev pub AreUncutRows : ℕ → ℕ → List Col → Type 0
AreUncutRows zero width columns = Unit {0}
AreUncutRows (suc rows) width columns = AreUncut (take width columns) × AreUncutRows rows width (drop width columns)
