-- Joined letters on the screen: at most units of transparent characters (joining type T) stand between them. `us` are a row's
-- units, by their numbers from 0; `each` has the level of each of the body's characters, None for one that X9 removes; `ucd` is
-- what any tables say.
use Rattle.std.specs.Prelude.{◌≡◌, ◌+◌, ◌%◌, ◌<◌, ℕ, false, true, All, HoldsAt, IsUtf8, List, [], ◌∷◌, ◌++◌, Option, Some, chars, flat_map, length, map, slice_index_or, take}
use Rattle.std.specs.List.{zip}
use Rattle.bx_ucd.specs.Data.{Data}
use Rattle.bx_rows.specs.declared.cells.unit.Unit.{Unit}
use Rattle.bx_rows.specs.cells.Units.{unit_chars}
use Rattle.bx_rows.specs.cells.UnitFacts.{StandsIn}
use Rattle.bx_rows.specs.joining.Joining.{Joiner, is_transparent, join}
use Rattle.bx_rows_laws.specs.Laws.{StandInTurn}
use Rattle.bx_rows_laws.specs.OrderLaws.{AreAtLevel}
use Rattle.bx_rows.specs.RowLevels.{is_segment_separator, is_trailing, row_levels, visual}
use Rattle.bx_rows.specs.RowPicture.{Glyph, draw, unit_columns, unit_glyphs}

-- in an order of units from left to right, unit `j` is left of `i`, and only units between them in the text are between them
pub record Touch (order : List ℕ) (i j : ℕ) : Type 0 where
  pub front : List ℕ
  pub middle : List ℕ
  pub back : List ℕ
  pub order_is : order ≡ front ++ (j ∷ (middle ++ (i ∷ back)))
  pub inside : All (λ k. (i < k) × (k < j)) middle

-- two units of one odd level touch if no level between them is lower
abbrev pub EqualOddLevelsTouch : Type 0
EqualOddLevelsTouch = (levels : List ℕ) (i j n : ℕ) → i < j → j < length levels → n % 2 ≡ 1 → AreAtLevel n levels i j → Touch (visual levels) i j

-- the joining type and the level of a character, given by its code and level
abbrev pub joiner : Data → ℕ × Option ℕ → Joiner
joiner ucd c = (ucd.joining c.0, c.1)

-- letters join across the character; it is not a segment separator, which L1 sets to the paragraph level wherever it is
abbrev pub IsPassedOver : Data → ℕ × Option ℕ → Type 0
IsPassedOver ucd c = (is_transparent (ucd.joining c.0) ≡ true) × (is_segment_separator (ucd.class c.0) ≡ false)

-- unit `i` begins after `number` characters of the body
abbrev pub BeginsBehind : ℕ → List ℕ → List Unit → ℕ → Type 0
BeginsBehind number body us i = HoldsAt (λ u. length (chars (take u.start body)) ≡ number) us i

-- units `i` and `j` begin with letters of the level `n` that join, the first before the second
pub record BeginJoined (ucd : Data) (body : List ℕ) (each : List (Option ℕ)) (us : List Unit) (i j n : ℕ) : Type 0 where
  pub before : List (ℕ × Option ℕ)
  pub first : ℕ
  pub between : List (ℕ × Option ℕ)
  pub second : ℕ
  pub after : List (ℕ × Option ℕ)
  pub body_is : zip (chars body) each ≡ before ++ ((first, Some n) ∷ (between ++ ((second, Some n) ∷ after)))
  pub one : BeginsBehind (length before) body us i
  pub other : BeginsBehind (length before + 1 + length between) body us j
  pub passed : All (IsPassedOver ucd) between
  pub joined : join (joiner ucd (first, Some n)) (map (joiner ucd) between) (joiner ucd (second, Some n)) ≡ true

-- two units touch, and letters join across all characters of the units between them
pub record TouchAsJoined (ucd : Data) (body : List ℕ) (us : List Unit) (levels : List ℕ) (i j : ℕ) : Type 0 where
  pub touch : Touch (visual levels) i j
  pub passed : (k : ℕ) → i < k → k < j → HoldsAt (λ u. All (λ c. is_transparent (ucd.joining c) ≡ true) (unit_chars body u)) us k

-- two units of a row that begin with letters that join touch if the row has both at the letters' level
abbrev pub JoinedLettersTouch : Type 0
JoinedLettersTouch = (ucd : Data) (body : List ℕ) (paragraph : ℕ) (each : List (Option ℕ)) (us : List Unit) (start stop i j n : ℕ)
    → IsUtf8 body → All (StandsIn body) us → StandInTurn start (map (λ u. (u.start, u.stop)) us) stop → i < j → j < length us
    → BeginJoined ucd body each us i j n → let levels = row_levels ucd body paragraph each us in
    HoldsAt (λ l. l ≡ n) levels i → HoldsAt (λ l. l ≡ n) levels j → TouchAsJoined ucd body us levels i j

-- unit `i` begins with a letter of the level `n` that L1 leaves
pub record BeginsWithLetter (ucd : Data) (body : List ℕ) (each : List (Option ℕ)) (us : List Unit) (i n : ℕ) : Type 0 where
  pub before : List (ℕ × Option ℕ)
  pub letter : ℕ
  pub after : List (ℕ × Option ℕ)
  pub body_is : zip (chars body) each ≡ before ++ ((letter, Some n) ∷ after)
  pub begins : BeginsBehind (length before) body us i
  pub no_separator : is_segment_separator (ucd.class letter) ≡ false
  pub no_blank : is_trailing (ucd.class letter) ≡ false

-- a row has a unit that begins with such a letter at the letter's level
abbrev pub LettersKeepLevels : Type 0
LettersKeepLevels = (ucd : Data) (body : List ℕ) (paragraph : ℕ) (each : List (Option ℕ)) (us : List Unit) (start stop i n : ℕ)
    → IsUtf8 body → All (StandsIn body) us → StandInTurn start (map (λ u. (u.start, u.stop)) us) stop → i < length us
    → BeginsWithLetter ucd body each us i n → HoldsAt (λ l. l ≡ n) (row_levels ucd body paragraph each us) i

-- in a row of glyphs, `pieces` by units, the glyphs of unit `j` are left of those of `i`, and only glyphs of units between them
-- in the text are between them
pub record ShowTouch (row : List Glyph) (pieces : List (List Glyph)) (i j : ℕ) : Type 0 where
  pub front : List Glyph
  pub middle : List ℕ
  pub back : List Glyph
  pub row_is : row ≡ front ++ (slice_index_or pieces j [] ++ (flat_map (λ k. slice_index_or pieces k []) middle ++ (slice_index_or pieces i [] ++ back)))
  pub inside : All (λ k. (i < k) × (k < j)) middle

-- the glyphs of units that touch in the visual order touch in a row's picture
abbrev pub PicturesShowTouch : Type 0
PicturesShowTouch = (ucd : Data) (w : ℕ) (body : List ℕ) (paragraph : ℕ) (each : List (Option ℕ)) (us : List Unit) (levels : List ℕ) (i j : ℕ)
    → Touch (visual levels) i j
    → ShowTouch (draw ucd w body paragraph each us levels) (unit_glyphs ucd w body each us (unit_columns w 0 us) levels) i j
