-- Laws of pictures with joined letters: beside the picture without them, and by what each letter joins. `each` has the level of
-- each of the body's characters, None for one that X9 removes; `us` are a row's units, `levels` theirs; `w` is the window's
-- columns, `ucd` what any tables say.
use Rattle.std.specs.Prelude.{◌≡◌, ◌⊎◌, ◌+◌, ◌%◌, ◌<◌, ℕ, Bool, false, true, All, HoldsAt, List, [], ◌∷◌, ◌++◌, Option, None, Some, chars, encode_utf8_all, flat_map}
use Rattle.std.specs.Prelude.{length, map, replicate, reverse, slice_index_or, take, unwrap_or}
use Rattle.std.specs.Str.{IsUtf8}
use Rattle.bx_ucd.specs.Data.{Data}
use Rattle.bx_ucd.specs.declared.joining.Form.{Form}
use Rattle.bx_ucd.specs.declared.joining.Joining.TheVariants.{U}
use Rattle.bx_rows.specs.declared.cells.unit.Face.TheVariants.{Own}
use Rattle.bx_rows.specs.declared.cells.unit.Unit.{Unit}
use Rattle.bx_rows.specs.cells.Units.{face, unit_chars}
use Rattle.bx_rows.specs.cells.UnitFacts.{HasFace, StandsIn}
use Rattle.bx_rows.specs.joining.JoinedText.{AreFormless}
use Rattle.bx_rows.specs.joining.Joining.{Joiner, form_if, joiners, joins_after, joins_before}
use Rattle.bx_rows.specs.RowPicture.{Glyph, draw, is_own, mirrored_chars, unit_columns, unit_glyphs}

-- the tables' data with no joining types and no forms
abbrev pub unjoined : Data → Data
unjoined ucd = record ucd { joining = λ _. U; form = λ _ _. None }

-- for each column of glyphs, from left to right, whether it is in negative image
abbrev pub columns_shown : List Glyph → List Bool
columns_shown glyphs = flat_map (λ g. replicate g.columns g.negative) glyphs

-- joined letters change the texts of a picture's glyphs alone: each column is in negative image or not as without them
abbrev pub FormsChangeTextsAlone : Type 0
FormsChangeTextsAlone = (ucd : Data) (w : ℕ) (body : List ℕ) (paragraph : ℕ) (each : List (Option ℕ)) (us : List Unit) (levels : List ℕ)
    → All (HasFace ucd w body) us
    → columns_shown (draw ucd w body paragraph each us levels) ≡ columns_shown (draw (unjoined ucd) w body paragraph each us levels)

-- a row of units whose letters have no forms has the same picture as without joined letters
abbrev pub FormlessRowsStay : Type 0
FormlessRowsStay = (ucd : Data) (w : ℕ) (body : List ℕ) (paragraph : ℕ) (each : List (Option ℕ)) (us : List Unit) (levels : List ℕ)
    → IsUtf8 body → All (StandsIn body) us → All (λ u. AreFormless ucd (unit_chars body u)) us
    → draw ucd w body paragraph each us levels ≡ draw (unjoined ucd) w body paragraph each us levels

-- the tables' data with no mirrors, no joining types and no forms
abbrev pub plain : Data → Data
plain ucd = record ucd { mirror = λ _. None; joining = λ _. U; form = λ _ _. None }

-- the text of glyphs from left to right
abbrev pub text_shown : List Glyph → List ℕ
text_shown glyphs = flat_map (λ g. g.text) glyphs

-- a letter of a row: as it is in the body, the character shown without joined letters, and the character shown with them
pub record ShownLetter : Type 0 where
  pub letter : ℕ
  pub unjoined : ℕ
  pub shown : ℕ

-- the character shown is the one shown without joined letters, or a form of the letter
abbrev pub IsSameOrForm : Data → ShownLetter → Type 0
IsSameOrForm ucd p = (p.shown ≡ p.unjoined) ⊎ ((f : Form) × (ucd.form p.letter f ≡ Some p.shown))

-- three texts of the same letters (`places`): the letters, the characters without joined letters, and the characters shown
pub record ShowsForms (ucd : Data) (letters unjoined shown : List ℕ) : Type 0 where
  pub places : List ShownLetter
  pub letters_are : letters ≡ encode_utf8_all (map (λ p. p.letter) places)
  pub unjoined_are : unjoined ≡ encode_utf8_all (map (λ p. p.unjoined) places)
  pub shown_are : shown ≡ encode_utf8_all (map (λ p. p.shown) places)
  pub each : All (IsSameOrForm ucd) places

-- character by character a row shows what it shows without joined letters, or a form of the letter that it shows with neither
-- mirrors nor joined letters
abbrev pub LettersShowTheirForms : Type 0
LettersShowTheirForms = (ucd : Data) (w : ℕ) (body : List ℕ) (paragraph : ℕ) (each : List (Option ℕ)) (us : List Unit) (levels : List ℕ)
    → IsUtf8 body → All (StandsIn body) us → All (HasFace ucd w body) us
    → ShowsForms ucd (text_shown (draw (plain ucd) w body paragraph each us levels))
    (text_shown (draw (unjoined ucd) w body paragraph each us levels)) (text_shown (draw ucd w body paragraph each us levels))

-- the letter after `number` characters of the body is shown in the form that goes by what it joins; if it has no such form, as
-- without joined letters
pub record GoesByJoining (ucd : Data) (body : List ℕ) (each : List (Option ℕ)) (number : ℕ) (p : ShownLetter) : Type 0 where
  pub before : List Joiner
  pub own : Joiner
  pub after : List Joiner
  pub body_is : joiners ucd body each ≡ before ++ (own ∷ after)
  pub number_is : length before ≡ number
  pub shown_is : p.shown ≡ unwrap_or (ucd.form p.letter (form_if (joins_before (reverse before) own) (joins_after own after))) p.unjoined

-- the letters of a unit of `n` columns, each shown by what it joins
pub record AreByJoining (ucd : Data) (w n : ℕ) (body : List ℕ) (each : List (Option ℕ)) (u : Unit) (places : List ShownLetter) : Type 0 where
  pub letters_are : unit_chars body u ≡ map (λ p. p.letter) places
  pub unjoined_are : mirrored_chars ucd w n (unit_chars body u) ≡ map (λ p. p.unjoined) places
  pub each_is : (k : ℕ) → k < length places → HoldsAt (GoesByJoining ucd body each (length (chars (take u.start body)) + k)) places k

-- the text of the joined letters is shown if it is shown as itself in `n` columns, else the text without joined letters
pub record ShowsIfOwn (ucd : Data) (w n : ℕ) (joined unjoined shown : List ℕ) : Type 0 where
  pub fits : is_own n (face ucd w joined) ≡ true → shown ≡ joined
  pub differs : is_own n (face ucd w joined) ≡ false → shown ≡ unjoined

-- `u` is the unit `i` of a row, from 0, shows its own text in `n` columns, and is at an odd level
pub record IsOwnAtOdd (us : List Unit) (levels : List ℕ) (i n : ℕ) (u : Unit) : Type 0 where
  pub count : length levels ≡ length us
  pub within : i < length us
  pub unit_is : HoldsAt (λ v. v ≡ u) us i
  pub own : u.face ≡ Own n
  pub odd : HoldsAt (λ l. l % 2 ≡ 1) levels i

-- such a unit's glyphs show each letter in the form that goes by what it joins
abbrev pub LettersGoByJoining : Type 0
LettersGoByJoining = (ucd : Data) (w : ℕ) (body : List ℕ) (each : List (Option ℕ)) (us : List Unit) (levels : List ℕ) (i n : ℕ) (u : Unit)
    (places : List ShownLetter) → IsUtf8 body → StandsIn body u → IsOwnAtOdd us levels i n u → AreByJoining ucd w n body each u places
    → ShowsIfOwn ucd w n (encode_utf8_all (map (λ p. p.shown) places)) (encode_utf8_all (map (λ p. p.unjoined) places))
    (text_shown (slice_index_or (unit_glyphs ucd w body each us (unit_columns w 0 us) levels) i []))
