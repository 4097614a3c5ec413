-- Edits of a paragraph's text that change no level outside the text between two strong characters. `ucd` is Unicode's data.
use Rattle.std.specs.Prelude.{◌≡◌, ◌⊎◌, ◌<◌, ℕ, ◌+◌, Bool, true, false, List, ◌++◌, Option, Some, None}
use Rattle.std.specs.Prelude.{length, take, drop, map, slice_index_or}
use Rattle.std.specs.List.{list_any}
use Rattle.bx_ucd.specs.Data.{Data}
use Rattle.bx_ucd.specs.declared.class.Class.{Class}
use Rattle.bx_ucd.specs.declared.data.Side.{Side}
use Rattle.bx_ucd.specs.Class.{is_strong}
use Rattle.bx_levels.specs.brackets.Resolve.{is_left}
use Rattle.bx_common.specs.declared.base.Base.{Base}
use Rattle.bx_levels.specs.declared.resolve.paragraph.Levels.{Levels}
use Rattle.bx_levels.specs.resolve.Levels.{levels_under, paragraph_level_under}
use Rattle.bx_levels.specs.resolve.Uniform.{is_plain, is_from_right, is_unformatted, all_pass}

-- an edit of a text: the text before it, the removed and the inserted text, and the text after it. Texts are lists of characters, and
-- indexes count characters from 0
pub record Edit : Type 0 where
  pub before : List ℕ
  pub removed : List ℕ
  pub inserted : List ℕ
  pub behind : List ℕ

-- the whole text before the edit
abbrev pub old_text : Edit → List ℕ
old_text e = e.before ++ (e.removed ++ e.behind)

-- the whole text after the edit
abbrev pub new_text : Edit → List ℕ
new_text e = e.before ++ (e.inserted ++ e.behind)

-- no character is of a formatting class, nor BN
abbrev pub HasNoFormatting : Data → List ℕ → Type 0
HasNoFormatting ucd chars = all_pass is_unformatted (map ucd.class chars) ≡ true

-- the tables list the character as a bracket, whatever its class
abbrev pub is_listed_as : Option (Side × ℕ) → Bool
is_listed_as None = false
is_listed_as (Some b) = true

abbrev pub is_listed : Data → ℕ → Bool
is_listed ucd c = is_listed_as (ucd.bracket c)

-- `m`, the types between `x` and `y`, adds no direction that `x` and `y` do not have: these have both, or else `m` has no type that is or
-- becomes of the other direction. An EN becomes L after L; any other number counts as R
abbrev pub one_way : Class → Class → List Class → Bool
one_way x y m = elim (is_left x) [
  | true ↦ elim (is_left y) [ true ↦ all_pass is_plain m | false ↦ true ]
  | false ↦ elim (is_left y) [ true ↦ true | false ↦ all_pass is_from_right m ]
]

-- the text `chars` of the types `m`, between `x` and `y`, has no bracket, and no pair of brackets around it depends on it: it adds no
-- direction to those of `x` and `y`, or no bracket is before `x`, or none is after `y`
abbrev pub IsCutOff : Data → List ℕ → Class → List ℕ → List Class → Class → List ℕ → Type 0
IsCutOff ucd before x chars m y behind = (list_any (is_listed ucd) chars ≡ false)
    × ((one_way x y m ≡ true) ⊎ ((list_any (is_listed ucd) before ≡ false) ⊎ (list_any (is_listed ucd) behind ≡ false)))

-- of the text `a`, `s`, `b`, with `s` at the edit: the piece from the character at index `i` of `a` through the one at index `j` of `b`
abbrev pub piece : List ℕ → ℕ → List ℕ → List ℕ → ℕ → List ℕ
piece a i s b j = drop i a ++ (s ++ take (j + 1) b)

-- the piece without these two characters, its first and its last
abbrev pub between : List ℕ → ℕ → List ℕ → List ℕ → ℕ → List ℕ
between a i s b j = drop (i + 1) a ++ (s ++ take j b)

-- the piece from the character at index `i` of `a` to the end of the text
abbrev pub end_piece : List ℕ → ℕ → List ℕ → List ℕ → List ℕ
end_piece a i s b = drop i a ++ (s ++ b)

-- the text between the two characters is cut off
abbrev pub IsSafe : Data → List ℕ → ℕ → List ℕ → List ℕ → ℕ → Type 0
IsSafe ucd a i s b j = IsCutOff ucd (take i a) (ucd.class (slice_index_or a i 0)) (between a i s b j) (map ucd.class (between a i s b j))
    (ucd.class (slice_index_or b j 0)) (drop (j + 1) b)

-- an edit cut off by two strong characters: at index `i` of the text before it and at index `j` of the text after it
pub record IsCutBetween (ucd : Data) (e : Edit) (i j : ℕ) : Type 0 where
  pub in_before : i < length e.before
  pub in_behind : j < length e.behind
  pub strong_before : is_strong (ucd.class (slice_index_or e.before i 0)) ≡ true
  pub strong_behind : is_strong (ucd.class (slice_index_or e.behind j 0)) ≡ true
  pub old_unformatted : HasNoFormatting ucd (old_text e)
  pub new_unformatted : HasNoFormatting ucd e.inserted
  pub old_safe : IsSafe ucd e.before i e.removed e.behind j
  pub new_safe : IsSafe ucd e.before i e.inserted e.behind j

-- an edit with no bracket between the strong character at index `i` of the text before it and the end of the text, neither in the old text
-- nor in the new one
pub record IsCutToEnd (ucd : Data) (e : Edit) (i : ℕ) : Type 0 where
  pub in_before : i < length e.before
  pub strong_before : is_strong (ucd.class (slice_index_or e.before i 0)) ≡ true
  pub old_unformatted : HasNoFormatting ucd (old_text e)
  pub new_unformatted : HasNoFormatting ucd e.inserted
  pub old_bare : list_any (is_listed ucd) (drop (i + 1) e.before ++ (e.removed ++ e.behind)) ≡ false
  pub new_bare : list_any (is_listed ucd) (drop (i + 1) e.before ++ (e.inserted ++ e.behind)) ≡ false

-- `levels` are the levels of a text under a base direction
pub record AreLevelsOf (ucd : Data) (base : Base) (chars : List ℕ) (levels : Levels) : Type 0 where
  pub paragraph_is : levels.paragraph ≡ paragraph_level_under ucd base chars
  pub each_is : levels.each.items ≡ levels_under ucd base chars

-- the index in the old text that follows the character at index `j` of `behind`
abbrev pub old_index : Edit → ℕ → ℕ
old_index e j = length e.before + length e.removed + (j + 1)

-- if `was` are the levels of the old text, `now` are the levels of the new one, for any edit that puts `chars` in the place of the old text
-- from the strong character at index `first` through the one before index `last`
abbrev pub FollowsBetween : Data → List ℕ → ℕ → ℕ → Levels → Levels → Type 0
FollowsBetween ucd chars first last was now = (base : Base) (e : Edit) (j : ℕ) → IsCutBetween ucd e first j
    → chars ≡ piece e.before first e.inserted e.behind j → last ≡ old_index e j
    → AreLevelsOf ucd base (old_text e) was → AreLevelsOf ucd base (new_text e) now

-- `FollowsBetween` for any edit that puts `chars` in the place of the old text from the strong character at index `first` to the end
abbrev pub FollowsToEnd : Data → List ℕ → ℕ → Levels → Levels → Type 0
FollowsToEnd ucd chars first was now = (base : Base) (e : Edit) → IsCutToEnd ucd e first
    → chars ≡ end_piece e.before first e.inserted e.behind
    → AreLevelsOf ucd base (old_text e) was → AreLevelsOf ucd base (new_text e) now
