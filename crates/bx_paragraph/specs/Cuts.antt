-- Edits of a body cut off by two strong characters (L, R or AL), one before and one after: the levels of all characters outside the two
-- stay, so only the text between them is resolved again. A bracket is a character that the tables list as one. `ucd` is what the
-- tables say, `t` an edit in parts (`TextEdit`).
use Rattle.std.specs.Prelude.{◌≡◌, ◌⊎◌, ◌<◌, ◌+◌, ◌&&◌, ℕ, Bool, true, not, List, ◌++◌, chars, drop, length, slice_index_or, take}
use Rattle.std.specs.List.{list_all}
use Rattle.std.specs.Str.{IsUtf8}
use Rattle.bx_ucd.specs.Data.{Data}
use Rattle.bx_ucd.specs.declared.class.Class.{Class}
use Rattle.bx_ucd.specs.declared.class.Class.TheVariants.{L}
use Rattle.bx_ucd.specs.Class.{is_strong}
use Rattle.bx_common.specs.declared.base.Base.{Base}
use Rattle.bx_levels.specs.declared.resolve.paragraph.Levels.{Levels}
use Rattle.bx_levels.specs.resolve.Body.{IsOffset}
use Rattle.bx_levels.specs.resolve.Edited.{AreLevelsOf, Edit, HasNoFormatting, is_listed, new_text, old_text}
use Rattle.bx_levels.specs.resolve.Uniform.{is_from_right, is_plain, is_unformatted}
use Rattle.bx_rows.specs.declared.start_search.RowStart.{RowStart}
use Rattle.bx_paragraph.specs.declared.strong.Strong.{Strong}
use Rattle.bx_paragraph.specs.declared.direction.Direction.{Direction}
use Rattle.bx_paragraph.specs.declared.direction.Direction.TheVariants.{Either, LeftToRight, RightToLeft}
use Rattle.bx_paragraph.specs.declared.text_edit.TextEdit.{TextEdit}

-- `s` is a strong character of a text: its index counts characters, its start and its stop count bytes
pub record IsStrongIn (ucd : Data) (text : List ℕ) (s : Strong) : Type 0 where
  pub inside : s.index < length (chars text)
  pub class_is : s.class ≡ ucd.class (slice_index_or (chars text) s.index 0)
  pub strong : is_strong s.class ≡ true
  pub start : IsOffset text s.index s.start
  pub stop : IsOffset text (s.index + 1) s.stop

-- a class that a text of a direction may have: any but the formatting classes and BN; in left-to-right text also not R, AL or AN, and in
-- right-to-left text not L, so that it stays of its direction
abbrev pub is_of_direction : Direction → Class → Bool
is_of_direction Either c = is_unformatted c
is_of_direction LeftToRight c = is_plain c
is_of_direction RightToLeft c = is_from_right c

-- the direction between two strong characters of these classes: theirs, if they have the same, AL counting as R
abbrev pub direction_between : Class → Class → Direction
direction_between L L = LeftToRight
direction_between L _ = Either
direction_between _ L = Either
direction_between _ _ = RightToLeft

-- a character that a text of a direction may have, and that is not a bracket
abbrev pub is_bare : Data → Direction → ℕ → Bool
is_bare ucd direction c = is_of_direction direction (ucd.class c) && not (is_listed ucd c)

-- all characters of a text are bare
abbrev pub are_bare : Data → Direction → List ℕ → Bool
are_bare ucd direction text = list_all (is_bare ucd direction) (chars text)

-- no character of a text is a formatting character or of class BN
abbrev pub are_unformatted : Data → List ℕ → Bool
are_unformatted ucd text = list_all (λ c. is_of_direction Either (ucd.class c)) (chars text)

-- an edit between the texts `left` and `right`: each character of these, of the removed and of the inserted text is bare
pub record IsBareEdit (ucd : Data) (direction : Direction) (t : TextEdit) (left right : List ℕ) : Type 0 where
  pub left_is : are_bare ucd direction left ≡ true
  pub removed_is : are_bare ucd direction t.removed.now ≡ true
  pub inserted_is : are_bare ucd direction t.inserted.now ≡ true
  pub right_is : are_bare ucd direction right ≡ true

-- no character of a text is a bracket
abbrev pub has_no_bracket : Data → List ℕ → Bool
has_no_bracket ucd text = list_all (λ c. not (is_listed ucd c)) (chars text)

-- no bracket is before `x`, the strong character before the edit, or none is after `y`, the strong character after it, so that no pair
-- encloses both
abbrev pub IsOpenEdit : Data → TextEdit → Strong → Strong → Type 0
IsOpenEdit ucd t x y = ((has_no_bracket ucd t.front.now ≡ true) × (has_no_bracket ucd (take x.start t.near.now) ≡ true))
    ⊎ (has_no_bracket ucd (drop y.stop t.behind.now) ≡ true)

-- all characters between the strong characters `x` and `y` are of their direction, or of either direction if no bracket pair encloses both
abbrev pub IsCutOffEdit : Data → TextEdit → Strong → Strong → Type 0
IsCutOffEdit ucd t x y = IsBareEdit ucd (direction_between x.class y.class) t (drop x.stop t.near.now) (take y.start t.behind.now)
    ⊎ (IsBareEdit ucd Either t (drop x.stop t.near.now) (take y.start t.behind.now) × IsOpenEdit ucd t x y)

-- the edit as `bx_levels` takes it, in characters
abbrev pub edit_of : TextEdit → Edit
edit_of t = record {
  before = chars t.front.now ++ chars t.near.now;
  removed = chars t.removed.now;
  inserted = chars t.inserted.now;
  behind = chars t.behind.now;
}

-- the edit `t` changes the body `old` into `new`, and `t.ahead` counts the characters of its `front`
pub record IsEditOf (old new : List ℕ) (t : TextEdit) : Type 0 where
  pub front_is : IsUtf8 t.front.now
  pub near_is : IsUtf8 t.near.now
  pub removed_is : IsUtf8 t.removed.now
  pub inserted_is : IsUtf8 t.inserted.now
  pub ahead_is : t.ahead ≡ length (chars t.front.now)
  pub before : old ≡ t.front.now ++ (t.near.now ++ (t.removed.now ++ t.behind.now))
  pub after : new ≡ t.front.now ++ (t.near.now ++ (t.inserted.now ++ t.behind.now))

-- the start `s` of a row counts the characters of the body before the row
abbrev pub IsCounted : List ℕ → RowStart → Type 0
IsCounted body s = s.chars ≡ length (chars (take s.offset body))

-- the levels `now` are equal to `was`
pub record AreAsBefore (was now : Levels) : Type 0 where
  pub paragraph_is : now.paragraph ≡ was.paragraph
  pub each_is : now.each.items ≡ was.each.items

-- if `was` are the levels of the text before an edit, `now` are those of the text after it
abbrev pub FollowsEdit : Data → TextEdit → Levels → Levels → Type 0
FollowsEdit ucd t was now = (base : Base) → HasNoFormatting ucd (old_text (edit_of t)) → AreLevelsOf ucd base (old_text (edit_of t)) was
    → AreLevelsOf ucd base (new_text (edit_of t)) now
