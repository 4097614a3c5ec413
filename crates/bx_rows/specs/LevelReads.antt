-- The levels of a row's units while its characters are read in text order. Units after the last character that does not
-- trail wait: their levels depend on whether the characters that follow trail. `paragraph` is the paragraph level; `found`,
-- `old` and `new` are levels of the units that are read; `waiting` and `next` are indices in them, from 0, of the first unit
-- that waits, or their number if none does.
use Rattle.std.specs.Prelude.{◌≡◌, ℕ, zero, suc, Bool, true, false, ◌||◌, cond, List, [], ◌∷◌, ◌++◌, drop, Option, Some, None, is_some, unwrap_or}
use Rattle.std.specs.List.{last_or}
use Rattle.bx_ucd.specs.declared.class.Class.{Class}
use Rattle.bx_rows.specs.RowLevels.{CharLevel, trails, only_trailing, l1, unit_levels, levels_or_before}

-- levels, with those from index `waiting` on set to the paragraph level
abbrev pub settled : ℕ → ℕ → List ℕ → List ℕ
settled paragraph waiting [] = []
settled paragraph zero (l ∷ ls) = paragraph ∷ settled paragraph zero ls
settled paragraph (suc waiting) (l ∷ ls) = l ∷ settled paragraph waiting ls

-- settled levels if `trailing`, that is, if the unread characters trail; else the levels as read
abbrev pub settled_if : Bool → ℕ → ℕ → List ℕ → List ℕ
settled_if trailing paragraph waiting found = cond trailing (settled paragraph waiting found) found

-- the level of a unit without a character that X9 keeps, after units of these levels
abbrev pub level_before : ℕ → List ℕ → ℕ
level_before paragraph found = unwrap_or (last_or None found) paragraph

-- `found`, then the levels of the next units. `ls` has the level of each one's first kept character, None if it has none.
abbrev pub with_levels_behind : ℕ → List ℕ → List (Option ℕ) → List ℕ
with_levels_behind paragraph found ls = found ++ levels_or_before (level_before paragraph found) ls

-- The levels of all units of a row. Those of `found` are read, but for the last `n` characters of the last one. `cs` are the
-- unread characters: these `n`, then those of the next units, of which each has as many characters as `counts` says.
abbrev pub levels_from : ℕ → List ℕ → ℕ → ℕ → List ℕ → List CharLevel → List ℕ
levels_from paragraph found waiting n counts cs =
    with_levels_behind paragraph (settled_if (only_trailing cs) paragraph waiting found) (unit_levels counts (drop n (l1 paragraph cs)))

-- the levels of all units while a unit is read that has `n` unread characters; true: its level is known, the last of `found`
abbrev pub unit_from : Bool → ℕ → List ℕ → ℕ → ℕ → List ℕ → List CharLevel → List ℕ
unit_from true paragraph found waiting n counts cs = levels_from paragraph found waiting n counts cs
unit_from false paragraph found waiting n counts cs = levels_from paragraph found waiting 0 (n ∷ counts) cs

-- what reading a kept character of a class makes of `old` and `waiting`: `new` and `next`, whatever characters follow
abbrev pub Reads : ℕ → Class → List ℕ → ℕ → List ℕ → ℕ → Type 0
Reads paragraph class old waiting new next =
    (l : ℕ) (b : Bool) → settled_if b paragraph next new ≡ settled_if (trails (class, Some l) b) paragraph waiting old

-- what reading any character of a unit makes of `old` and `waiting`: `level` is the character's, None if X9 removes it;
-- `is_known`: the unit's level was found before
abbrev pub ReadsChar : ℕ → Class → Bool → Option ℕ → List ℕ → ℕ → List ℕ → ℕ → Type 0
ReadsChar paragraph class is_known level old waiting new next =
    (n : ℕ) (counts : List ℕ) (cs : List CharLevel) → unit_from is_known paragraph old waiting (suc n) counts ((class, level) ∷ cs)
    ≡ unit_from (is_known || is_some level) paragraph new next n counts cs
