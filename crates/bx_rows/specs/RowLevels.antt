-- The levels of a row's units: L1 on the row's characters, and then one level for each unit. `each` has the level of each of
-- the body's characters, None for one that X9 removes; the others are kept. `ucd` is what the tables say.
use Rattle.std.specs.Prelude.{ℕ, ◌&&◌, Bool, true, false, List, [], ◌∷◌, map, flat_map, length, take, drop, Option, Some, None, unwrap_or, chars}
use Rattle.std.specs.List.{zip, enumerate_from}
use Rattle.std.specs.Prelude.{zero, suc, ◌+◌, ◌-◌, ◌%◌, nat_le, max, min, ◌++◌}
use Rattle.bx_ucd.specs.Data.{Data}
use Rattle.bx_ucd.specs.declared.class.Class.{Class}
use Rattle.bx_ucd.specs.declared.class.Class.TheVariants.{S, WS, FSI, LRI, RLI, PDI}
use Rattle.bx_rows.specs.declared.cells.unit.Unit.{Unit}
use Rattle.bx_rows.specs.cells.Units.{unit_chars}

-- a segment separator
abbrev pub is_segment_separator : Class → Bool
is_segment_separator S = true
is_segment_separator _ = false

-- whitespace or an isolate formatting character, which L1 resets before a segment separator or at a row's end
abbrev pub is_trailing : Class → Bool
is_trailing WS = true
is_trailing FSI = true
is_trailing LRI = true
is_trailing RLI = true
is_trailing PDI = true
is_trailing _ = false

-- a character's class, and its level unless X9 removes it
abbrev pub CharLevel : Type 0
CharLevel = Class × Option ℕ

-- whether a character and those after it trail, given whether those after it do; a character that X9 removes is ignored
abbrev pub trails : CharLevel → Bool → Bool
trails (class, None) after = after
trails (class, Some level) after = elim (is_segment_separator class) [ true ↦ true | false ↦ is_trailing class && after ]

-- the kept characters, up to a segment separator or the end, are all whitespace or isolate formatting characters
abbrev pub only_trailing : List CharLevel → Bool
only_trailing [] = true
only_trailing (c ∷ cs) = trails c (only_trailing cs)

-- a kept character that trails has the paragraph level
abbrev pub level_at : ℕ → CharLevel → Bool → Option ℕ
level_at paragraph (class, None) trailing = None
level_at paragraph (class, Some level) trailing = elim trailing [ true ↦ Some paragraph | false ↦ Some level ]

-- L1: the levels of a row's characters
abbrev pub l1 : ℕ → List CharLevel → List (Option ℕ)
l1 paragraph [] = []
l1 paragraph (c ∷ cs) = level_at paragraph c (trails c (only_trailing cs)) ∷ l1 paragraph cs

-- the first level that is present
abbrev pub first_level : List (Option ℕ) → Option ℕ
first_level [] = None
first_level (None ∷ ls) = first_level ls
first_level (Some level ∷ ls) = Some level

-- the level of the first kept character of each unit, None if it has none, given the units' character counts
abbrev pub unit_levels : List ℕ → List (Option ℕ) → List (Option ℕ)
unit_levels [] ls = []
unit_levels (n ∷ ns) ls = first_level (take n ls) ∷ unit_levels ns (drop n ls)

-- a unit without a level takes the level of the unit before it; the first takes `before`
abbrev pub levels_or_before : ℕ → List (Option ℕ) → List ℕ
levels_or_before before [] = []
levels_or_before before (l ∷ ls) = let level = unwrap_or l before in level ∷ levels_or_before level ls

-- the number of a body's characters before these units
abbrev pub chars_before : List ℕ → List Unit → ℕ
chars_before body [] = 0
chars_before body (u ∷ us) = length (chars (take u.start body))

-- the characters of a row's units, with their levels among the levels `each` of the body's characters
abbrev pub row_chars : Data → List ℕ → List (Option ℕ) → List Unit → List CharLevel
row_chars ucd body each us = zip (map ucd.class (flat_map (unit_chars body) us)) (drop (chars_before body us) each)

-- the levels of a row's units, in a paragraph of the level `paragraph` whose characters have the levels `each`
abbrev pub row_levels : Data → List ℕ → ℕ → List (Option ℕ) → List Unit → List ℕ
row_levels ucd body paragraph each us =
    levels_or_before paragraph (unit_levels (map (λ u. length (unit_chars body u)) us) (l1 paragraph (row_chars ucd body each us)))

-- Units, with each maximal run at level `n` or higher reversed. `run` is the current run so far, the latest unit first.
abbrev pub reverse_runs : ℕ → List (ℕ × ℕ) → List (ℕ × ℕ) → List (ℕ × ℕ)
reverse_runs n run [] = run
reverse_runs n run (u ∷ us) = elim (nat_le n u.1) [ true ↦ reverse_runs n (u ∷ run) us | false ↦ run ++ u ∷ reverse_runs n [] us ]

-- the runs are reversed at each of the `count` levels from `low` on, from the highest down
abbrev pub reverse_down : ℕ → ℕ → List (ℕ × ℕ) → List (ℕ × ℕ)
reverse_down low zero us = us
reverse_down low (suc count) us = reverse_down low count (reverse_runs (low + count) [] us)

-- the highest level, 0 if there is none
abbrev pub highest : List ℕ → ℕ
highest [] = 0
highest (l ∷ ls) = max l (highest ls)

-- the lower of a level and an optional one
abbrev pub lower : ℕ → Option ℕ → ℕ
lower a None = a
lower a (Some b) = min a b

-- the lowest odd level of a level and an optional odd one, None if there is none
abbrev pub lower_odd : ℕ → Option ℕ → Option ℕ
lower_odd l lowest = elim (l % 2) [ zero ↦ lowest | suc n ↦ Some (lower l lowest) ]

-- the lowest odd level, None if there is none
abbrev pub lowest_odd : List ℕ → Option ℕ
lowest_odd [] = None
lowest_odd (l ∷ ls) = lower_odd l (lowest_odd ls)

-- the units after all reversals, from the highest level down to the lowest odd one
abbrev pub reversals_from : Option ℕ → ℕ → List (ℕ × ℕ) → List (ℕ × ℕ)
reversals_from None high us = us
reversals_from (Some low) high us = reverse_down low (high + 1 - low) us

-- the numbers of a row's units, listed from left to right
abbrev pub visual : List ℕ → List ℕ
visual levels = map (λ u. u.0) (reversals_from (lowest_odd levels) (highest levels) (enumerate_from 0 levels))
