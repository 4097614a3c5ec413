-- Laws of the isolating run sequences of every text, of the levels of a text of class L, and of the directions of all levels.
-- `ucd` is Unicode's data.
use Rattle.std.specs.Prelude.{◌≡◌, ◌<◌, ◌≤◌, ℕ, ◌+◌, ◌%◌, Bool, true, false, List, [], ◌∷◌, ◌++◌, All, Option, Some, None, length, map, replicate}
use Rattle.std.specs.Prelude.{slice_index_or}
use Rattle.std.specs.List.{list_any}
use Rattle.std.specs.List.Sorted.{IsPermutation}
use Rattle.bx_ucd.specs.Data.{Data}
use Rattle.bx_ucd.specs.declared.class.Class.{Class}
use Rattle.bx_ucd.specs.declared.class.Class.TheVariants.{L, R, AL, EN, AN, ON, LRO, RLO, PDI}
use Rattle.bx_common.specs.declared.base.Base.{Base}
use Rattle.bx_levels.specs.declared.embedding.entry.Entry.{Entry}
use Rattle.bx_levels.specs.declared.embedding.entry.Override.{Override}
use Rattle.bx_levels.specs.declared.embedding.entry.Override.TheVariants.{Neutral, Left, Right}
use Rattle.bx_levels.specs.declared.embedding.state.State.{State}
use Rattle.bx_levels.specs.embedding.Explicit.{explicit_levels, start, top}
use Rattle.bx_levels.specs.embedding.Laws.{states}
use Rattle.bx_levels.specs.embedding.Sequences.{kept_indexes, RunSequence, sequences}
use Rattle.bx_levels.specs.resolve.Levels.{levels_under, paragraph_level_under, type_of}
use Rattle.bx_levels.specs.resolve.Kept.{is_kept}

-- the indexes of all sequences, concatenated
abbrev pub all_indexes : List RunSequence → List ℕ
all_indexes [] = []
all_indexes (s ∷ ss) = s.indexes ++ all_indexes ss

-- each character that X9 keeps is in exactly one sequence, once, and no other character is in any
abbrev pub HaveEachOnce : Type 0
HaveEachOnce = (level : ℕ) (cs : List Class) → level ≤ 1
    → IsPermutation (kept_indexes 0 (explicit_levels level cs)) (all_indexes (sequences level cs (explicit_levels level cs)))

-- under the base direction, a text of class L alone has the paragraph level `paragraph`, and each character the level `level`
abbrev pub LeftTextsHave : Base → ℕ → ℕ → Type 0
LeftTextsHave base paragraph level = (ucd : Data) (chars : List ℕ) → All (λ c. ucd.class c ≡ L) chars
    → (paragraph_level_under ucd base chars ≡ paragraph) × (levels_under ucd base chars ≡ replicate (length chars) (Some level))

-- a level of the direction of L, and of R: the character has a level, and it is even, or odd
abbrev pub IsEven : Option ℕ → Type 0
IsEven None = ⊥
IsEven (Some level) = level % 2 ≡ 0

abbrev pub IsOdd : Option ℕ → Type 0
IsOdd None = ⊥
IsOdd (Some level) = level % 2 ≡ 1

-- the level of L, EN and AN is even and the level of R and AL is odd; a character of another class may have either
abbrev pub HasDirection : Class → Option ℕ → Type 0
HasDirection L level = IsEven level
HasDirection EN level = IsEven level
HasDirection AN level = IsEven level
HasDirection R level = IsOdd level
HasDirection AL level = IsOdd level
HasDirection _ level = Unit {0}

-- a character's class, type after overrides, and level, by its index; past the end the class and the type are ON
abbrev pub class_at : Data → List ℕ → ℕ → Class
class_at ucd chars i = slice_index_or (map ucd.class chars) i ON

abbrev pub type_at : Data → Base → List ℕ → ℕ → Class
type_at ucd base chars i = type_of (slice_index_or (explicit_levels (paragraph_level_under ucd base chars) (map ucd.class chars)) i None)

abbrev pub level_at : Data → Base → List ℕ → ℕ → Option ℕ
level_at ucd base chars i = slice_index_or (levels_under ucd base chars) i None

-- in any text, each level has the direction of the character's type after overrides
abbrev pub TypesKeepDirection : Type 0
TypesKeepDirection = (ucd : Data) (base : Base) (chars : List ℕ) (i : ℕ) → HasDirection (type_at ucd base chars i) (level_at ucd base chars i)

-- a class that begins an override (UAX #9, X4 and X5)
abbrev pub is_override : Class → Bool
is_override LRO = true
is_override RLO = true
is_override _ = false

-- in a text without overrides, each level has the direction of the character's class
abbrev pub LettersKeepDirection : Type 0
LettersKeepDirection = (ucd : Data) (base : Base) (chars : List ℕ) (i : ℕ) → list_any is_override (map ucd.class chars) ≡ false
    → HasDirection (class_at ucd chars i) (level_at ucd base chars i)

-- the last entry of the stack that X6 and X6a ask for a character: the one after a PDI, and else the one before the character
abbrev pub entry_by : Class → State → State → Entry
entry_by PDI before after = top after
entry_by c before after = top before

-- that entry for the character at index `i` of a paragraph of the level `level`
abbrev pub entry_at : ℕ → List Class → ℕ → Entry
entry_at level cs i = let s : State = start level in
    entry_by (slice_index_or cs i ON) (slice_index_or (states level cs) i s) (slice_index_or (states level cs) (i + 1) s)

-- an LRO makes a level even, an RLO odd
abbrev pub FollowsOverride : Override → Option ℕ → Type 0
FollowsOverride Neutral level = Unit {0}
FollowsOverride Left level = IsEven level
FollowsOverride Right level = IsOdd level

-- each character that X9 keeps under an override, of whatever class, has a level of the override's direction
abbrev pub OverridesGiveDirection : Type 0
OverridesGiveDirection = (ucd : Data) (base : Base) (chars : List ℕ) (i : ℕ) → i < length chars → is_kept (class_at ucd chars i) ≡ true
    → FollowsOverride (entry_at (paragraph_level_under ucd base chars) (map ucd.class chars) i).forced (level_at ucd base chars i)
