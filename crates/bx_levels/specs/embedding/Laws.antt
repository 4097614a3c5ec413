-- Laws of the rules for explicit levels: the states give the levels, and their stacks have room.
use Rattle.std.specs.Prelude.{◌≡◌, ◌≤◌, ℕ, ◌+◌, List, [], ◌∷◌, Option, All, length}
use Rattle.bx_ucd.specs.declared.class.Class.{Class}
use Rattle.bx_levels.specs.declared.embedding.entry.ExplicitChar.{ExplicitChar}
use Rattle.bx_levels.specs.declared.embedding.state.State.{State}
use Rattle.bx_levels.specs.embedding.Explicit.{role_of, start, next_state, kept_by, explicit_levels}
use Rattle.bx_levels.specs.embedding.Stack.{max_depth}

-- the states over the classes of a text: before each character, and after the last
abbrev pub states_from : State → List Class → List State
states_from s [] = s ∷ []
states_from s (c ∷ cs) = s ∷ states_from (next_state (role_of c) cs s) cs

-- the states over a paragraph, given its level
abbrev pub states : ℕ → List Class → List State
states level cs = states_from (start level) cs

-- the result for each character, from the states before and after it
abbrev pub given_between : List State → List Class → List (Option ExplicitChar)
given_between [] cs = []
given_between (s ∷ []) cs = []
given_between (s ∷ t ∷ ss) [] = []
given_between (s ∷ t ∷ ss) (c ∷ cs) = kept_by (role_of c) c s t ∷ given_between (t ∷ ss) cs

-- the states over a paragraph give each character its explicit level
abbrev pub StatesGiveLevels : Type 0
StatesGiveLevels = (level : ℕ) (cs : List Class) → given_between (states level cs) cs ≡ explicit_levels level cs

-- X1: a stack has room for max_depth + 2 entries
abbrev pub HasRoom : State → Type 0
HasRoom s = length s.stack ≤ max_depth + 2

-- over any text, the stack of each state has room
abbrev pub AlwaysHasRoom : Type 0
AlwaysHasRoom = (level : ℕ) (cs : List Class) → level ≤ max_depth → All HasRoom (states level cs)
