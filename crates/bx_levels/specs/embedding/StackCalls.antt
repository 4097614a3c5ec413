-- What the functions of the stack give, and what always holds of it.
use Rattle.std.specs.Prelude.{ℕ, ◌<◌, ◌≤◌, List, [], ◌∷◌, Option, Some, None}
use Rattle.bx_levels.specs.declared.embedding.entry.Entry.{Entry}
use Rattle.bx_levels.specs.embedding.Stack.{max_depth}

-- the greatest number of entries: max_depth + 2
abbrev pub stack_room : ℕ
stack_room = 127

-- what a pop gives, and the stack after it
abbrev pub first_of : List Entry → Option Entry
first_of [] = None
first_of (e ∷ es) = Some e

abbrev pub rest_of : List Entry → List Entry
rest_of [] = []
rest_of (e ∷ es) = es

-- the entry has a higher level than the last one of a stack, if that has one
abbrev pub IsAbove : Entry → List Entry → Type 0
IsAbove e [] = Unit {0}
IsAbove e (f ∷ es) = f.level < e.level

-- each entry has a higher level than the one pushed before it, and none exceeds max_depth
abbrev pub IsRising : List Entry → Type 0
IsRising [] = Unit {0}
IsRising (e ∷ es) = (e.level ≤ max_depth) × IsAbove e es × IsRising es
