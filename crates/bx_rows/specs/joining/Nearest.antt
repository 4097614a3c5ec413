-- The nearest character that is not transparent, and the lowest level of the characters passed over, which is all that the code needs
-- of them.
use Rattle.std.specs.Prelude.{ℕ, min, List, [], ◌∷◌, Option, Some, None}
use Rattle.bx_rows.specs.joining.Joining.{Joiner, neighbour, passed_over}

-- the lower of two levels, of those that there are
abbrev pub lower_of : Option ℕ → Option ℕ → Option ℕ
lower_of (Some level) (Some other) = Some (min level other)
lower_of (Some level) None = Some level
lower_of None other = other

-- the lowest level of some characters, of those that have one
abbrev pub lowest_level : List Joiner → Option ℕ
lowest_level [] = None
lowest_level (x ∷ xs) = lower_of x.1 (lowest_level xs)

-- that character and that level, in a list from the nearest on; the level is `None` if no character with a level is passed over
abbrev pub nearest : List Joiner → Option (Joiner × Option ℕ)
nearest xs = elim (neighbour xs) [ None ↦ None | Some c ↦ Some (c, lowest_level (passed_over xs)) ]
