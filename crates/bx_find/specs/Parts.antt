-- The first and the last match in a part of a text. `ucd` is Unicode's data.
use Rattle.std.specs.Prelude.{ℕ, true, false, List, [], ◌∷◌, nat_le, nat_lt, Option, Some, None, chars, if◌then◌else◌}
use Rattle.bx_ucd.specs.Data.{Data}
use Rattle.bx_find.specs.declared.letters.Reading.{Reading}
use Rattle.bx_find.specs.Matches.{first_from, matches}

-- an offset, if it is below x
abbrev pub if_below : ℕ → Option ℕ → Option ℕ
if_below x None = None
if_below x (Some at) = if nat_lt at x then Some at else None

-- the first match in a text at or after the offset `start`, if it is before `stop`
abbrev pub first_between : Data → Reading → List ℕ → List ℕ → ℕ → ℕ → Option ℕ
first_between ucd reading sought text start stop = if_below stop (first_from ucd reading sought text start)

-- the last of the offsets at or above x; `found` if there is none
abbrev pub last_above : ℕ → Option ℕ → List ℕ → Option ℕ
last_above x found [] = found
last_above x found (at ∷ ats) = elim (nat_le x at) [ true ↦ last_above x (Some at) ats | false ↦ last_above x found ats ]

-- the last match in a text at or after the offset x
abbrev pub last_from : Data → Reading → List ℕ → List ℕ → ℕ → Option ℕ
last_from ucd reading sought text x = last_above x None (matches ucd reading sought 0 (chars text))
