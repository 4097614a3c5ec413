-- The part of a ring's slots that holds a queue (src/ring.rt). The ring has 256 slots, one for each letter that a query may have.
use Rattle.std.specs.Prelude.{ℕ, zero, suc, ◌+◌, ◌%◌, List, [], ◌∷◌, Option, None, get_or}

-- what is in the n slots from slot k on, from 0, where slot 0 follows slot 255
abbrev pub window : ℕ → ℕ → List (Option ℕ) → List (Option ℕ)
window k zero slots = []
window k (suc n) slots = get_or slots (k % 256) None ∷ window (k + 1) n slots
