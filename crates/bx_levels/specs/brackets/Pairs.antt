-- Bracket pairs, BD14 to BD16, over the characters and types of one sequence. `ucd` is Unicode's data.
use Rattle.std.specs.Prelude.{◌==◌, ℕ, ◌+◌, nat_lt, nat_le, ◌&&◌, not, Bool, true, false, List, [], ◌∷◌, Option, Some, None, length, filter, find}
use Rattle.std.specs.Prelude.{if◌then◌else◌}
use Rattle.std.specs.List.{list_any}
use Rattle.bx_ucd.specs.Data.{Data}
use Rattle.bx_ucd.specs.declared.class.Class.{Class}
use Rattle.bx_ucd.specs.declared.class.Class.TheVariants.{ON}
use Rattle.bx_ucd.specs.declared.data.Side.{Side}
use Rattle.bx_ucd.specs.declared.data.Side.TheVariants.{Opener, Closer}

abbrev pub is_on : Class → Bool
is_on ON = true
is_on _ = false

-- BD16: U+2329 and U+232A are canonically equivalent to U+3008 and U+3009, and compared as these
abbrev pub canonical : ℕ → ℕ
canonical c = if c == 0x2329 then 0x3008 else (if c == 0x232a then 0x3009 else c)

-- BD16: pairs, each the indexes of its opener and its closer, are sorted by opener
abbrev pub insert_pair : ℕ × ℕ → List (ℕ × ℕ) → List (ℕ × ℕ)
insert_pair p [] = p ∷ []
insert_pair p (q ∷ qs) = elim (nat_lt p.0 q.0) [ true ↦ p ∷ q ∷ qs | false ↦ q ∷ insert_pair p qs ]

-- a search: the openers so far, closed or not, the latest first, each its index and the canonical closer that it waits for; the pairs so
-- far, sorted by opener; and whether the search has ended at a full stack
pub record Search : Type 0 where
  pub openers : List (ℕ × ℕ)
  pub pairs : List (ℕ × ℕ)
  pub is_over : Bool

-- an opener is open if no pair begins at it or encloses it
abbrev pub is_open : List (ℕ × ℕ) → (ℕ × ℕ) → Bool
is_open pairs o = not (list_any (λ p. nat_le p.0 o.0 && nat_lt o.0 p.1) pairs)

-- the openers that are open, the latest first: the stack of BD16
abbrev pub open_openers : Search → List (ℕ × ℕ)
open_openers s = filter (is_open s.pairs) s.openers

-- BD16: the capacity of the stack, which holds the open openers
abbrev pub bracket_room : ℕ
bracket_room = 63

-- BD16: an opener at index `j` is pushed if the stack has room, else the search ends
abbrev pub meet_opener : Search → ℕ → ℕ → Search
meet_opener s j closer = elim (nat_lt (length (open_openers s)) bracket_room) [
  | true ↦ record s { openers = (j, canonical closer) ∷ s.openers }
  | false ↦ record s { is_over = true }
]

-- BD16: a closer at index `j` pairs with the nearest open opener that it matches
abbrev pub meet_closer : Search → ℕ → ℕ → Search
meet_closer s j c = elim (find (λ o. o.1 == canonical c) (open_openers s)) [
  | None ↦ s
  | Some o ↦ record s { pairs = insert_pair (o.0, j) s.pairs }
]

-- the search after the character `c` at index `j`, which is not a bracket, or one of a side with its counterpart `m`
abbrev pub meet : Search → ℕ → ℕ → Option (Side × ℕ) → Search
meet s j c None = s
meet s j c (Some (Opener, m)) = meet_opener s j m
meet s j c (Some (Closer, m)) = meet_closer s j c

-- BD14, BD15: a character is a bracket only if its current type is ON
abbrev pub bracket_at : Data → ℕ → Class → Option (Side × ℕ)
bracket_at ucd c t = elim (is_on t) [ true ↦ ucd.bracket c | false ↦ None ]

-- the search after the rest of a sequence: its characters and their types, equally many, from index `j` on
abbrev pub search_from : Data → Search → ℕ → List ℕ → List Class → Search
search_from ucd s j [] ts = s
search_from ucd s j (c ∷ cs) [] = s
search_from ucd s j (c ∷ cs) (t ∷ ts) = elim (s.is_over) [
  | true ↦ s
  | false ↦ search_from ucd (meet s j c (bracket_at ucd c t)) (j + 1) cs ts
]

-- BD16: the bracket pairs of a sequence, each the indexes of its opener and its closer
abbrev pub pairs : Data → List ℕ → List Class → List (ℕ × ℕ)
pairs ucd cs ts = (search_from ucd (record { openers = []; pairs = []; is_over = false }) 0 cs ts).pairs
