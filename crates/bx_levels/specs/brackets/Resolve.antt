-- N0: the types of bracket pairs.
use Rattle.std.specs.Prelude.{ℕ, ◌+◌, ◌-◌, Bool, true, false, List, [], ◌∷◌, ◌++◌, Option, Some, None, take, drop, reverse}
use Rattle.std.specs.List.{list_any}
use Rattle.bx_ucd.specs.declared.class.Class.{Class}
use Rattle.bx_ucd.specs.declared.class.Class.TheVariants.{L, R, EN, AN}

-- the other of the directions L and R
abbrev pub opposite : Class → Class
opposite L = R
opposite _ = L

-- a type counts as L
abbrev pub is_left : Class → Bool
is_left L = true
is_left _ = false

-- a type counts as R (N0): EN and AN do. W3 leaves no AL; an AL passed in counts as neither direction
abbrev pub is_right : Class → Bool
is_right R = true
is_right EN = true
is_right AN = true
is_right _ = false

-- a type counts as the direction, L or R
abbrev pub counts_as : Class → Class → Bool
counts_as d t = elim (is_left d) [ true ↦ is_left t | false ↦ is_right t ]

-- the first direction that a type counts as, in a list from the nearest on, or `sos`
abbrev pub nearest : Class → List Class → Class
nearest sos [] = sos
nearest sos (t ∷ ts) = elim (is_left t) [ true ↦ L | false ↦ elim (is_right t) [ true ↦ R | false ↦ nearest sos ts ] ]

-- N0, steps b to d: the direction that a pair takes, if any. The context is the nearest direction before the opener, and `inside` has the
-- types between the brackets
abbrev pub pair_direction : Class → Class → List Class → Option Class
pair_direction embedding context inside = elim (list_any (counts_as embedding) inside) [
  -- b: a type inside counts as the embedding direction
  | true ↦ Some embedding
  -- c: one inside counts as the other direction. c1: the context does too, and the pair takes it. c2: else the embedding
  | false ↦ elim (list_any (counts_as (opposite embedding)) inside) [
    | true ↦ elim (counts_as embedding context) [ true ↦ Some embedding | false ↦ Some (opposite embedding) ]
    -- d: none counts as either direction, and N1 and N2 resolve the pair
    | false ↦ None
  ]
]

-- N0: characters that were NSM before W1 and directly follow a changed bracket change with it. `was` tells of each character whether it
-- was NSM before W1, `d` is the bracket's direction
abbrev pub change_nsms : Class → List Bool → List Class → List Class
change_nsms d [] ts = ts
change_nsms d (false ∷ was) ts = ts
change_nsms d (true ∷ was) [] = []
change_nsms d (true ∷ was) (t ∷ ts) = d ∷ change_nsms d was ts

-- the types after the bracket at index `p` and the NSMs after it took the direction `d`
abbrev pub change_bracket : Class → List Bool → List Class → ℕ → List Class
change_bracket d was ts p = take p ts ++ d ∷ change_nsms d (drop (p + 1) was) (drop (p + 1) ts)

-- the types after a pair, the indexes of its opener and its closer, is resolved in a context
abbrev pub resolve_in : Class → Class → List Bool → ℕ × ℕ → List Class → List Class
resolve_in embedding context was pq ts = elim (pair_direction embedding context (take (pq.1 - pq.0 - 1) (drop (pq.0 + 1) ts))) [
  | None ↦ ts
  | Some d ↦ change_bracket d was (change_bracket d was ts pq.0) pq.1
]

-- the context of an index: the nearest direction before it
abbrev pub context_of : Class → List Class → ℕ → Class
context_of sos ts p = nearest sos (reverse (take p ts))

-- the types after a pair is resolved in the context of its opener
abbrev pub resolve_pair : Class → Class → List Bool → ℕ × ℕ → List Class → List Class
resolve_pair embedding sos was pq ts = resolve_in embedding (context_of sos ts pq.0) was pq ts

-- N0: pairs are resolved in order, and later pairs see the changes of earlier ones
abbrev pub resolve_pairs : Class → Class → List Bool → List (ℕ × ℕ) → List Class → List Class
resolve_pairs embedding sos was [] ts = ts
resolve_pairs embedding sos was (p ∷ ps) ts = resolve_pairs embedding sos was ps (resolve_pair embedding sos was p ts)
