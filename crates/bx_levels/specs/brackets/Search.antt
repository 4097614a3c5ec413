-- The search for bracket pairs by a stack of unmatched openers, the last one first, as the code does it. It finds the pairs of `Pairs`.
-- An opener is its index in the sequence and the canonical closer that it waits for. `ucd` is Unicode's data.
use Rattle.std.specs.Prelude.{◌≡◌, ℕ, ◌+◌, ◌%◌, ◌==◌, ◌<◌, ◌≤◌, ◌⊎◌, nat_lt, not, find}
use Rattle.std.specs.Prelude.{Bool, true, false, List, [], ◌∷◌, Option, Some, None, length, slice_set, All}
use Rattle.std.specs.Prelude.{slice_index_or}
use Rattle.bx_ucd.specs.Data.{Data}
use Rattle.bx_ucd.specs.declared.data.Side.{Side}
use Rattle.bx_ucd.specs.declared.data.Side.TheVariants.{Opener, Closer}
use Rattle.bx_ucd.specs.declared.class.Class.{Class}
use Rattle.bx_levels.specs.brackets.Pairs.{bracket_room, canonical, bracket_at, insert_pair}

-- the openers below the first one that passes the test
abbrev pub below_first : ((ℕ × ℕ) → Bool) → List (ℕ × ℕ) → List (ℕ × ℕ)
below_first p [] = []
below_first p (o ∷ os) = elim (p o) [ true ↦ os | false ↦ below_first p os ]

-- the opener waits for the closer `c`
abbrev pub is_for : ℕ → ℕ × ℕ → Bool
is_for c o = o.1 == c

-- the opener at an index of the list, if there is an index
abbrev pub opener_at : List (ℕ × ℕ) → Option ℕ → Option (ℕ × ℕ)
opener_at os None = None
opener_at os (Some k) = Some (slice_index_or os k (0, 0))

-- each closer noted in `missed` is at its remainder (31 is `REMAINDERS` of src/brackets/open_stack.rt) and matches no opener
abbrev pub AreMissed : List (Option ℕ) → List (ℕ × ℕ) → Type 0
AreMissed missed os = (k c : ℕ) → slice_index_or missed k None ≡ Some c → (c % 31 ≡ k) × (find (is_for c) os ≡ None)

-- the index in the sequence of the opener that a closer matches
abbrev pub index_of : Option (ℕ × ℕ) → Option ℕ
index_of None = None
index_of (Some o) = Some o.0

-- the openers left after the closer `c`, given the opener that it matches
abbrev pub left_by : Option (ℕ × ℕ) → ℕ → List (ℕ × ℕ) → List (ℕ × ℕ)
left_by None c os = os
left_by (Some o) c os = below_first (is_for c) os

-- the unmatched openers, the last one first; the pairs found so far, sorted by opener; and whether the search has ended at a full stack
pub record Progress : Type 0 where
  pub openers : List (ℕ × ℕ)
  pub pairs : List (ℕ × ℕ)
  pub is_over : Bool

-- the progress of these values
abbrev pub progress : List (ℕ × ℕ) → List (ℕ × ℕ) → Bool → Progress
progress os ps over = record { openers = os; pairs = ps; is_over = over }

-- the pairs, with a new one if the closer at index `j` matches an opener
abbrev pub found_by : Option (ℕ × ℕ) → ℕ → List (ℕ × ℕ) → List (ℕ × ℕ)
found_by None j ps = ps
found_by (Some o) j ps = insert_pair (o.0, j) ps

-- the openers, with a new one at index `j`, whose counterpart is `m`, if the stack has room
abbrev pub opened : ℕ → ℕ → List (ℕ × ℕ) → List (ℕ × ℕ)
opened j m os = elim (nat_lt (length os) bracket_room) [ true ↦ (j, canonical m) ∷ os | false ↦ os ]

-- the progress after the character `c` at index `j`, which is not a bracket, or one of a side with its counterpart `m`, of a search
-- that has not ended
abbrev pub turn : ℕ → ℕ → Option (Side × ℕ) → Progress → Progress
turn j c None p = p
turn j c (Some (Opener, m)) p = record p { openers = opened j m p.openers; is_over = not (nat_lt (length p.openers) bracket_room) }
turn j c (Some (Closer, m)) p = record p {
  openers = left_by (find (is_for (canonical c)) p.openers) (canonical c) p.openers;
  pairs = found_by (find (is_for (canonical c)) p.openers) j p.pairs;
}

-- the progress after the character `c` at index `j`, which is the bracket `b`, if it is one; a search that has ended stays as it is
abbrev pub after : ℕ → ℕ → Option (Side × ℕ) → Progress → Progress
after j c b p = elim p.is_over [ true ↦ p | false ↦ turn j c b p ]

-- the pairs after the rest of the sequence: its characters and their types, from index `j` on
abbrev pub pairs_after : Data → Progress → ℕ → List ℕ → List Class → List (ℕ × ℕ)
pairs_after ucd p j [] ts = p.pairs
pairs_after ucd p j (c ∷ cs) [] = p.pairs
pairs_after ucd p j (c ∷ cs) (t ∷ ts) = pairs_after ucd (after j c (bracket_at ucd c t) p) (j + 1) cs ts

-- each opener is at an index before `j`, and before the openers above it
abbrev pub IsFalling : ℕ → List (ℕ × ℕ) → Type 0
IsFalling j [] = Unit {0}
IsFalling j (o ∷ os) = (o.0 < j) × IsFalling o.0 os

-- pairs are sorted by opener, and no opener is at an index before `k`
abbrev pub AreSorted : ℕ → List (ℕ × ℕ) → Type 0
AreSorted k [] = Unit {0}
AreSorted k (p ∷ ps) = (k ≤ p.0) × AreSorted p.0 ps

-- a pair lies inside a list of length n
pub record IsPairWithin (n : ℕ) (pq : ℕ × ℕ) : Type 0 where
  pub ordered : pq.0 < pq.1
  pub ends : pq.1 < n

-- the invariant of the openers and pairs before index `j`
pub record AreFound (j : ℕ) (os ps : List (ℕ × ℕ)) : Type 0 where
  pub falling : IsFalling j os
  pub sorted : AreSorted 0 ps
  pub within : All (IsPairWithin j) ps

-- the pairs in a list of closers, whose first entry has index `k`: an entry greater than its index is the closer of the opener there
abbrev pub pairs_in : ℕ → List ℕ → List (ℕ × ℕ)
pairs_in k [] = []
pairs_in k (c ∷ cs) = elim (nat_lt k c) [ true ↦ (k, c) ∷ pairs_in (k + 1) cs | false ↦ pairs_in (k + 1) cs ]

-- the list of closers, with `j` noted as the closer of the opener at index `k`, if there is an opener
abbrev pub with_closer : Option ℕ → ℕ → List ℕ → List ℕ
with_closer None j cs = cs
with_closer (Some k) j cs = slice_set cs k j

-- the opener at index `k` has no closer in the list `cs`
pub record IsUnclosed (cs : List ℕ) (k : ℕ) : Type 0 where
  pub inside : k < length cs
  pub none : slice_index_or cs k 0 ≤ k

-- none of the openers has a closer in the list `cs`
abbrev pub AreUnclosed : List ℕ → List (ℕ × ℕ) → Type 0
AreUnclosed cs [] = Unit {0}
AreUnclosed cs (o ∷ os) = IsUnclosed cs o.0 × AreUnclosed cs os

-- the invariant of the openers and the list of closers of a sequence of `count` characters, of which those before index `next` are taken.
-- The list is empty before the first opener
pub record IsSearched (count next : ℕ) (os : List (ℕ × ℕ)) (cs : List ℕ) : Type 0 where
  pub falling : IsFalling next os
  pub unclosed : AreUnclosed cs os
  pub long : (length cs ≡ 0) ⊎ (length cs ≡ count)
  pub within : All (λ c. c < count) cs
  pub met : All (λ c. c ≤ next) cs

-- a search: its progress, the first index not taken yet, and the number of characters of the sequence
pub record Searching : Type 0 where
  pub progress : Progress
  pub next : ℕ
  pub count : ℕ
