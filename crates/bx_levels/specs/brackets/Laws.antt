-- Laws of the bracket pairs of every sequence. `ucd` is Unicode's data.
use Rattle.std.specs.Prelude.{◌≡◌, ◌<◌, ◌⊎◌, ℕ, ◌+◌, List, ◌∷◌, ◌++◌, length, Some, All, AllPairs, Contains}
use Rattle.bx_ucd.specs.Data.{Data}
use Rattle.bx_ucd.specs.declared.class.Class.{Class}
use Rattle.bx_ucd.specs.declared.class.Class.TheVariants.{ON}
use Rattle.bx_ucd.specs.declared.data.Side.TheVariants.{Opener, Closer}
use Rattle.bx_levels.specs.brackets.Pairs.{bracket_room, canonical, pairs}

-- a pair, the indexes of its opener and its closer, opens before it closes
abbrev pub OpensFirst : ℕ × ℕ → Type 0
OpensFirst p = p.0 < p.1

-- one pair lies inside another
abbrev pub IsInside : ℕ × ℕ → ℕ × ℕ → Type 0
IsInside p q = (q.0 < p.0) × (p.1 < q.1)

-- two pairs do not cross: the second lies inside the first, or opens after the first closes
abbrev pub AreUncrossed : ℕ × ℕ → ℕ × ℕ → Type 0
AreUncrossed p q = IsInside q p ⊎ (p.1 < q.0)

-- pairs are sorted by opener, each opens before it closes, and no two cross
pub record AreNested (ps : List (ℕ × ℕ)) : Type 0 where
  pub open_first : All OpensFirst ps
  pub rise : AllPairs (λ (p q : ℕ × ℕ). p.0 < q.0) ps
  pub uncrossed : AllPairs AreUncrossed ps

-- the pairs of any sequence are nested
abbrev pub PairsAreNested : Type 0
PairsAreNested = (ucd : Data) (cs : List ℕ) (ts : List Class) → AreNested (pairs ucd cs ts)

-- an opener and its closer side by side, both of type ON, are a pair if fewer than 63 characters come before them. `paired` and `back`
-- are their counterparts, `us` the types of the characters before them, `ts` the types of those after
abbrev pub NeighboursArePaired : Type 0
NeighboursArePaired = (ucd : Data) (before after : List ℕ) (opener closer paired back : ℕ) (us ts : List Class)
    → length us ≡ length before → length before < bracket_room
    → ucd.bracket opener ≡ Some (Opener, paired) → ucd.bracket closer ≡ Some (Closer, back) → canonical paired ≡ canonical closer
    → Contains (pairs ucd (before ++ opener ∷ closer ∷ after) (us ++ ON ∷ ON ∷ ts)) (length before, length before + 1)
