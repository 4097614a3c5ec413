-- Consequences of the laws for single texts.
use Rattle.std.proofs.Common.{◌≡◌, ◌<◌, inl, inr, [], ◌∷◌, ◌++◌, replicate, refl, subst, arith}
use Rattle.std.specs.Prelude.{AllPairs, Contains}
use Rattle.bx_ucd.specs.declared.class.Class.TheVariants.{L, ON}
use Rattle.bx_ucd.specs.SmallTables.{small}
use Rattle.bx_levels.specs.brackets.Pairs.{pairs}
use Rattle.bx_levels.specs.brackets.Laws.{AreUncrossed, NeighboursArePaired, PairsAreNested}

-- ([)]: no search finds both
crossed_are_not_both_pairs : PairsAreNested → pairs small (40 ∷ 91 ∷ 41 ∷ 93 ∷ []) (replicate 4 ON) ≡ (0, 2) ∷ (1, 3) ∷ [] → ⊥
crossed_are_not_both_pairs law e =
    let all : AllPairs AreUncrossed ((0, 2) ∷ (1, 3) ∷ []) = subst (AllPairs AreUncrossed) e (law small (40 ∷ 91 ∷ 41 ∷ 93 ∷ []) (replicate 4 ON)).uncrossed in
    let two : AreUncrossed (0, 2) (1, 3) = all 0 1 (0, 0) (omega arith) (omega arith) in
    elim two [ inl inside ↦ let l : 3 < 2 = inside.1 in absurd (omega arith) | inr behind ↦ let l : 2 < 1 = behind in absurd (omega arith) ]

-- a()b
empty_parentheses : NeighboursArePaired → Contains (pairs small (97 ∷ 40 ∷ 41 ∷ 98 ∷ []) (L ∷ ON ∷ ON ∷ L ∷ [])) (1, 2)
empty_parentheses law = law small (97 ∷ []) (98 ∷ []) 40 41 41 40 (L ∷ []) (L ∷ []) refl (omega arith) refl refl refl

-- 62 times [, then ()
parentheses_behind_openers : NeighboursArePaired → Contains (pairs small (replicate 62 91 ++ 40 ∷ 41 ∷ []) (replicate 64 ON)) (62, 63)
parentheses_behind_openers law = law small (replicate 62 91) [] 40 41 41 40 (replicate 62 ON) [] refl (omega arith) refl refl refl
