-- A sequence has as many levels as types.
use Rattle.std.proofs.Common.{◌≡◌, ◌<◌, ◌+◌, ◌-◌, ◌∙◌, ℕ, suc, List, [], ◌∷◌, length, drop, take, map, refl, ap, arith, Bool, Option, Some, None}
use Rattle.std.proofs.lemmas.List.{length-map}
use Rattle.bx_ucd.specs.Data.{Data}
use Rattle.bx_ucd.specs.declared.class.Class.{Class}
use Rattle.bx_levels.specs.brackets.Pairs.{pairs}
use Rattle.bx_levels.specs.brackets.Resolve.{context_of, pair_direction, change_bracket, resolve_in, resolve_pairs}
use Rattle.bx_levels.proofs.brackets_lemmas.Context.{change_length}
use Rattle.bx_levels.specs.embedding.Sequences.{direction}
use Rattle.bx_levels.specs.resolve.Weak.{at_each, w1, w2, w3, w4, w5, w6, w1_at, w2_at, w3_at, w4_at, w5_at, w6_at, w7_at, weak}
use Rattle.bx_ucd.specs.Class.{is_nsm}
use Rattle.bx_levels.specs.resolve.Neutral.{n1, n2, n1_at, n2_at, implicit_at}
use Rattle.bx_levels.specs.resolve.Levels.{sequence_levels}
use Rattle.bx_levels.proofs.resolve_lemmas.PlainPairs.{AreInside, pairs_inside}

pub at_each_length : (rule : List Class → Class → List Class → Class) (b ts : List Class) → length (at_each rule b ts) ≡ length ts
at_each_length rule b [] = refl
at_each_length rule b (t ∷ ts) = ap (λ n. suc n) (at_each_length rule (t ∷ b) ts)

pub weak_length : (sos : Class) (ts : List Class) → length (weak sos ts) ≡ length ts
weak_length sos ts =
    let a : List Class = w1 sos ts in
    let b : List Class = w2 sos a in
    let c : List Class = w3 b in
    let d : List Class = w4 c in
    let e : List Class = w5 d in
    let f : List Class = w6 e in
    at_each_length (w7_at sos) [] f ∙ length-map e w6_at ∙ at_each_length w5_at [] d ∙ at_each_length w4_at [] c ∙ length-map b w3_at
    ∙ at_each_length (w2_at sos) [] a ∙ at_each_length (w1_at sos) [] ts

by_length : (was : List Bool) (p : ℕ × ℕ) (ts : List Class) (m : Option Class) → p.0 < p.1 → p.1 < length ts
    → length (elim m as (λ x. List Class) [ None ↦ ts | Some d ↦ change_bracket d was (change_bracket d was ts p.0) p.1 ]) ≡ length ts
by_length was p ts None a b = refl
by_length was p ts (Some d) a b =
    let k : length (change_bracket d was ts p.0) ≡ length ts = change_length d was ts p.0 (omega arith) in
    change_length d was (change_bracket d was ts p.0) p.1 (omega arith) ∙ k

pairs_length : (n : ℕ) (e sos : Class) (was : List Bool) (ps : List (ℕ × ℕ)) (ts : List Class) → AreInside n ps → length ts ≡ n
    → length (resolve_pairs e sos was ps ts) ≡ n
pairs_length n e sos was [] ts i l = l
pairs_length n e sos was (p ∷ ps) ts i l =
    let low : p.0 < p.1 = i.0 in
    let high : p.1 < n = i.1 in
    let context : Class = context_of sos ts p.0 in
    pairs_length n e sos was ps (resolve_in e context was p ts) i.2
    (by_length was p ts (pair_direction e context (take (p.1 - p.0 - 1) (drop (p.0 + 1) ts))) low (omega arith) ∙ l)

pub levels_length : (ucd : Data) (level : ℕ) (sos eos : Class) (chars : List ℕ) (ts : List Class)
    → length (sequence_levels ucd level sos eos chars ts) ≡ length ts
levels_length ucd level sos eos chars ts =
    let weak_types : List Class = weak sos ts in
    let paired : List Class = resolve_pairs (direction level) sos (map is_nsm ts) (pairs ucd chars weak_types) weak_types in
    let l : length paired ≡ length weak_types = pairs_length (length weak_types) (direction level) sos (map is_nsm ts) (pairs ucd chars weak_types)
    weak_types (pairs_inside ucd chars weak_types) refl in
    length-map (n2 (direction level) (n1 sos eos paired)) (implicit_at level) ∙ length-map (n1 sos eos paired) (n2_at (direction level))
    ∙ at_each_length (n1_at sos eos) [] paired ∙ l ∙ weak_length sos ts
