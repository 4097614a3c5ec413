-- The context of a pair, carried from one opener to the next.
use Rattle.std.proofs.Common.{◌≡◌, ◌<◌, ◌≤◌, ◌+◌, ◌-◌, ◌∙◌, ℕ, zero, suc, List, [], ◌∷◌, ◌++◌, length, take, drop, reverse, refl, ap, sym, arith, Bool, true}
use Rattle.std.proofs.Common.{false, Option, Some, None, length-append, length-drop}
use Rattle.std.proofs.lemmas.List.{reverse-append, take-append-le, take-append-drop, length-take-le}
use Rattle.bx_ucd.specs.declared.class.Class.{Class}
use Rattle.bx_ucd.specs.declared.class.Class.TheVariants.{L, R}
use Rattle.bx_levels.specs.brackets.Resolve.{nearest, is_left, is_right, context_of, change_nsms, change_bracket, pair_direction, resolve_in}
use Rattle.bx_levels.specs.brackets.Search.{IsPairWithin}
use Rattle.bx_levels.specs.brackets.Clear.{IsKnown, known_first}

pub nearest-append : (sos : Class) (xs ys : List Class) → nearest sos (xs ++ ys) ≡ nearest (nearest sos ys) xs
nearest-append sos [] ys = refl
nearest-append sos (t ∷ xs) ys =
    elim (is_left t) as (λ a. elim a as (λ x. Class) [ true ↦ L | false ↦ elim (is_right t) as (λ x. Class) [ true ↦ R | false ↦ nearest sos (xs ++ ys) ] ]
    ≡ elim a as (λ x. Class) [ true ↦ L | false ↦ elim (is_right t) as (λ x. Class) [ true ↦ R | false ↦ nearest (nearest sos ys) xs ] ]) [
      | true ↦ refl
      | false ↦ elim (is_right t) as (λ b. elim b as (λ x. Class) [ true ↦ R | false ↦ nearest sos (xs ++ ys) ]
          ≡ elim b as (λ x. Class) [ true ↦ R | false ↦ nearest (nearest sos ys) xs ]) [ true ↦ refl | false ↦ nearest-append sos xs ys ]
    ]

abbrev none : List Class
none = []

take_none : (n : ℕ) → take n none ≡ none
take_none zero = refl
take_none (suc n) = refl

take_split : (a o : ℕ) (ts : List Class) → a ≤ o → take o ts ≡ take a ts ++ take (o - a) (drop a ts)
take_split zero o ts h = let e : o ≡ o - 0 = omega arith in ap (λ n. take n ts) e
take_split (suc a) zero ts h = absurd (omega arith)
take_split (suc a) (suc o) [] h = sym (take_none (suc o - suc a))
take_split (suc a) (suc o) (t ∷ ts) h = let e : o - a ≡ suc o - suc a =
    omega arith in ap (λ xs. t ∷ xs) (take_split a o ts (omega arith) ∙ ap (λ n. take a ts ++ take n (drop a ts)) e)

pub context_later : (sos : Class) (ts : List Class) (a o : ℕ) → a ≤ o → nearest (context_of sos ts a) (reverse (take (o - a) (drop a ts))) ≡ context_of sos ts o
context_later sos ts a o h = sym (ap (λ xs. nearest sos (reverse xs)) (take_split a o ts h)
    ∙ ap (nearest sos) (reverse-append (take a ts) (take (o - a) (drop a ts))) ∙ nearest-append sos (reverse (take (o - a) (drop a ts))) (reverse (take a ts)))

nsms_length : (d : Class) (was : List Bool) (ts : List Class) → length (change_nsms d was ts) ≡ length ts
nsms_length d [] ts = refl
nsms_length d (false ∷ was) ts = refl
nsms_length d (true ∷ was) [] = refl
nsms_length d (true ∷ was) (t ∷ ts) = let h : length (change_nsms d was ts) ≡ length ts = nsms_length d was ts in omega arith

pub change_length : (d : Class) (was : List Bool) (ts : List Class) (p : ℕ) → p < length ts → length (change_bracket d was ts p) ≡ length ts
change_length d was ts p h =
    let a : length (take p ts) ≡ p = length-take-le p ts (omega arith) in
    let b : length (change_nsms d (drop (p + 1) was) (drop (p + 1) ts)) ≡ length (drop (p + 1) ts) = nsms_length d (drop (p + 1) was) (drop (p + 1) ts) in
    let c : length (drop (p + 1) ts) ≡ length ts - (p + 1) = length-drop (p + 1) ts in
    let e : length (change_bracket d was ts p) ≡ length (take p ts) + length (d ∷ change_nsms d (drop (p + 1) was) (drop (p + 1) ts)) =
    length-append (take p ts) (d ∷ change_nsms d (drop (p + 1) was) (drop (p + 1) ts)) in
    omega arith

take_taken : (o p : ℕ) (ts : List Class) → o ≤ p → p ≤ length ts → take o (take p ts) ≡ take o ts
take_taken o p ts h l =
    let a : length (take p ts) ≡ p = length-take-le p ts l in
    sym (take-append-le o (take p ts) (drop p ts) (omega arith)) ∙ ap (take o) (take-append-drop p ts)

take_change : (d : Class) (was : List Bool) (ts : List Class) (p o : ℕ) → o ≤ p → p < length ts → take o (change_bracket d was ts p) ≡ take o ts
take_change d was ts p o h l =
    let a : length (take p ts) ≡ p = length-take-le p ts (omega arith) in
    take-append-le o (take p ts) (d ∷ change_nsms d (drop (p + 1) was) (drop (p + 1) ts)) (omega arith) ∙ take_taken o p ts h (omega arith)

take_by : (m : Option Class) (was : List Bool) (pq : ℕ × ℕ) (ts : List Class) → IsPairWithin (length ts) pq
    → take pq.0 (elim m as (λ x. List Class) [ None ↦ ts | Some d ↦ change_bracket d was (change_bracket d was ts pq.0) pq.1 ]) ≡ take pq.0 ts
take_by None was pq ts w = refl
take_by (Some d) was pq ts w =
    let h : pq.0 < pq.1 = w.ordered in
    let l : pq.1 < length ts = w.ends in
    let n : length (change_bracket d was ts pq.0) ≡ length ts = change_length d was ts pq.0 (omega arith) in
    take_change d was (change_bracket d was ts pq.0) pq.1 pq.0 (omega arith) (omega arith) ∙ take_change d was ts pq.0 pq.0 (omega arith) (omega arith)

-- a pair changes nothing before its opener
pub take_resolved : (e context : Class) (was : List Bool) (pq : ℕ × ℕ) (ts : List Class) → IsPairWithin (length ts) pq
    → take pq.0 (resolve_in e context was pq ts) ≡ take pq.0 ts
take_resolved e context was pq ts w = take_by (pair_direction e context (take (pq.1 - pq.0 - 1) (drop (pq.0 + 1) ts))) was pq ts w

-- before the first pair
pub first_known : (e sos : Class) (ts : List Class) → IsKnown e sos ts (known_first sos)
first_known e sos ts = record {
  within = omega arith;
  context_is = refl;
  clear = record { embedding_is = λ k a b. absurd (omega arith); other_is = λ k a b. absurd (omega arith) };
}
