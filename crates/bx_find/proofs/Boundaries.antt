-- A match begins between characters.
use Rattle.std.proofs.Common.{◌≡◌, ◌+◌, ℕ, Bool, true, false, List, [], ◌∷◌, ◌++◌, length, chars, refl, ap, sym, subst, arith, cond, All, IfSome, IsUtf8, IsCharBoundary, Option, Some, None}
use Rattle.std.specs.Prelude.{find, nat_le, nat_lt, encode_utf8}
use Rattle.std.proofs.lemmas.List.Elements.{All-nil, All-cons, All-head, All-tail}
use Rattle.bx_ucd.specs.Data.{Data}
use Rattle.bx_find.specs.Matches.{is_match, matches, first_from, last_below, last_before}
use Rattle.bx_find.specs.Parts.{first_between, if_below, last_above, last_from}
use Rattle.bx_find.specs.declared.letters.Reading.{Reading}
use Rattle.bx_find.proofs.Offsets.{widths, widths-more}
use Rattle.bx_find.proofs.Nearest.{bound_at}

-- ---- what holds of all offsets, holds of one of them

module _ (P : ℕ → Type 0) where
  of-find : (f : ℕ → Bool) (ats : List ℕ) → All P ats → IfSome (find f ats) P
  of-find f [] a = tt
  of-find f (at ∷ ats) a = elim (f at) as (λ b. IfSome (cond b (Some at) (find f ats)) P) [
    | true ↦ All-head P at ats a
    | false ↦ of-find f ats (All-tail P at ats a)
  ]

  of-bounded : (x : ℕ) (o : Option ℕ) → IfSome o P → IfSome (if_below x o) P
  of-bounded x None h = tt
  of-bounded x (Some at) h = elim (nat_lt at x) as (λ b. IfSome (cond b (Some at) None) P) [ true ↦ h | false ↦ tt ]

  of-below : (x : ℕ) (o : Option ℕ) (ats : List ℕ) → IfSome o P → All P ats → IfSome (last_below x o ats) P
  of-below x o [] h a = h
  of-below x o (at ∷ ats) h a = elim (nat_lt at x) as
      (λ b. IfSome (elim b as (λ v. Option ℕ) [ true ↦ last_below x (Some at) ats | false ↦ last_below x o ats ]) P) [
        | true ↦ of-below x (Some at) ats (All-head P at ats a) (All-tail P at ats a)
        | false ↦ of-below x o ats h (All-tail P at ats a)
      ]

  of-above : (x : ℕ) (o : Option ℕ) (ats : List ℕ) → IfSome o P → All P ats → IfSome (last_above x o ats) P
  of-above x o [] h a = h
  of-above x o (at ∷ ats) h a = elim (nat_le x at) as
      (λ b. IfSome (elim b as (λ v. Option ℕ) [ true ↦ last_above x (Some at) ats | false ↦ last_above x o ats ]) P) [
        | true ↦ of-above x (Some at) ats (All-head P at ats a) (All-tail P at ats a)
        | false ↦ of-above x o ats h (All-tail P at ats a)
      ]

module _ (ucd : Data) (reading : Reading) (sought : List ℕ) where
  -- what holds of the offset of each character, holds of each match
  every : (P : ℕ → Type 0) (at : ℕ) (cs : List ℕ) → ((front rest : List ℕ) → cs ≡ front ++ rest → P (at + widths front))
      → All P (matches ucd reading sought at cs)
  every P at [] h = All-nil P
  every P at (c ∷ cs) h =
      let here : at + widths [] ≡ at = omega arith in
      let next : (front : List ℕ) → at + widths (c ∷ front) ≡ at + length (encode_utf8 c) + widths front = λ front. omega (arith, widths-more c front) in
      let more = every P (at + length (encode_utf8 c)) cs (λ front rest e. subst P (next front) (h (c ∷ front) rest (ap (λ ds. c ∷ ds) e))) in
      elim (is_match ucd reading sought (c ∷ cs)) as
      (λ b. All P (elim b as (λ v. List ℕ) [
        | true ↦ at ∷ matches ucd reading sought (at + length (encode_utf8 c)) cs
        | false ↦ matches ucd reading sought (at + length (encode_utf8 c)) cs
      ])) [
        | true ↦ All-cons P at _ (subst P here (h [] (c ∷ cs) refl)) more
        | false ↦ more
      ]

  module _ (text : List ℕ) (x : ℕ) (u : IsUtf8 text) where
    all : All (IsCharBoundary text) (matches ucd reading sought 0 (chars text))
    all =
        let at : (front : List ℕ) → widths front ≡ 0 + widths front = λ front. omega arith in
        every (IsCharBoundary text) 0 (chars text) (λ front rest e. bound_at text front rest (0 + widths front) u e (at front))

    pub first_from_bound : (o : Option ℕ) → o ≡ first_from ucd reading sought text x → IfSome o (IsCharBoundary text)
    first_from_bound o e = subst (λ p. IfSome p (IsCharBoundary text)) (sym e) (of-find (IsCharBoundary text) (nat_le x) _ all)

    pub first_between_bound : (stop : ℕ) (o : Option ℕ) → o ≡ first_between ucd reading sought text x stop → IfSome o (IsCharBoundary text)
    first_between_bound stop o e =
        subst (λ p. IfSome p (IsCharBoundary text)) (sym e)
        (of-bounded (IsCharBoundary text) stop (first_from ucd reading sought text x) (first_from_bound _ refl))

    pub last_before_bound : (o : Option ℕ) → o ≡ last_before ucd reading sought text x → IfSome o (IsCharBoundary text)
    last_before_bound o e = subst (λ p. IfSome p (IsCharBoundary text)) (sym e) (of-below (IsCharBoundary text) x None _ tt all)

    pub last_from_bound : (o : Option ℕ) → o ≡ last_from ucd reading sought text x → IfSome o (IsCharBoundary text)
    last_from_bound o e = subst (λ p. IfSome p (IsCharBoundary text)) (sym e) (of-above (IsCharBoundary text) x None _ tt all)
