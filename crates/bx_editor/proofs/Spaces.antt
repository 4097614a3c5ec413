-- Spaces of a text: a repeated one, and offsets among those before a place.
use Rattle.std.proofs.Common.{◌≡◌, ℕ, zero, suc, ◌+◌, ◌-◌, ◌<◌, ◌≤◌, true, List, [], ◌∷◌, length, drop, get_or, refl, ap, ap₂, sym, ◌∙◌, arith, length-drop}
use Rattle.std.specs.Prelude.{◌==◌, ◌%◌, IsCharBoundary, IsUtf8, replicate, slice_range}
use Rattle.std.specs.List.{list_all, repeat}
use Rattle.std.proofs.lemmas.Bool.Decides.{nat_tests}
use Rattle.std.proofs.lemmas.List.{get_or-drop, get_or-take, length-take-le}
use Rattle.std.proofs.lemmas.List.Sums.{AllPass-from_list_all}
use Rattle.std.proofs.lemmas.Str.{IsCharBoundary-before_ascii}
use Rattle.bx_text.specs.Changes.{IsRange}

pub repeated-spaces : (n : ℕ) → repeat {A = ℕ} n (0x20 ∷ []) ≡ replicate n 0x20
repeated-spaces zero = refl
repeated-spaces (suc n) = ap (λ bs. 0x20 ∷ bs) (repeated-spaces n)

module _ (text : List ℕ) (start place : ℕ) (inside : place ≤ length text) where
  part-byte : (k : ℕ) → start + k < place → get_or (slice_range text start place) k 0 ≡ get_or text (start + k) 0
  part-byte k before = get_or-take (place - start) (drop start text) k 0 (omega (arith, before)) ∙ get_or-drop start text k 0

  part-length : start ≤ place → length (slice_range text start place) ≡ place - start
  part-length order = length-take-le (place - start) (drop start text) (omega (arith, order, inside, length-drop start text))

  -- among spaces alone each byte is one
  space-at : list_all (λ b. b == 0x20) (slice_range text start place) ≡ true → (o : ℕ) → start ≤ o → o < place → get_or text o 0 ≡ 0x20
  space-at all o from before =
      let k = o - start in
      let at : start + k ≡ o = omega (arith, from) in
      let within : k < length (slice_range text start place) = omega (arith, from, before, part-length (omega (arith, from, before))) in
      let is = AllPass-from_list_all (λ b. b == 0x20) (slice_range text start place) all k 0 within in
      let here : get_or (slice_range text start place) k 0 ≡ 0x20 = grind (arith, nat_tests, is) in
      ap (λ i. get_or text i 0) (sym at) ∙ sym (part-byte k (omega (arith, at, before))) ∙ here

  -- so what is removed back to one of them is between characters
  pub space-range : list_all (λ b. b == 0x20) (slice_range text start place) ≡ true → IsCharBoundary text place → (o : ℕ) → start ≤ o → o < place
      → IsRange text o place
  space-range all bounds o from before =
      let is = space-at all o from before in
      record {
        start_bounds = IsCharBoundary-before_ascii text o (omega (arith, before, inside)) (omega (arith, is));
        stop_bounds = bounds;
        in_order = omega (arith, before);
      }
