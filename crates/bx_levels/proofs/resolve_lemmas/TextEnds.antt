-- The ends of a text, and the offsets at which they begin.
use Rattle.std.proofs.Common.{◌≡◌, ◌<◌, ◌+◌, ◌-◌, ◌*◌, ◌∙◌, ℕ, zero, suc, List, []}
use Rattle.std.proofs.Common.{◌∷◌, ◌++◌, length, get_or, drop, chars, refl, ap, sym, subst, arith, length-append}
use Rattle.std.proofs.Common.{◌⊎◌, inl, inr}
use Rattle.std.specs.Str.{IsUtf8}
use Rattle.std.proofs.lemmas.List.{drop-drop, drop_at, nil_from_length}
use Rattle.std.proofs.lemmas.Str.{IsCharBoundary-from_drop, chars-nil}
use Rattle.std.proofs.Math.Seq.{get_or-append_seam}
use Rattle.std.proofs.Math.ListN.{get_or-append}
use Rattle.bx_levels.specs.resolve.Body.{IsEndOf, IsOffset, AreOffsets}

pub end_self : (t : List ℕ) → IsEndOf t t
end_self t = let none : length t - length t ≡ 0 = omega arith in record { shorter = omega arith; same = ap (λ n. drop n t) none }

pub end_of_end : (t r s : List ℕ) → IsEndOf t r → IsEndOf r s → IsEndOf t s
end_of_end t r s e f =
    let n : length t - length s ≡ (length t - length r) + (length r - length s) = omega (arith, e.shorter, f.shorter) in
    record {
      shorter = omega (arith, e.shorter, f.shorter);
      same = ap (λ k. drop k t) n ∙ sym (drop-drop (length r - length s) (length t - length r) t) ∙ ap (drop (length r - length s)) e.same ∙ f.same;
    }

pub end_behind : (t xs r : List ℕ) → t ≡ xs ++ r → IsEndOf t r
end_behind t xs r e =
    let n : length t ≡ length xs + length r = ap length e ∙ length-append xs r in
    let k : length t - length r ≡ length xs = omega arith in
    record { shorter = omega arith; same = ap (λ i. drop i t) k ∙ ap (drop (length xs)) e ∙ drop_at xs r (length xs) refl }

pub drop_cons : (k : ℕ) (cs ds : List ℕ) (c : ℕ) → 0 < k → cs ≡ c ∷ ds → drop (k - 1) ds ≡ drop k cs
drop_cons zero cs ds c h e = absurd (omega arith)
drop_cons (suc k) cs ds c h e = let n : suc k - 1 ≡ k = omega arith in ap (λ i. drop i ds) n ∙ ap (drop (suc k)) (sym e)

pub drop_none : (k : ℕ) (cs : List ℕ) → cs ≡ [] → cs ≡ drop k cs
drop_none zero cs e = refl
drop_none (suc k) cs e = e ∙ ap (drop (suc k)) (sym e)

pub chars_none : (t : List ℕ) → length t ≡ 0 → chars t ≡ []
chars_none t e = ap chars (nil_from_length t e) ∙ chars-nil

-- the end after some characters of a text
pub ruleset ends_behind = (end_self, end_of_end, end_behind, chars_none, drop_cons, drop_none)

-- one offset more
at_most : (k n : ℕ) → k < n + 1 → (k < n) ⊎ (k ≡ n)
at_most k zero h = inr (omega arith)
at_most zero (suc n) h = inl (omega arith)
at_most (suc k) (suc n) h = elim (at_most k n (omega arith)) [ inl l ↦ inl (omega arith) | inr e ↦ inr (ap suc e) ]

here : (text rest : List ℕ) (n : ℕ) → IsUtf8 rest → IsEndOf text rest → chars rest ≡ drop (n * 8) (chars text) → IsOffset text (n * 8)
    (length text - length rest)
here text rest n u e cs = record {
  boundary = IsCharBoundary-from_drop text (length text - length rest) (omega arith) (subst IsUtf8 (sym e.same) u);
  rest = ap chars e.same ∙ cs;
}

pub offset_more : (text rest : List ℕ) (offsets new : List ℕ) (x : ℕ) → IsUtf8 rest → IsEndOf text rest → chars rest ≡ drop (length offsets * 8) (chars text)
    → x ≡ length text - length rest → new ≡ offsets ++ x ∷ [] → AreOffsets text offsets → AreOffsets text new
offset_more text rest offsets new x u e cs at pushed old k h =
    let n : length new ≡ length offsets + 1 = ap length pushed ∙ length-append offsets (x ∷ []) in
    elim (at_most k (length offsets) (omega arith)) [
      | inl l ↦ subst (IsOffset text (k * 8)) (sym (ap (λ xs. get_or xs k 0) pushed ∙ get_or-append offsets (x ∷ []) 0 k l)) (old k l)
      | inr s ↦ subst (λ i. IsOffset text (i * 8) (get_or new i 0)) (sym s)
          (subst (IsOffset text (length offsets * 8)) (sym (ap (λ xs. get_or xs (length offsets) 0) pushed ∙ get_or-append_seam offsets x [] 0 ∙ at))
          (here text rest (length offsets) u e cs))
    ]

pub chars_more : (offsets new text rest behind : List ℕ) (x : ℕ) → chars rest ≡ drop (length offsets * 8) (chars text) → chars behind ≡ drop 8 (chars rest)
    → new ≡ offsets ++ x ∷ [] → chars behind ≡ drop (length new * 8) (chars text)
chars_more offsets new text rest behind x e f pushed =
    let n : length new ≡ length offsets + 1 = ap length pushed ∙ length-append offsets (x ∷ []) in
    let k : length offsets * 8 + 8 ≡ length new * 8 = omega arith in
    f ∙ ap (drop 8) e ∙ drop-drop 8 (length offsets * 8) (chars text) ∙ ap (λ i. drop i (chars text)) k
