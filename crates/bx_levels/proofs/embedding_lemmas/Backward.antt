-- A loop that goes down through the indexes of a list: from index `i` to index `j`, the one before it.
use Rattle.std.proofs.Common.{◌≡◌, ◌≢◌, ◌<◌, ◌≤◌, ◌+◌, ◌∙◌, ℕ, zero, suc, List, length, get_or, set, drop, refl, ap, sym, arith, ◌⊎◌, inl, inr}
use Rattle.std.proofs.lemmas.List.{get_or-set_same, get_or-set_other}
use Rattle.bx_ucd.specs.declared.class.Class.{Class}
use Rattle.bx_ucd.specs.declared.class.Class.TheVariants.{L}
use Rattle.bx_levels.specs.embedding.TextLevels.{levels_before}
use Rattle.bx_levels.proofs.embedding_lemmas.Texts.{texts, texts-more}

here_or_later : (j k : ℕ) → j ≤ k → (k ≡ j) ⊎ (j + 1 ≤ k)
here_or_later zero zero h = inl refl
here_or_later zero (suc k) h = inr (omega arith)
here_or_later (suc j) zero h = absurd (omega arith)
here_or_later (suc j) (suc k) h = elim (here_or_later j k (omega arith)) [ inl e ↦ inl (ap (λ n. suc n) e) | inr l ↦ inr (omega arith) ]

-- the value written at `j` is the one wanted there
pub done_more : {A : Type 0} (want : ℕ → A) (xs : List A) (i j n : ℕ) (x d : A) → j + 1 ≡ i → i ≤ n → length xs ≡ n → x ≡ want j
    → ((k : ℕ) → i ≤ k → k < n → get_or xs k d ≡ want k) → (k : ℕ) → j ≤ k → k < n → get_or (set xs j x) k d ≡ want k
done_more {A} want xs i j n x d e h m w done k low high =
    elim (here_or_later j k low) [
      | inl s ↦ let lt : j < length xs = omega arith in ap (λ p. get_or (set xs j x) p d) s ∙ get_or-set_same xs j x d lt ∙ w ∙ ap want (sym s)
      | inr l ↦ let ne : k ≢ j = omega arith in get_or-set_other xs j k x d ne ∙ done k (omega arith) high
    ]

pub texts_back : (cs : List Class) (i j : ℕ) (t u : List ℕ) → j + 1 ≡ i → i ≤ length cs → t ≡ texts (drop i cs) → u ≡ levels_before (get_or cs j L) t
    → u ≡ texts (drop j cs)
texts_back cs i j t u e h a b = b ∙ ap (levels_before (get_or cs j L)) (a ∙ ap (λ k. texts (drop k cs)) (sym e)) ∙ sym (texts-more cs j (omega arith))
