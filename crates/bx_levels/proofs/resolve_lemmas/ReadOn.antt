-- A loop over the characters of a text that adds a value for each.
use Rattle.std.proofs.Common.{◌≡◌, ℕ, ◌+◌, ◌<◌, ◌≤◌, ◌∙◌, ◌++◌, [], ◌∷◌, List, map, length, get_or, take, sym, ap, ap₂, take_all}
use Rattle.std.proofs.lemmas.List.{map-append, take_more}

module _ {A : Type 0} (f : ℕ → A) where
  pub one_more : (cs : List ℕ) (k n c : ℕ) (x : A) (items new : List A) → (k < length cs) × (c ≡ get_or cs k c) → n ≡ k + 1 → x ≡ f c
      → items ≡ map f (take k cs) → new ≡ items ++ x ∷ [] → new ≡ map f (take n cs)
  one_more cs k n c x items new at one e i pushed =
      pushed ∙ ap₂ (λ xs y. xs ++ y ∷ []) i (e ∙ ap f at.1) ∙ sym (map-append f (take k cs) (get_or cs k c ∷ []))
      ∙ ap (map f) (sym (take_more cs k c at.0)) ∙ ap (λ m. map f (take m cs)) (sym one)

  pub read_all : (cs : List ℕ) (k : ℕ) (items : List A) → items ≡ map f (take k cs) → length cs ≤ k → items ≡ map f cs
  read_all cs k items i all = i ∙ ap (map f) (take_all k cs all)

pub char_more : (cs : List ℕ) (k n c : ℕ) (items new : List ℕ) → (k < length cs) × (c ≡ get_or cs k c) → n ≡ k + 1 → items ≡ take k cs → new ≡ items ++ c ∷ []
    → new ≡ take n cs
char_more cs k n c items new at one i pushed =
    pushed ∙ ap₂ (λ xs y. xs ++ y ∷ []) i at.1 ∙ sym (take_more cs k c at.0) ∙ ap (λ m. take m cs) (sym one)

pub chars_read : (cs : List ℕ) (k : ℕ) (items : List ℕ) → items ≡ take k cs → length cs ≤ k → items ≡ cs
chars_read cs k items i all = i ∙ take_all k cs all
