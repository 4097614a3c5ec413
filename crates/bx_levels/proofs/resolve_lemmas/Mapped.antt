-- Elements that are written one after another, each by another list's.
use Rattle.std.proofs.Common.{◌≡◌, ◌<◌, ◌≤◌, ◌+◌, ◌∙◌, ℕ, List, [], ◌∷◌, ◌++◌, map, length, get_or, take, set, ap, ap₂, sym, arith, take_all}
use Rattle.std.proofs.lemmas.List.{map-append, take_more, take_more_set}

pub mapped_more : {A B : Type 0} (f : A → B) (ts : List A) (xs : List B) (i : ℕ) (d : A) (x : B) → i < length xs → i < length ts → x ≡ f (get_or ts i d)
    → take i xs ≡ map f (take i ts) → take (i + 1) (set xs i x) ≡ map f (take (i + 1) ts)
mapped_more f ts xs i d x h k e same =
    take_more_set xs i x h ∙ ap₂ (λ a b. a ++ b ∷ []) same e ∙ sym (map-append f (take i ts) (get_or ts i d ∷ []))
    ∙ ap (map f) (sym (take_more ts i d k))

pub mapped_all : {A B : Type 0} (f : A → B) (ts : List A) (xs : List B) (i : ℕ) → length xs ≡ length ts → length ts ≤ i → take i xs ≡ map f (take i ts)
    → xs ≡ map f ts
mapped_all f ts xs i e h same = sym (take_all i xs (omega arith)) ∙ same ∙ ap (map f) (take_all i ts h)
