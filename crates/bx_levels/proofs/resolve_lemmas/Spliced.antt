-- A list in which others take the place of all from an index on.
use Rattle.std.proofs.Common.{◌≡◌, ◌≤◌, ◌∙◌, ℕ, List, ◌++◌, length, take, ap, append-nil}
use Rattle.std.specs.List.{splice}
use Rattle.std.proofs.lemmas.List.{drop_all}

pub splice_to_end : {X : Type 0} (xs ys : List X) (first last : ℕ) → length xs ≤ last → splice xs first last ys ≡ take first xs ++ ys
splice_to_end xs ys first last h = ap (λ zs. take first xs ++ (ys ++ zs)) (drop_all last xs h) ∙ ap (λ zs. take first xs ++ zs) (append-nil ys)
