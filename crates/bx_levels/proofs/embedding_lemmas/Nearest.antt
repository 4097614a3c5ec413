-- The kept characters beside a sequence.
use Rattle.std.proofs.Common.{◌≡◌, ◌<◌, ◌≤◌, ◌+◌, ◌∙◌, ℕ, List, [], ◌∷◌, length, get_or, drop, take, reverse, ap, sym, arith, Option, Some, None}
use Rattle.std.proofs.lemmas.List.{at_drop_more, take_more, reverse-append}
use Rattle.std.proofs.Math.Seq.{drop-length}
use Rattle.bx_levels.specs.declared.embedding.entry.ExplicitChar.{ExplicitChar}
use Rattle.bx_levels.specs.embedding.Sequences.{level_of_first}

pub first_more : (paragraph : ℕ) (kept : List (Option ExplicitChar)) (i : ℕ) → i < length kept → get_or kept i None ≡ None
    → level_of_first paragraph (drop i kept) ≡ level_of_first paragraph (drop (i + 1) kept)
first_more paragraph kept i h e = at_drop_more (level_of_first paragraph) kept i None h ∙ ap (λ o. level_of_first paragraph (o ∷ drop (i + 1) kept)) e

pub first_here : (paragraph : ℕ) (kept : List (Option ExplicitChar)) (i : ℕ) (c : ExplicitChar) → i < length kept → get_or kept i None ≡ Some c
    → level_of_first paragraph (drop i kept) ≡ c.level
first_here paragraph kept i c h e = at_drop_more (level_of_first paragraph) kept i None h ∙ ap (λ o. level_of_first paragraph (o ∷ drop (i + 1) kept)) e

pub first_none : (paragraph : ℕ) (kept : List (Option ExplicitChar)) → level_of_first paragraph (drop (length kept) kept) ≡ paragraph
first_none paragraph kept = rw drop-length

last_first : (kept : List (Option ExplicitChar)) (i j : ℕ) → j + 1 ≡ i → i ≤ length kept → reverse (take i kept) ≡ get_or kept j None ∷ reverse (take j kept)
last_first kept i j e h = ap (λ k. reverse (take k kept)) (sym e) ∙ ap reverse (take_more kept j None (omega arith))
    ∙ reverse-append (take j kept) (get_or kept j None ∷ [])

pub before_more : (paragraph : ℕ) (kept : List (Option ExplicitChar)) (i j : ℕ) → j + 1 ≡ i → i ≤ length kept → get_or kept j None ≡ None
    → level_of_first paragraph (reverse (take i kept)) ≡ level_of_first paragraph (reverse (take j kept))
before_more paragraph kept i j e h n = ap (level_of_first paragraph) (last_first kept i j e h)
    ∙ ap (λ o. level_of_first paragraph (o ∷ reverse (take j kept))) n

pub before_here : (paragraph : ℕ) (kept : List (Option ExplicitChar)) (i j : ℕ) (c : ExplicitChar) → j + 1 ≡ i → i ≤ length kept → get_or kept j None ≡ Some c
    → level_of_first paragraph (reverse (take i kept)) ≡ c.level
before_here paragraph kept i j c e h n = ap (level_of_first paragraph) (last_first kept i j e h)
    ∙ ap (λ o. level_of_first paragraph (o ∷ reverse (take j kept))) n
