-- Where a text may be cut between characters, and what parts of it are made of.
use Rattle.std.proofs.Common.{◌≡◌, ℕ, ◌+◌, ◌-◌, ◌≤◌, List, ◌++◌, length, take, drop, refl, ap, subst, ◌∙◌, append_assoc, length-append, arith}
use Rattle.std.proofs.lemmas.List.{length-take-le, length-drop, get_or_append_left, get_or-append_right, get_or-drop}
use Rattle.std.proofs.lemmas.Str.{IsUtf8-append, IsUtf8-drop, IsCharBoundary-at_seam}
use Rattle.std.specs.Str.{IsUtf8, IsCharBoundary}
use Rattle.bx_text.specs.Edits.{splice}
use Rattle.bx_text.specs.Changes.{IsRange}

-- an offset in one of two texts that are joined
pub IsCharBoundary-left : (xs ys : List ℕ) (k : ℕ) → k ≤ length xs → IsCharBoundary (xs ++ ys) k → IsCharBoundary xs k
IsCharBoundary-left xs ys k h c =
    (h, λ inside high. omega (arith, get_or_append_left xs ys 0 k inside, length-append xs ys, c.1))

pub IsCharBoundary-right : (xs ys : List ℕ) (n k : ℕ) → length xs ≡ n → n ≤ k → IsCharBoundary (xs ++ ys) k → IsCharBoundary ys (k - n)
IsCharBoundary-right xs ys n k e h c =
    (omega (arith, length-append xs ys, c.0), λ inside high. omega (arith, get_or-append_right xs ys n k 0 e h, length-append xs ys, c.1))

pub IsCharBoundary-drop : (xs : List ℕ) (i k : ℕ) → IsCharBoundary xs (i + k) → IsCharBoundary (drop i xs) k
IsCharBoundary-drop xs i k c =
    (omega (arith, length-drop i xs, c.0), λ inside high. omega (arith, get_or-drop i xs k 0, length-drop i xs, c.1))

-- the inserted bytes are between two boundaries
pub IsRange-splice : (text new : List ℕ) (start len : ℕ) → IsUtf8 text → IsUtf8 new → IsRange text start (start + len)
    → IsRange (splice text start (start + len) new) start (start + length new)
IsRange-splice text new start len utf8 more r =
    let rest : IsUtf8 (drop (start + len) text) = IsUtf8-drop text (start + len) utf8 r.stop_bounds in
    let before : length (take start text) ≡ start = length-take-le start text (omega (arith, r.start_bounds.0)) in
    let t : List ℕ = splice text start (start + len) new in
    record {
      start_bounds = subst (IsCharBoundary t) before
          (IsCharBoundary-at_seam t (take start text) (new ++ drop (start + len) text) (append_assoc (take start text) new (drop (start + len) text))
          (IsUtf8-append new (drop (start + len) text) more rest));
      stop_bounds = subst (IsCharBoundary t) (length-append (take start text) new ∙ ap (λ n. n + length new) before)
          (IsCharBoundary-at_seam t (take start text ++ new) (drop (start + len) text) refl rest);
      in_order = omega arith;
    }
