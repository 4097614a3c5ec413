-- A text of few bytes has few characters, and its sequences few indexes.
use Rattle.std.proofs.Common.{◌≡◌, ◌≤◌, ℕ, List, ◌∷◌, length, chars, IsUtf8, ap, subst, arith}
use Rattle.std.specs.Prelude.{All}
use Rattle.std.proofs.lemmas.List.Elements.{All-head, All-tail}
use Rattle.std.proofs.lemmas.Str.{length-le-encodes, encodes-chars}
use Rattle.bx_levels.specs.embedding.Sequences.{RunSequence}

pub few_chars : (bs : List ℕ) → IsUtf8 bs → length (chars bs) ≤ length bs
few_chars bs utf8 = omega (arith, length-le-encodes (chars bs), ap length (encodes-chars bs utf8))

-- of the sequences left, the next one and the ones after it
pub next_is_few : (n : ℕ) (left rest : List RunSequence) (s : RunSequence) → All (λ (u : RunSequence). length u.indexes ≤ n) left → left ≡ s ∷ rest
    → length s.indexes ≤ n
next_is_few n left rest s a e = All-head (λ (u : RunSequence). length u.indexes ≤ n) s rest (subst (All (λ (u : RunSequence). length u.indexes ≤ n)) e a)

pub others_are_few : (n : ℕ) (left rest : List RunSequence) (s : RunSequence) → All (λ (u : RunSequence). length u.indexes ≤ n) left → left ≡ s ∷ rest
    → All (λ (u : RunSequence). length u.indexes ≤ n) rest
others_are_few n left rest s a e = All-tail (λ (u : RunSequence). length u.indexes ≤ n) s rest (subst (All (λ (u : RunSequence). length u.indexes ≤ n)) e a)
