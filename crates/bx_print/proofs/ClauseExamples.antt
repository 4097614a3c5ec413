-- An example from the clause about write faults alone.
use Rattle.std.proofs.Common.{◌≡◌, ℕ, List, [], ◌++◌, length, take, Some, sym, ap, ◌∙◌}
use Rattle.std.specs.Prelude.{codes}
use Rattle.std.proofs.lemmas.List.{take_at}
use Rattle.bx_bytes.specs.Writing.{WritesFront}

-- a writer that holds two bytes of a page holds its first two
pub of_front : (held : List ℕ) → WritesFront (codes "ab\ncd") (Some []) (Some held) → length held ≡ 2 → held ≡ codes "ab"
of_front held h count =
    let front : codes "ab\ncd" ≡ held ++ h.1 = h.2.parts ∙ ap (λ xs. xs ++ h.1) (sym h.2.appends) in
    sym (take_at held h.1 2 count) ∙ ap (take 2) (sym front)
