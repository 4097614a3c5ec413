use Rattle.std.proofs.Common.{◌≡◌, ◌++◌, ℕ, List}
use Rattle.bx_session.proofs.saving.is_text.Given as goal

abbrev pub invariant-loop-piece : goal.invariant-loop-piece
invariant-loop-piece l =
    goal.iterator-loop-piece.can_next l.piece-iterator
    × goal.iterator-loop-piece.is_finite l.piece-iterator
    × ((done : List ℕ) × (l.fn.pieces ≡ done ++ l.piece-iterator) × (l.bytes ≡ done ++ l.rest))
