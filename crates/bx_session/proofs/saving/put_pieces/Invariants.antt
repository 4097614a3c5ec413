use Rattle.std.proofs.Common.{◌≡◌, true}
use Rattle.bx_store.specs.Stores.{with_bytes}
use Rattle.bx_session.proofs.saving.put_pieces.Given as goal

abbrev pub invariant-loop-piece : goal.invariant-loop-piece
invariant-loop-piece g l =
    (goal.iterator-loop-piece g).can_next l.piece-iterator
    × (goal.iterator-loop-piece g).is_finite l.piece-iterator
    × (g.S.Store.has_draft l.store ≡ true)
    × (with_bytes l.piece-iterator (g.S.Store.draft l.store) ≡ with_bytes l.fn.pieces (g.S.Store.draft l.fn.store))
    × (g.S.Store.contents l.store ≡ g.S.Store.contents l.fn.store)
    × (g.S.Store.faults l.store ≡ g.S.Store.faults l.fn.store)
