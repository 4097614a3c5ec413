use Rattle.std.proofs.Common.{◌≡◌, ℕ, ◌+◌, ◌-◌, max, ◌∙◌, [], ◌∷◌, ◌++◌, List, sym, ap, subst, arith}
use Rattle.bx_text.specs.declared.pieces.piece.Piece.{Piece}
use Rattle.bx_text.specs.pieces.Pieces.{total, front, back, first_of, rest_of, IsAddressable}
use Rattle.bx_text.specs.pieces.Tree.{Shape, sequence, depth_of, fork}
use Rattle.bx_text.proofs.pieces_lemmas.Cuts.{total_append, total_cut, addressable_first, addressable_past, front_first, back_first, front_right, back_right, front_here}
use Rattle.bx_text.proofs.pieces_lemmas.Cuts.{back_here, front_within, back_within}
use Rattle.bx_text.proofs.pieces.cutting.+cutting.Goals as goal

pub cut-cut_fork-requires : goal.cut-cut_fork-requires
cut-cut_fork-requires t c =
    let left : List Piece = sequence c.take_apart-left.result.0 in
    let right : List Piece = sequence c.take_apart-left.result.2 in
    let same : c.in-Some.tree.value ≡ fork c.take_apart-left.result.0 c.take_apart-left.result.1 c.take_apart-left.result.2 =
    sym c.deref_mut.ensures.value ∙ c.take_apart-left.ensures.shape in
    let deep : depth_of c.args.tree ≡ max (depth_of c.take_apart-left.result.0) (depth_of c.take_apart-left.result.2) + 1 =
    ap depth_of c.in-Some.is ∙ ap (λ (s : Shape). s.depth) same in
    let pieces : sequence c.args.tree ≡ left ++ c.take_apart-left.result.1 ∷ right = ap sequence c.in-Some.is ∙ ap (λ (s : Shape). s.pieces) same in (
      omega (arith, deep, c.decreases),
      (
        c.requires.spare,
        (
          c.take_apart-left.ensures.some,
          (
            omega (arith, total_append left (c.take_apart-left.result.1 ∷ right), ap total pieces, c.requires.fits),
            subst IsAddressable pieces c.requires.addressable,
          ),
        ),
      ),
    )

pub cut_fork-cut-before-requires : goal.cut_fork-cut-before-requires
cut_fork-cut-before-requires t c = (
  omega (arith, c.decreases),
  (
    c.requires.spare,
    (omega (arith, c.requires.fits), addressable_first (sequence c.args.left) (c.args.piece ∷ sequence c.args.right) c.requires.addressable),
  ),
)

pub cut_fork-join-requires-clause-fits : goal.cut_fork-join-requires-clause-fits
cut_fork-join-requires-clause-fits t c =
    omega (arith, total_cut (sequence c.args.left) c.args.at, ap total c.cut-before.ensures.back)

pub cut_fork-returns-then-at-first-clause-front : goal.cut_fork-returns-then-at-first-clause-front
cut_fork-returns-then-at-first-clause-front t c =
    c.cut-before.ensures.front ∙ sym (front_first (sequence c.args.left) (c.args.piece ∷ sequence c.args.right) c.args.at (omega (arith, c.len-first.ensures)))

pub cut_fork-returns-then-at-first-clause-back : goal.cut_fork-returns-then-at-first-clause-back
cut_fork-returns-then-at-first-clause-back t c =
    c.join.ensures.pieces
    ∙ ap (λ (ps : List Piece). ps ++ c.args.piece ∷ sequence c.args.right) c.cut-before.ensures.back
    ∙ sym (back_first (sequence c.args.left) (c.args.piece ∷ sequence c.args.right) c.args.at (omega (arith, c.len-first.ensures)))

pub cut_fork-cut-before-requires-then-past-piece : goal.cut_fork-cut-before-requires-then-past-piece
cut_fork-cut-before-requires-then-past-piece t c = (
  omega (arith, c.decreases),
  (
    c.requires.spare,
    (omega (arith, c.requires.fits), (addressable_past (sequence c.args.left) (c.args.piece ∷ sequence c.args.right) c.requires.addressable).1),
  ),
)

pub cut_fork-join-requires-then-past-piece-clause-fits : goal.cut_fork-join-requires-then-past-piece-clause-fits
cut_fork-join-requires-then-past-piece-clause-fits t c =
    omega (arith, total_cut (sequence c.args.right) (c.args.at - c.len-first.result - c.args.piece.len), ap total c.cut-before-then-past-piece.ensures.front)

pub cut_fork-returns-then-past-piece-clause-front : goal.cut_fork-returns-then-past-piece-clause-front
cut_fork-returns-then-past-piece-clause-front t c =
    c.join-then-past-piece.ensures.pieces
    ∙ ap (λ (ps : List Piece). sequence c.args.left ++ c.args.piece ∷ ps)
    (c.cut-before-then-past-piece.ensures.front ∙ ap (λ (n : ℕ). front (sequence c.args.right) (c.args.at - n - c.args.piece.len)) c.len-first.ensures)
    ∙ sym (front_right (sequence c.args.left) c.args.piece (sequence c.args.right) c.args.at (omega (arith, c.len-first.ensures))
    (omega (arith, c.len-first.ensures)))

pub cut_fork-returns-then-past-piece-clause-back : goal.cut_fork-returns-then-past-piece-clause-back
cut_fork-returns-then-past-piece-clause-back t c =
    c.cut-before-then-past-piece.ensures.back
    ∙ ap (λ (n : ℕ). back (sequence c.args.right) (c.args.at - n - c.args.piece.len)) c.len-first.ensures
    ∙ sym (back_right (sequence c.args.left) c.args.piece (sequence c.args.right) c.args.at (omega (arith, c.len-first.ensures))
    (omega (arith, c.len-first.ensures)))

pub cut_fork-returns-then-past-eq0-clause-front : goal.cut_fork-returns-then-past-eq0-clause-front
cut_fork-returns-then-past-eq0-clause-front t c =
    sym (front_here (sequence c.args.left) c.args.piece (sequence c.args.right) c.args.at (omega (arith, c.len-first.ensures)) c.requires.some
    (omega (arith, c.len-first.ensures)))

pub cut_fork-returns-then-past-eq0-clause-back : goal.cut_fork-returns-then-past-eq0-clause-back
cut_fork-returns-then-past-eq0-clause-back t c =
    c.join-then-past-eq0.ensures.pieces
    ∙ sym (back_here (sequence c.args.left) c.args.piece (sequence c.args.right) c.args.at (omega (arith, c.len-first.ensures)) c.requires.some
    (omega (arith, c.len-first.ensures)))

pub cut_fork-split_piece-requires-clause-fits : goal.cut_fork-split_piece-requires-clause-fits
cut_fork-split_piece-requires-clause-fits t c =
    (addressable_past (sequence c.args.left) (c.args.piece ∷ sequence c.args.right) c.requires.addressable).0

pub cut_fork-returns-clause-front : goal.cut_fork-returns-clause-front
cut_fork-returns-clause-front t c =
    c.join-before.ensures.pieces
    ∙ ap (λ (halves : Piece × Piece). sequence c.args.left ++ halves.0 ∷ []) c.split_piece.ensures
    ∙ ap (λ (n : ℕ). sequence c.args.left ++ first_of c.args.piece (c.args.at - n) ∷ []) c.len-first.ensures
    ∙ sym (front_within (sequence c.args.left) c.args.piece (sequence c.args.right) c.args.at (omega (arith, c.len-first.ensures))
    (omega (arith, c.len-first.ensures)) (λ e. c.if-past-eq0.false (omega (arith, e, c.len-first.ensures))))

pub cut_fork-returns-clause-back : goal.cut_fork-returns-clause-back
cut_fork-returns-clause-back t c =
    c.join-after.ensures.pieces
    ∙ ap (λ (halves : Piece × Piece). halves.1 ∷ sequence c.args.right) c.split_piece.ensures
    ∙ ap (λ (n : ℕ). rest_of c.args.piece (c.args.at - n) ∷ sequence c.args.right) c.len-first.ensures
    ∙ sym (back_within (sequence c.args.left) c.args.piece (sequence c.args.right) c.args.at (omega (arith, c.len-first.ensures))
    (omega (arith, c.len-first.ensures)) (λ e. c.if-past-eq0.false (omega (arith, e, c.len-first.ensures))))
