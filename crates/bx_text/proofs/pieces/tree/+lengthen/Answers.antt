use Rattle.std.proofs.Common.{◌≡◌, refl, ap, sym, ◌∙◌, ◌+◌, Some, length, arith}
use Rattle.std.specs.Box.{with_value}
use Rattle.bx_text.specs.pieces.Pieces.{total}
use Rattle.bx_text.specs.pieces.Tree.{Shape, sequence, depth_of}
use Rattle.bx_text.proofs.pieces_lemmas.Depths.{balanced_longer}
use Rattle.bx_text.proofs.pieces_lemmas.Ends.{total_longer, length_longer}
use Rattle.bx_text.proofs.pieces.tree.+lengthen.Goals as goal

pub invariant_of-tree : goal.invariant_of-tree
invariant_of-tree t c =
    balanced_longer c.tree.inside.left c.tree.inside.piece (record c.tree.inside.piece { len = c.tree.inside.piece.len + c.args.by })
    c.tree.inside.right c.tree.inside.right c.tree.inside.len c.args.by c.tree.inside.height c.tree.invariant refl (omega arith) (omega arith) refl

pub invariant_of-tree-in-Some : goal.invariant_of-tree-in-Some
invariant_of-tree-in-Some t c =
    let old : c.deref_mut.result.now ≡ c.in-Some.right.value = c.deref_mut.ensures.value in
    let longer_pieces = c.lengthen.ensures.longer in
    balanced_longer c.tree.inside.left c.tree.inside.piece c.tree.inside.piece
    c.tree.inside.right (Some (with_value c.in-Some.right c.lengthen.new.tree)) c.tree.inside.len c.args.by c.tree.inside.height c.tree.invariant
    (c.lengthen.ensures.depth ∙ ap (λ (s : Shape). s.depth) old ∙ sym (ap depth_of c.in-Some.is))
    (omega arith)
    (omega (
      arith,
      ap total c.lengthen.ensures.longer,
      total_longer c.deref_mut.result.now.pieces c.args.by c.lengthen.ensures.some,
      ap (λ (s : Shape). total s.pieces) old,
      ap (λ o. total (sequence o)) c.in-Some.is,
    ))
    (ap length c.lengthen.ensures.longer ∙ length_longer c.deref_mut.result.now.pieces c.args.by ∙ ap (λ (s : Shape). length s.pieces) old
    ∙ sym (ap (λ o. length (sequence o)) c.in-Some.is))
