use Rattle.std.proofs.Common.{◌∷◌, arith}
use Rattle.bx_text.specs.pieces.Tree.{sequence, depth_of}
use Rattle.bx_text.proofs.pieces_lemmas.Cuts.{total_append}
use Rattle.bx_text.proofs.pieces_lemmas.Depths.{shallow_fork}
use Rattle.bx_text.proofs.pieces.tree.Tree.new.Goals as goal

pub invariant_of-result : goal.invariant_of-result
invariant_of-result c = record {
  balanced = c.requires.balanced;
  some = c.requires.some;
  bytes = omega (arith, c.len.ensures, c.len-2.ensures, total_append (sequence c.args.left) (c.args.piece ∷ sequence c.args.right));
  depth = omega (arith, c.max-height.ensures, c.height.ensures.depth, c.height-2.ensures.depth);
  shallow = shallow_fork (depth_of c.args.left) (depth_of c.args.right) (sequence c.args.left) c.args.piece (sequence c.args.right)
      c.requires.balanced c.requires.some c.height.ensures.shallow c.height-2.ensures.shallow;
}
