use Rattle.std.proofs.Common.{arith, rules}
use Rattle.bx_text.specs.pieces.Tree.{sequence, depth_of, IsShallow}
use Rattle.bx_text.proofs.pieces_lemmas.Depths.{small_depth}
use Rattle.bx_text.proofs.pieces.tree.height.Goals as goal

pub returns-in-Some-clause-small : goal.returns-in-Some-clause-small
returns-in-Some-clause-small c =
    let shallow : IsShallow (depth_of c.args.tree.now) (sequence c.args.tree.now) = search rules in
    small_depth (depth_of c.args.tree.now) (sequence c.args.tree.now) shallow (omega (arith, c.len-len.ensures, c.len-len.type_inv))
