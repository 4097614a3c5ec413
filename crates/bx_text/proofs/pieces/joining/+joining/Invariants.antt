use Rattle.std.proofs.Common.{◌+◌, ◌*◌}
use Rattle.bx_text.specs.pieces.Tree.{depth_of}
use Rattle.bx_text.proofs.pieces.joining.+joining.Given as goal

abbrev pub decreases-join : goal.decreases-join
decreases-join l = 2 * (depth_of l.left + depth_of l.right) + 1

abbrev pub decreases-join_into_right : goal.decreases-join_into_right
decreases-join_into_right l = 2 * (depth_of l.left + l.right.value.depth)

abbrev pub decreases-join_into_left : goal.decreases-join_into_left
decreases-join_into_left l = 2 * (l.left.value.depth + depth_of l.right)
