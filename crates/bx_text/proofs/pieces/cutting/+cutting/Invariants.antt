use Rattle.std.proofs.Common.{◌+◌, ◌*◌, max}
use Rattle.bx_text.specs.pieces.Tree.{depth_of}
use Rattle.bx_text.proofs.pieces.cutting.+cutting.Given as goal

abbrev pub decreases-cut : goal.decreases-cut
decreases-cut l = 2 * depth_of l.tree

abbrev pub decreases-cut_fork : goal.decreases-cut_fork
decreases-cut_fork l = 2 * max (depth_of l.left) (depth_of l.right) + 1
