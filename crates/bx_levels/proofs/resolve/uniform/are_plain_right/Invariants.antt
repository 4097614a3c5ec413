use Rattle.std.proofs.Common.{◌≡◌, drop}
use Rattle.bx_levels.specs.resolve.Uniform.{is_plain_right, all_pass}
use Rattle.bx_levels.proofs.resolve.uniform.are_plain_right.Given as goal

abbrev pub invariant-loop-class : goal.invariant-loop-class
invariant-loop-class l = all_pass is_plain_right l.classes ≡ all_pass is_plain_right (drop l.class-index l.classes)
