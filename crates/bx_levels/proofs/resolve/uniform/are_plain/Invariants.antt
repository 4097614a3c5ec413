use Rattle.std.proofs.Common.{◌≡◌, drop}
use Rattle.bx_levels.specs.resolve.Uniform.{is_plain, all_pass}
use Rattle.bx_levels.proofs.resolve.uniform.are_plain.Given as goal

abbrev pub invariant-loop-class : goal.invariant-loop-class
invariant-loop-class l = all_pass is_plain l.classes ≡ all_pass is_plain (drop l.class-index l.classes)
