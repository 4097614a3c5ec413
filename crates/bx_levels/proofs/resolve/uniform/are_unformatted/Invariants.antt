-- Whether the classes so far pass, and the rest.
use Rattle.std.proofs.Common.{◌≡◌, drop}
use Rattle.std.specs.Prelude.{◌&&◌}
use Rattle.bx_levels.specs.resolve.Uniform.{is_unformatted, all_pass}
use Rattle.bx_levels.proofs.resolve.uniform.are_unformatted.Given as goal

abbrev pub invariant-loop-class : goal.invariant-loop-class
invariant-loop-class l = all_pass is_unformatted l.classes ≡ (l.all && all_pass is_unformatted (drop l.class-index l.classes))
