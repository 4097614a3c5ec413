-- The rest has the parts that are not skipped yet.
use Rattle.std.proofs.Common.{◌≡◌, drop}
use Rattle.std.specs.Prelude.{◌==◌}
use Rattle.std.specs.List.{slice_split}
use Rattle.bx_ucd.proofs.parts.skip_parts.Given as goal

abbrev pub invariant-loop : goal.invariant-loop
invariant-loop l = drop l.counter (slice_split (λ b. b == l.separator) l.text) ≡ slice_split (λ b. b == l.separator) l.rest
