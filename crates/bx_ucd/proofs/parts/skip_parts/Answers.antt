-- Each turn skips the first part of the rest.
use Rattle.std.proofs.Common.{arith, ◌∙◌}
use Rattle.std.specs.Prelude.{◌==◌}
use Rattle.std.specs.List.{slice_split}
use Rattle.bx_ucd.proofs.LineLemmas.{skipped_last, skipped_more}
use Rattle.bx_ucd.proofs.parts.skip_parts.Goals as goal

pub returns-in_default : goal.returns-in_default
returns-in_default c =
    let last = skipped_last (slice_split (λ b. b == c.args.separator) c.args.text.now) c.loop.counter _ (c.loop.invariant ∙ c.in_default.ensures) in
    omega (arith, last, c.loop-test.true)

pub loop-preserved : goal.loop-preserved
loop-preserved c =
    skipped_more (slice_split (λ b. b == c.args.separator) c.args.text.now) _ c.loop.counter _ (c.loop.invariant ∙ c.in-Some.ensures)
