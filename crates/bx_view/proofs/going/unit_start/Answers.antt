use Rattle.std.proofs.Common.{◌∙◌, refl, sym, arith, inl, inr}
use Rattle.std.proofs.lemmas.Str.{IsCharBoundary-start}
use Rattle.bx_view.proofs.UnitSteps.{reached}
use Rattle.bx_view.proofs.going.unit_start.Goals as goal

pub loop-left-init : goal.loop-left-init
loop-left-init c = record { bound = IsCharBoundary-start c.args.body.now c.utf8.body; same = refl }

pub returns-else-at-body-clause-place : goal.returns-else-at-body-clause-place
returns-else-at-body-clause-place c =
    reached c.args.body.now c.loop-left.at c.loop-left.left c.loop-left.invariant.bound (inr (omega (arith, c.if-at-body.false)))
    ∙ sym c.loop-left.invariant.same

pub returns-after-loop-left-clause-place : goal.returns-after-loop-left-clause-place
returns-after-loop-left-clause-place c =
    reached c.args.body.now c.loop-left.at c.loop-left.left c.loop-left.invariant.bound (inl (omega (arith, c.loop-left-test.false)))
    ∙ sym c.loop-left.invariant.same
