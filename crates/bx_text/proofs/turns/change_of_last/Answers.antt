use Rattle.std.proofs.Common.{◌≡◌, ◌+◌, ◌-◌, Some, refl, ap, sym, subst, ◌∙◌, map, reverse, take, arith}
use Rattle.std.specs.List.{reduce}
use Rattle.bx_text.specs.Steps.{step_change}
use Rattle.bx_text.specs.Edits.{merged}
use Rattle.bx_text.proofs.MergedSteps.{IsSoFar, all_merged, first_so_far, next_so_far, small_after, none_left, none_wanted, one_merged, first_merged}
use Rattle.bx_text.proofs.turns.change_of_last.Goals as goal
use Rattle.bx_text.proofs.turns.change_of_last.Goals.{After-change-whole}

whole_is : (c : After-change-whole) → Some (all_merged c.args.way c.change-whole.result (c.args.n - 1) c.in_ok-step.rest.now)
    ≡ reduce merged (map (step_change c.args.way) (take c.args.n (reverse c.args.steps.now)))
whole_is c =
    ap (λ w. Some (all_merged c.args.way w (c.args.n - 1) c.in_ok-step.rest.now)) c.change-whole.ensures
    ∙ first_merged c.args.way c.args.n (c.args.n - 1) c.args.steps.now c.in_ok-step.rest.now c.in_ok-step.step.now
    (omega (arith, c.if-n-eq0.false)) c.in_ok-step.ensures.cases.0

pub loop-others-init : goal.loop-others-init
loop-others-init c = (
  refl,
  subst (λ w. IsSoFar w c.in_ok-step.rest.now) (sym c.change-whole.ensures)
      (first_so_far c.args.steps.now c.in_ok-step.rest.now c.in_ok-step.step.now c.args.way c.requires c.in_ok-step.ensures.cases.0),
)

pub returns-in_default : goal.returns-in_default
returns-in_default c =
    let l = c.loop-others in
    ap Some (sym (none_left c.args.way l.whole (c.args.n - l._others) l.rest.now c.in_default.ensures.cases) ∙ l.invariant.0)
    ∙ whole_is (goal.at.returns-in_default c).After-change-whole

pub merge-whole-requires-clause-after : goal.merge-whole-requires-clause-after
merge-whole-requires-clause-after c =
    let l = c.loop-others in
    rw c.change.ensures
    (small_after l.whole l.rest.now c.in-Some.fewer.now c.in-Some.step.now c.args.way l.invariant.1 c.in-Some.ensures.cases.0)

pub loop-others-preserved : goal.loop-others-preserved
loop-others-preserved c =
    let l = c.loop-others in
    let fewer = c.in-Some.fewer.now in
    let step = c.in-Some.step.now in
    let e = c.in-Some.ensures.cases.0 in
    let is : c.merge-whole.result ≡ merged l.whole (step_change c.args.way step) = c.merge-whole.ensures ∙ ap (merged l.whole) c.change.ensures in (
      ap (λ w. all_merged c.args.way w (c.args.n - (l._others + 1)) fewer) is
          ∙ one_merged c.args.way l.whole (c.args.n - l._others) (c.args.n - (l._others + 1)) l.rest.now fewer step (omega arith) e
          ∙ l.invariant.0,
      subst (λ w. IsSoFar w fewer) (sym is) (next_so_far l.whole l.rest.now fewer step c.args.way l.invariant.1 e),
    )

pub returns : goal.returns
returns c =
    let l = c.loop-others in
    ap Some (sym (none_wanted c.args.way l.whole (c.args.n - l._others) l.rest.now (omega (arith, c.loop-others-test.false))) ∙ l.invariant.0)
    ∙ whole_is (goal.at.returns c).After-change-whole
