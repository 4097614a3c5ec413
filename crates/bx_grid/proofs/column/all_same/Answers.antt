use Rattle.std.proofs.Common.{◌≡◌, ◌↔◌, false, true, IsTrue, map, refl, ap, sym, ◌∙◌, arith}
use Rattle.std.proofs.lemmas.List.{take_all}
use Rattle.bx_grid.specs.Seen.{seen}
use Rattle.bx_grid.proofs.Equal.{same_are_equal}
use Rattle.bx_grid.proofs.Grids.{same_at}
use Rattle.bx_grid.proofs.column.all_same.Goals as goal

differ : (c : goal.Then-not-same) → IsTrue false ↔ (map seen c.args.columns.now ≡ map seen c.args.others.now)
differ c = (
  λ f. absurd (cc f),
  λ e. rw c.if-not-same.true at
      (c.same.ensures.same.1 (same_at c.args.columns.now c.args.others.now c.loop-i.i c.index-columns-i.result c.index-others-i.result
      (omega arith) (omega arith) c.index-columns-i.is c.index-others-i.is e)),
)

pub returns-then-not-same : goal.returns-then-not-same
returns-then-not-same c = record { same = differ c; equal = same_are_equal false (map seen c.args.columns.now) (map seen c.args.others.now) (differ c) }

pub returns-clause-equal : goal.returns-clause-equal
returns-clause-equal c =
    let columns = c.args.columns.now in
    let others = c.args.others.now in
    let same : map seen columns ≡ map seen others =
    ap (map seen) (sym (take_all c.loop-i.i columns (omega arith))) ∙ c.loop-i.invariant ∙ ap (map seen) (take_all c.loop-i.i others (omega arith)) in
    same_are_equal true (map seen columns) (map seen others) (λ _. same, λ _. refl)
