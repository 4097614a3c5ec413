use Rattle.std.proofs.Common.{◌+◌, ◌≤◌, List, length, take, subst, sym, arith}
use Rattle.std.proofs.lemmas.List.{length-map, length-take-le}
use Rattle.bx_grid.specs.Columns as spec
use Rattle.bx_grid.specs.Grid.{AreSameAround}
use Rattle.bx_grid.specs.Seen.{seen, all_seen}
use Rattle.bx_grid.proofs.Copied.{copied_over}
use Rattle.bx_grid.proofs.Pasted.{paste_around, err_always}
use Rattle.bx_grid.proofs.rows.copy_over.Goals as goal

pub loop-next-preserved : goal.loop-next-preserved
loop-next-preserved c =
    let old = all_seen c.args.columns.now in
    let fits : c.args.from + length c.args.others.now ≤ length old = omega (arith, c.requires.inside, length-map c.args.columns.now seen) in (
      c.copy_short-next-in-loop-next.ensures.most,
      c.copy_short-next-in-loop-next.ensures.put old fits
          (copied_over c.loop-next.columns old c.args.from c.loop-next.next c.args.others.now c.in_ok-columns.field-0 c.index-others-next.result
          fits c.loop-next-test.true c.loop-next.invariant.1 c.index-others-next.is c.in_ok-columns.ensures),
    )

pub returns-in_err-columns-clause-err : goal.returns-in_err-columns-clause-err
returns-in_err-columns-clause-err c =
    let old = all_seen c.args.columns.now in
    let others = c.args.others.now in
    let some = all_seen (take c.loop-next.next others) in
    let few : length some ≤ length others =
    omega (
      arith,
      c.loop-next-test.true,
      length-map (take c.loop-next.next others) seen,
      length-take-le c.loop-next.next others (omega (arith, c.loop-next-test.true)),
    ) in
    err_always _ _ (subst (λ (cs : List spec.Col). AreSameAround c.args.from (length others) old cs) (sym c.loop-next.invariant.1)
    (paste_around old some c.args.from (length others) few (omega (arith, c.requires.inside, length-map c.args.columns.now seen))))
