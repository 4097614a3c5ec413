use Rattle.std.proofs.Common.{◌∙◌, ◌++◌, ◌≤◌, ap, arith, drop, length, map, sym, take_all}
use Rattle.std.proofs.lemmas.List.{append-nil, drop_all, length-map}
use Rattle.bx_grid.specs.Seen.{seen, all_seen}
use Rattle.bx_grid.specs.Columns.{turned}
use Rattle.bx_grid.proofs.TurnedWhole.{turned-more}
use Rattle.bx_grid.proofs.turning.turn_all.Goals as goal

pub loop-column-preserved : goal.loop-column-preserved
loop-column-preserved c =
    turned-more c.loop-column.columns c.args.columns.now c.loop-column.column-index c.column-item.result c.turn.new.self
    (omega (arith, c.loop-column-test.true)) (omega (arith, c.loop-column.auto.columns)) c.loop-column.invariant c.column-item.is
    (c.turn.ensures ∙ ap (λ x. turned (seen x)) (sym c.column-item.is))

pub returns : goal.returns
returns c =
    let old = all_seen c.args.columns.now in
    let i = c.loop-column.column-index in
    let past : length old ≤ i = omega (arith, c.loop-column.auto.column-index-end, length-map c.args.columns.now seen) in
    c.loop-column.invariant ∙ ap (λ cs. map turned cs ++ drop i old) (take_all i old past) ∙ ap (λ cs. map turned old ++ cs) (drop_all i old past)
    ∙ append-nil (map turned old)
