use Rattle.std.proofs.Common.{◌≡◌, ◌+◌, length, arith, refl, ap, replicate, ◌∙◌}
use Rattle.std.proofs.lemmas.List.{length-map}
use Rattle.bx_grid.specs.Columns.{Unknown}
use Rattle.bx_grid.specs.Grid.{paste}
use Rattle.bx_grid.specs.declared.column.Column.TheVariants as column
use Rattle.bx_grid.specs.Seen.{seen, all_seen}
use Rattle.bx_grid.proofs.Puts.{filled_more}
use Rattle.bx_terminal.proofs.PutAll.{put_all}
use Rattle.bx_terminal.proofs.columns.fill_unknown.Goals as goal

pub loop-column-preserved : goal.loop-column-preserved
loop-column-preserved c =
    filled_more c.loop-column.columns (all_seen c.args.columns.now) 0 c.loop-column.column-index c.loop-column.column-index (c.loop-column.column-index + 1)
    Unknown column.Unknown
    (omega arith) (omega arith)
    (omega (arith, length-map c.args.columns.now seen)) c.loop-column.invariant refl

pub returns : goal.returns
returns c =
    let count : c.loop-column.column-index ≡ length c.args.columns.now = omega (arith, c.loop-column.auto.column-index-end) in
    c.loop-column.invariant
    ∙ ap (λ n. paste (all_seen c.args.columns.now) 0 (replicate n Unknown)) count
    ∙ put_all (all_seen c.args.columns.now) (length c.args.columns.now) Unknown (length-map c.args.columns.now seen)
