use Rattle.bx_grid.specs.Columns.{run_columns}
use Rattle.bx_terminal.proofs.Pieces.{row_put}
use Rattle.bx_terminal.proofs.Uncut.{seen_row}
use Rattle.bx_terminal.proofs.columns.show_at.Goals as goal
use Rattle.std.proofs.lemmas.Result.{on_ok_weaker}

pub returns-else-is_err-clause-ok : goal.returns-else-is_err-clause-ok
returns-else-is_err-clause-ok c =
    on_ok_weaker c.show_in_row-shown.result
    (λ e. row_put c.args.columns.now c.show_in_row-shown.new.row c.args.width c.args.row c.args.from (run_columns c.args.run.negative c.args.run.text.now) e)
    c.show_in_row-shown.ensures

pub show_in_row-shown-requires-clause-uncut : goal.show_in_row-shown-requires-clause-uncut
show_in_row-shown-requires-clause-uncut c = seen_row c.args.columns.now c.args.width c.args.row c.requires.uncut
