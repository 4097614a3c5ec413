use Rattle.std.proofs.Common.{sym, ◌∙◌}
use Rattle.std.proofs.lemmas.Result.{on_ok_weaker}
use Rattle.bx_grid.specs.Columns.{run_columns}
use Rattle.bx_terminal.proofs.Pieces.{row_shown}
use Rattle.bx_grid.proofs.Puts.{run_length}
use Rattle.bx_terminal.proofs.Uncut.{seen_take}
use Rattle.bx_terminal.proofs.Pieces.{right_uncut}
use Rattle.bx_terminal.proofs.columns.show_in_row.Goals as goal

pub returns : goal.returns
returns c =
    on_ok_weaker c.put_glyphs.result
    (λ e. e ∙ row_shown c.args.row.now c.forget_left.new.row c.forget_right.new.row c.args.from c.args.run.width (run_columns c.args.run.negative c.args.run.text.now)
    (run_length c.args.run.negative c.args.run.text.now ∙ sym c.args.run.measured) c.requires.inside c.forget_left.ensures c.forget_right.ensures)
    c.put_glyphs.ensures.ok

pub forget_left-requires : goal.forget_left-requires
forget_left-requires c = seen_take c.args.row.now c.args.from c.requires.uncut

pub forget_right-requires : goal.forget_right-requires
forget_right-requires c = right_uncut c.args.row.now c.forget_left.new.row c.args.from c.args.run.width c.requires.inside c.forget_left.ensures c.requires.uncut
