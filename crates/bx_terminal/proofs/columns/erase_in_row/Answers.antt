use Rattle.std.proofs.Common.{◌∙◌}
use Rattle.bx_grid.specs.Columns.{blank}
use Rattle.bx_terminal.proofs.Pieces.{row_erased}
use Rattle.bx_terminal.proofs.Uncut.{seen_take}
use Rattle.bx_terminal.proofs.columns.erase_in_row.Goals as goal

pub returns : goal.returns
returns c = c.fill_blank.ensures ∙ row_erased c.args.row.now c.forget_left.new.row c.args.from blank c.requires.inside c.forget_left.ensures

pub forget_left-requires : goal.forget_left-requires
forget_left-requires c = seen_take c.args.row.now c.args.from c.requires.uncut
