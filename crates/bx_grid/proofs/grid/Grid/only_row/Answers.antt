use Rattle.std.proofs.Common.{◌∙◌}
use Rattle.bx_grid.proofs.RowsPut.{all_of_one, length_of_one}
use Rattle.bx_grid.proofs.grid.Grid.only_row.Goals as goal

pub returns-clause-row : goal.returns-clause-row
returns-clause-row c = c.row.ensures.row ∙ all_of_one c.args.self.now c.row.ensures.sized c.requires.one

pub returns-clause-filled : goal.returns-clause-filled
returns-clause-filled c = length_of_one c.args.self.now c.row.ensures.sized c.requires.one
