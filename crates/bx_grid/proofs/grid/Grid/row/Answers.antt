use Rattle.std.proofs.Common.{◌*◌, take, drop, ap, ◌∙◌}
use Rattle.bx_grid.specs.Grid.{GridState}
use Rattle.bx_grid.proofs.Grids.{row_seen, row_codes}
use Rattle.bx_grid.proofs.grid.Grid.row.Goals as goal

pub new-requires : goal.new-requires
new-requires c =
    rw (c.deref-2.ensures.value, c.deref.ensures.value) (row_codes _ _ c.self.inside.columns.items c.self.inside.codes.items c.self.invariant.1)

pub returns-clause-row : goal.returns-clause-row
returns-clause-row c =
    (rw (c.deref.ensures.value) at c.new.ensures)
    ∙ row_seen c.args.row c.self.inside.width c.self.inside.columns.items
    ∙ ap (λ (g : GridState). take g.width (drop (c.args.row * g.width) g.columns)) c.self.view_is
