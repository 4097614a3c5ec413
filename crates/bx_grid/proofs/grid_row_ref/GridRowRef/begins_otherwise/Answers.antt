use Rattle.bx_grid.specs.Seen.{all_seen}
use Rattle.bx_grid.proofs.Coded.{begin_otherwise}
use Rattle.bx_grid.proofs.grid_row_ref.GridRowRef.begins_otherwise.Goals as goal

pub returns-in-len1-up-len1-up : goal.returns-in-len1-up-len1-up
returns-in-len1-up-len1-up c test =
    rw (← c.self.view_is, ← c.other.view_is)
    (begin_otherwise (all_seen c.self.inside.columns.now) (all_seen c.other.inside.columns.now) c.self.inside.codes.now c.other.inside.codes.now
    c.self.invariant c.other.invariant test)
