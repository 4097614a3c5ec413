use Rattle.std.proofs.Common.{◌≡◌, drop}
use Rattle.std.specs.List.{list_all}
use Rattle.bx_grid.specs.Columns.{is_blank}
use Rattle.bx_grid.specs.Seen.{all_seen}
use Rattle.bx_grid.proofs.columns.all_blank.Given as goal

abbrev pub invariant-loop-column : goal.invariant-loop-column
invariant-loop-column l = list_all is_blank (all_seen l.columns) ≡ list_all is_blank (all_seen (drop l.column-index l.columns))
