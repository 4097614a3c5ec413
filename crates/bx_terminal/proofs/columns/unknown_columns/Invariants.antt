use Rattle.std.proofs.Common.{◌≡◌, ◌≤◌, replicate, vec_len, vec_capacity}
use Rattle.bx_grid.specs.Columns.{Unknown}
use Rattle.bx_grid.specs.Seen.{all_seen}
use Rattle.bx_terminal.proofs.columns.unknown_columns.Given as goal

abbrev pub invariant-loop : goal.invariant-loop
invariant-loop l =
    (all_seen l.columns.items ≡ replicate l.counter Unknown) × ((vec_len l.columns ≡ l.counter) × (l.count ≤ vec_capacity l.columns))
