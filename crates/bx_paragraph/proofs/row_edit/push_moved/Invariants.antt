-- The rows so far and those still to be appended; there is room for these.
use Rattle.std.proofs.Common.{◌≡◌, ◌+◌, ◌-◌, ◌≤◌, ◌++◌, drop, length, map, vec_capacity, vec_len}
use Rattle.bx_rows.specs.LaterRows.{moved}
use Rattle.bx_paragraph.proofs.row_edit.push_moved.Given as goal

abbrev pub invariant-loop-start : goal.invariant-loop-start
invariant-loop-start l = record {
  items : l.starts.items ++ map (moved l.old l.new) (drop l.start-index l.rest) ≡ l.initial.starts.items ++ map (moved l.old l.new) l.rest;
  room : vec_len l.starts + (length l.rest - l.start-index) ≤ vec_capacity l.starts;
}
