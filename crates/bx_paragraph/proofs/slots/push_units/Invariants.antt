-- The slots so far, and those of the units after, are all; the columns after have room.
use Rattle.std.proofs.Common.{◌≡◌, ◌+◌, ◌≤◌, ◌++◌, drop, map}
use Rattle.bx_common.specs.Characters.{largest_side}
use Rattle.bx_paragraph.specs.OrderedColumns.{ordered_columns}
use Rattle.bx_paragraph.specs.Slots.{extent_of, side_by_side}
use Rattle.bx_paragraph.proofs.slots.push_units.Given as goal

abbrev pub invariant-loop-number : goal.invariant-loop-number
invariant-loop-number l = record {
  all : l.slots.items ++ side_by_side l.column (map (extent_of l.units l.columns) (drop l.number-index l.order))
      ≡ l.initial.slots.items ++ side_by_side l.at (map (extent_of l.units l.columns) l.order);
  room : l.column + ordered_columns l.columns (drop l.number-index l.order) ≤ largest_side + 1;
}
