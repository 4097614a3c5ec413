-- Which of the types so far are NSM.
use Rattle.std.proofs.Common.{◌≡◌, length, map, take}
use Rattle.bx_ucd.specs.Class.{is_nsm}
use Rattle.bx_levels.proofs.resolve.scratch.note_each_nsm.Given as goal

abbrev pub invariant-loop-i : goal.invariant-loop-i
invariant-loop-i l = record {
  count : length l.nsms ≡ length l.types;
  same : take l.i l.nsms ≡ map is_nsm (take l.i l.types);
}
