-- The types changed so far, and those left to change. From index `k` on nothing is changed.
use Rattle.std.proofs.Common.{◌≡◌, ◌++◌, take, drop}
use Rattle.bx_levels.specs.brackets.Resolve.{change_bracket, change_nsms}
use Rattle.bx_levels.specs.brackets.Clear.{AreSameFrom}
use Rattle.bx_levels.proofs.brackets.resolve.change_bracket.Given as goal

abbrev pub invariant-loop-k : goal.invariant-loop-k
invariant-loop-k l = record {
  value : change_bracket l.d l.was_nsm l.fn.types l.fn.p
      ≡ take l.k l.types ++ change_nsms l.d (drop l.k l.was_nsm) (drop l.k l.types);
  rest : AreSameFrom l.k l.fn.types l.types;
}
