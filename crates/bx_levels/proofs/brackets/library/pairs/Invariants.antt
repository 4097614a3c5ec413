-- The pairs found so far, and those that the turns find in the rest.
use Rattle.std.proofs.Common.{◌≡◌, drop, false}
use Rattle.bx_levels.specs.brackets.Pairs.{pairs}
use Rattle.bx_levels.specs.brackets.Search.{progress, pairs_after, AreFound}
use Rattle.bx_levels.proofs.brackets.library.pairs.Given as goal

abbrev pub invariant-loop-i : goal.invariant-loop-i
invariant-loop-i g l = record {
  found : AreFound l.i l.open l.found.items;
  rest : pairs (g.D.BidiData.data l.tables) l.chars l.types
      ≡ pairs_after (g.D.BidiData.data l.tables) (progress l.open l.found.items false) l.i (drop l.i l.chars) (drop l.i l.types);
}
