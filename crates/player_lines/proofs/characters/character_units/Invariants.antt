-- The units so far lie in the body.
use Rattle.std.proofs.Common.{All}
use Rattle.bx_rows.specs.cells.UnitFacts.{StandsIn}
use Rattle.player_lines.proofs.characters.character_units.Given as goal

abbrev pub invariant-loop-start : goal.invariant-loop-start
invariant-loop-start l = All (StandsIn l.body) l.units.items
