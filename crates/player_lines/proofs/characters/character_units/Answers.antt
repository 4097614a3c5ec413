-- The next unit lies in the body.
use Rattle.std.proofs.Common.{List, All, subst, sym}
use Rattle.std.proofs.lemmas.List.Elements.{All-push}
use Rattle.bx_rows.specs.declared.cells.unit.Unit.{Unit}
use Rattle.bx_rows.specs.cells.UnitFacts.{StandsIn}
use Rattle.player_lines.proofs.characters.character_units.Goals as goal

pub loop-start-preserved : goal.loop-start-preserved
loop-start-preserved c =
    let P : List Unit → Type 0 = λ xs. All (StandsIn c.args.body.now) xs in
    subst P (sym c.in_ok-push.ensures.items)
    (All-push (StandsIn c.args.body.now) c.loop-start.units.items c.in_ok-unit.unit c.loop-start.invariant c.in_ok-unit.ensures)
