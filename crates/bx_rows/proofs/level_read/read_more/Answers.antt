use Rattle.std.proofs.Common.{subst, ◌∙◌, arith}
use Rattle.bx_rows.specs.LevelReads.{Reads}
use Rattle.bx_rows.proofs.LevelSteps.{still_none}
use Rattle.bx_rows.proofs.level_read.read_more.Goals as goal

pub returns-then-waiting-len-clause-levels : goal.returns-then-waiting-len-clause-levels
returns-then-waiting-len-clause-levels g c =
    let none = c.if-waiting-len.true ∙ c.len.ensures in
    still_none c.args.paragraph c.args.waiting ((g.D.BidiData.data c.args.tables.now).class c.args.c) c.args.found.now.items (omega (arith, none))

pub returns-clause-levels : goal.returns-clause-levels
returns-clause-levels g c =
    subst (λ k. Reads c.args.paragraph k c.args.found.now.items c.args.waiting c.read_class.new.found.items c.read_class.result) c.class.ensures
    c.read_class.ensures.levels
