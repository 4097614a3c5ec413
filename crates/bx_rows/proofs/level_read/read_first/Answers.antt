use Rattle.std.proofs.Common.{◌++◌, ◌∷◌, [], ap, subst, ◌∙◌, arith}
use Rattle.bx_rows.specs.LevelReads.{Reads}
use Rattle.bx_rows.proofs.LevelSteps.{same_level}
use Rattle.bx_rows.proofs.level_read.read_first.Goals as goal

pub returns-then-level-paragraph-clause-levels : goal.returns-then-level-paragraph-clause-levels
returns-then-level-paragraph-clause-levels g c =
    let old = c.args.found.now.items in
    let pushed = c.in_ok-push.ensures.items in
    let none = c.if-waiting-len.true ∙ c.len.ensures in
    let count = c.len-then-level-paragraph.ensures in
    let class = (g.D.BidiData.data c.args.tables.now).class c.args.c in
    subst (λ xs. Reads c.args.paragraph class xs c.args.waiting c.push.new.self.items c.len-then-level-paragraph.result) pushed
    (same_level c.args.paragraph c.args.waiting c.len-then-level-paragraph.result class old c.push.new.self.items (omega (arith, none))
    (pushed ∙ ap (λ x. old ++ x ∷ []) c.if-level-paragraph.true) (omega (arith, count)))

pub returns-clause-levels : goal.returns-clause-levels
returns-clause-levels g c =
    let old = c.args.found.now.items in
    let new = c.read_class.new.found.items in
    let next = c.read_class.result in
    subst (λ k. Reads c.args.paragraph k (old ++ c.args.level ∷ []) c.args.waiting new next) c.class.ensures
    (subst (λ xs. Reads c.args.paragraph c.class.result xs c.args.waiting new next) c.in_ok-push-2.ensures.items c.read_class.ensures.levels)
