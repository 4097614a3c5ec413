use Rattle.std.proofs.Common.{◌++◌, ◌∷◌, []}
use Rattle.std.proofs.lemmas.Result.{IfOk-weaker}
use Rattle.bx_rows.specs.LevelReads.{Reads, ReadsChar}
use Rattle.bx_rows.proofs.LevelSteps.{char-first, char-more}
use Rattle.bx_rows.proofs.level_read.read_char.Goals as goal

pub returns-then-is_known-clause-levels : goal.returns-then-is_known-clause-levels
returns-then-is_known-clause-levels g c =
    char-more c.args.paragraph c.in-Some.level ((g.D.BidiData.data c.args.tables.now).class c.args.next.c) c.args.is_known c.args.next.level c.args.found.now.items
    c.read_more.new.found.items c.args.waiting c.read_more.result c.if-is_known.true c.in-Some.is c.read_more.ensures.levels

pub returns-clause-levels : goal.returns-clause-levels
returns-clause-levels g c =
    let p = c.args.paragraph in
    let class = (g.D.BidiData.data c.args.tables.now).class c.args.next.c in
    let old = c.args.found.now.items in
    let new = c.read_first.new.found.items in
    IfOk-weaker c.read_first.result (λ next. Reads p class (old ++ c.in-Some.level ∷ []) c.args.waiting new next)
    (λ next. ReadsChar p class c.args.is_known c.args.next.level old c.args.waiting new next)
    (λ next h. char-first p c.in-Some.level class c.args.is_known c.args.next.level old new c.args.waiting next c.if-is_known.false c.in-Some.is c.requires h)
    c.read_first.ensures.levels
