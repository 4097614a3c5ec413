use Rattle.std.proofs.Common.{drop, length}
use Rattle.bx_rows.specs.joining.Joining.{body_forms}
use Rattle.bx_rows.proofs.joining_lemmas.TextForms.{length-first_forms}
use Rattle.bx_rows.specs.PlainRows.{char_forms}
use Rattle.bx_rows.proofs.plain_picture.show_levels.Goals as goal

pub returns-then-not-branch-clause-shown : goal.returns-then-not-branch-clause-shown
returns-then-not-branch-clause-shown g c cs rest bytes single =
    let lines = c.args.lines.now in
    let ucd = g.D.BidiData.data lines.tables.now in
    let body = lines.body.now in
    let each = lines.levels.now.each.items in
    let number = c.args.start.chars in
    c.in_ok-mirror_and_may_join.ensures.formless cs single c.if-not-branch.true (char_forms ucd body each number cs)
    (length-first_forms (length cs) (drop number (body_forms ucd body each)))
