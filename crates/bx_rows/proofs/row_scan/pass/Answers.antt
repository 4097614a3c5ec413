use Rattle.std.proofs.Common.{length, take, chars, refl, sym, ap, subst, ◌∙◌}
use Rattle.bx_rows.specs.RowScan.{IsRead, new_scan}
use Rattle.bx_rows.proofs.RowReads.{takes-none}
use Rattle.bx_rows.proofs.row_scan.pass.Goals as goal

pub returns-clause-takes : goal.returns-clause-takes
returns-clause-takes c = λ ucd u rest x r.
    let body = c.args.body.now in
    let new = c.push.new.self.items in
    subst (λ t. IsRead ucd c.args.w body new t rest) (sym (c.new_scan.ensures ∙ ap new_scan c.start_behind-start.ensures))
    (takes-none c.args.w body c.args.unit c.args.starts.now.items c.args.scan new (length (chars (take c.args.unit.stop body))) c.requires.full
    c.requires.unbroken c.requires.empty refl c.in_ok-push.ensures.items ucd u rest x r)
