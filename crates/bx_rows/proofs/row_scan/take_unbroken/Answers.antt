use Rattle.std.proofs.Common.{length, take, chars, refl, sym, ap, subst, ◌∙◌}
use Rattle.std.proofs.lemmas.Result.{IfOk-weaker}
use Rattle.bx_rows.specs.RowScan.{Takes, new_scan}
use Rattle.bx_rows.proofs.RowReads.{takes-full, some-if}
use Rattle.bx_rows.proofs.row_scan.take_unbroken.Goals as goal

pub returns-then-fits-clause-takes : goal.returns-then-fits-clause-takes
returns-then-fits-clause-takes c = c.advance.ensures.takes c.args.starts.now.items

pub returns-then-fits-2-clause-takes : goal.returns-then-fits-2-clause-takes
returns-then-fits-2-clause-takes c =
    let body = c.args.body.now in
    let new = c.push.new.self.items in
    let t = c.advance-then-fits-2.result in
    takes-full c.args.w body c.args.unit c.args.starts.now.items c.args.scan new new (length (chars (take c.args.unit.start body))) t
    (sym c.fits.ensures ∙ c.if-fits.false) c.requires.unbroken (some-if c.args.scan.count c.if-scan-eq0.false) refl c.in_ok-push.ensures.items
    (subst (λ s. Takes c.args.w body c.args.unit new s new t) (c.new_scan-scan.ensures ∙ ap new_scan c.start_behind-start.ensures)
    (c.advance-then-fits-2.ensures.takes new))

pub returns-clause-takes : goal.returns-clause-takes
returns-clause-takes c =
    let body = c.args.body.now in
    let new = c.push.new.self.items in
    let last = c.pass-2.new.starts.items in
    IfOk-weaker c.pass-2.result (λ t. Takes c.args.w body c.args.unit new c.new_scan-scan.result last t)
    (λ t. Takes c.args.w body c.args.unit c.args.starts.now.items c.args.scan last t)
    (λ t h. takes-full c.args.w body c.args.unit c.args.starts.now.items c.args.scan new last (length (chars (take c.args.unit.start body))) t
    (sym c.fits.ensures ∙ c.if-fits.false) c.requires.unbroken (some-if c.args.scan.count c.if-scan-eq0.false) refl c.in_ok-push.ensures.items
    (subst (λ s. Takes c.args.w body c.args.unit new s last t) (c.new_scan-scan.ensures ∙ ap new_scan c.start_behind-start.ensures) h))
    c.pass-2.ensures.takes
