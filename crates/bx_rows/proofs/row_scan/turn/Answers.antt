use Rattle.std.proofs.Common.{length, take, chars, refl, subst}
use Rattle.std.proofs.lemmas.Result.{IfOk-weaker}
use Rattle.bx_rows.specs.RowScan.{Takes}
use Rattle.bx_rows.proofs.RowReads.{takes-at-break, some-if}
use Rattle.bx_rows.proofs.row_scan.turn.Goals as goal

pub returns-clause-takes : goal.returns-clause-takes
returns-clause-takes c =
    let body = c.args.body.now in
    let new = c.push.new.self.items in
    let last = c.take_unbroken-2.new.starts.items in
    IfOk-weaker c.take_unbroken-2.result (λ t. Takes c.args.w body c.args.unit new c.behind_break.result last t)
    (λ t. Takes c.args.w body c.args.unit c.args.starts.now.items c.args.scan last t)
    (λ t h. takes-at-break c.args.w body c.args.unit c.args.starts.now.items c.args.scan new last (length (chars (take c.args.scan.next body))) t
    c.requires.full (some-if c.args.scan.last c.if-scan-eq0.false) refl c.in_ok-push.ensures.items
    (subst (λ s. Takes c.args.w body c.args.unit new s last t) c.behind_break.ensures h))
    c.take_unbroken-2.ensures.takes
