use Rattle.std.proofs.Common.{ap, arith, length}
use Rattle.bx_document.specs.Swapped.{swapped}
use Rattle.bx_document.proofs.document.Document.measure.Goals as goal

pub returns-clause-len : goal.returns-clause-len
returns-clause-len g c =
    let text = c.args.self.now.document.content.text in
    let i = c.loop-found.invariant in
    let none = ap (λ ss. length (swapped c.loop-found.measure.stop text c.args.other.now ss)) c.in_default.ensures.spans in
    omega (arith, i.fits, i.whole, none)
