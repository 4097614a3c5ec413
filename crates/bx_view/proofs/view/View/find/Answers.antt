use Rattle.std.proofs.Common.{subst, sym}
use Rattle.bx_view.specs.Caching.{HasBody, IsViewBy}
use Rattle.bx_view.specs.Numbers.{body_at}
use Rattle.bx_view.proofs.view.View.find.Goals as goal

pub add-requires-clause-cache : goal.add-requires-clause-cache
add-requires-clause-cache g c =
    subst (IsViewBy (g.D.BidiData.data c.args.text_ref.now.tables.now)) (sym c.self.view_is) c.requires.data

pub returns-in-Some-clause-body : goal.returns-in-Some-clause-body
returns-in-Some-clause-body g c =
    let body = body_at (g.D.BidiData.data c.args.text_ref.now.tables.now) c.args.text_ref.now.text.now.edited.text c.args.span.number in
    c.in_ok-lay_out_in.ensures.body body
    (subst (λ cache. HasBody body cache c.in-Some.i) c.deref.ensures.value
    (subst (λ b. HasBody b c.deref.result.now c.in-Some.i) c.requires.span.body c.in-Some.ensures))
