use Rattle.std.proofs.Common.{subst, sym}
use Rattle.bx_view.specs.Caching.{Caches}
use Rattle.bx_view.specs.Numbers.{body_at}
use Rattle.bx_view.proofs.view.View.row_near.Goals as goal

pub row_in-requires-clause-cached : goal.row_in-requires-clause-cached
row_in-requires-clause-cached g c =
    let v = c.args.self.now in
    let body = body_at (g.D.BidiData.data c.args.text_ref.now.tables.now) c.args.text_ref.now.text.now.edited.text in
    subst (λ k. Caches (body k) v.w v.cache c.args.at.cached) (sym c.if-span-at.true) c.requires.row.1.cached_is
