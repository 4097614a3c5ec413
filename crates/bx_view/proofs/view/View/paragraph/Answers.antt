use Rattle.std.proofs.Common.{◌≡◌, ◌∙◌, ap, get_or, subst, true}
use Rattle.bx_common.specs.Characters.{is_side}
use Rattle.bx_view.proofs.CachedRows.{of-text}
use Rattle.bx_view.proofs.view.View.paragraph.Goals as goal

pub returns : goal.returns
returns g c =
    let s = c.args.text_ref.now in
    of-text (g.D.BidiData.data s.tables.now) c.args.self.now s.text.now.edited.text
    c.args.number c.args.cached c.index.result.now (subst (λ v. is_side v.w ≡ true) c.self.view_is c.self.invariant) c.requires.data c.requires.cached
    (c.index.ensures ∙ ap (λ v. get_or v.cache c.args.cached c.index.result.now) c.self.view_is)
