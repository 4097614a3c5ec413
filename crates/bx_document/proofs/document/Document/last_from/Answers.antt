use Rattle.std.proofs.Common.{◌≡◌, ◌∙◌, ap, length, refl, subst, sym}
use Rattle.std.specs.Prelude.{None}
use Rattle.bx_find.specs.Matches.{last_before}
use Rattle.bx_document.proofs.SameState.{lent}
use Rattle.bx_document.proofs.document.Document.last_from.Goals as goal

pub returns-clause-found : goal.returns-clause-found
returns-clause-found g c =
    let same = lent c.tables.ensures refl c.self.view_is in
    let none = subst (λ s. last_before (g.D.BidiData.data s.tables) c.args.reading c.args.query.now s.document.content.text c.args.x ≡ None)
    (sym same) c.requires.none_before in
    c.last_from.ensures.around none
    ∙ ap (λ s. last_before (g.D.BidiData.data s.tables) c.args.reading c.args.query.now s.document.content.text (length s.document.content.text)) same
