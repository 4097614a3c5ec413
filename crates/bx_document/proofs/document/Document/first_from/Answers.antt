use Rattle.std.proofs.Common.{◌≡◌, IsCharBoundary, refl, subst}
use Rattle.std.specs.Prelude.{IfSome}
use Rattle.bx_find.specs.Matches.{first_from}
use Rattle.bx_document.proofs.SameState.{lent}
use Rattle.bx_document.proofs.document.Document.first_from.Goals as goal

pub returns-clause-found : goal.returns-clause-found
returns-clause-found g c =
    subst (λ s. c.first_from.result
    ≡ first_from (g.D.BidiData.data s.tables) c.args.reading c.args.query.now s.document.content.text c.args.x)
    (lent c.text_ref-text_ref.ensures.tables refl c.self.view_is) c.first_from.ensures.found

pub returns-clause-boundary : goal.returns-clause-boundary
returns-clause-boundary g c =
    subst (λ s. IfSome c.first_from.result (IsCharBoundary s.document.content.text)) c.self.view_is c.first_from.ensures.boundary
