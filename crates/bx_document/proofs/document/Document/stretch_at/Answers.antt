use Rattle.std.proofs.Common.{◌≡◌, subst}
use Rattle.bx_view.specs.Words.{stretch_at}
use Rattle.bx_document.proofs.SameState.{lent}
use Rattle.bx_document.proofs.document.Document.stretch_at.Goals as goal

pub returns-clause-stretch : goal.returns-clause-stretch
returns-clause-stretch g c =
    let same = lent c.text_ref-text_ref.ensures.tables c.text_ref-text_ref.ensures.text c.self.view_is in
    subst (λ s. (c.in_ok-word.word.start, c.in_ok-word.word.stop) ≡ stretch_at (g.D.BidiData.data s.tables) s.document.content.text c.args.place) same
    c.in_ok-word.ensures.stretch
