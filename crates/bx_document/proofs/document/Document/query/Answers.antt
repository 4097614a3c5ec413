use Rattle.std.proofs.Common.{◌≡◌, ◌↔◌, [], IfSome, IsNone, chars, subst}
use Rattle.bx_find.specs.Letters.{letters}
use Rattle.bx_document.proofs.SameState.{lent}
use Rattle.bx_document.proofs.document.Document.query.Goals as goal

pub returns-clause-letters : goal.returns-clause-letters
returns-clause-letters g c =
    let same = lent c.text_ref-text_ref.ensures.tables c.text_ref-text_ref.ensures.text c.self.view_is in
    subst (λ s. IfSome c.new.result (λ q. q ≡ letters (g.D.BidiData.data s.tables) c.args.reading (chars c.args.text.now)))
    same c.new.ensures.letters

pub returns-clause-none : goal.returns-clause-none
returns-clause-none g c =
    let same = lent c.text_ref-text_ref.ensures.tables c.text_ref-text_ref.ensures.text c.self.view_is in
    subst (λ s. IsNone c.new.result ↔ (letters (g.D.BidiData.data s.tables) c.args.reading (chars c.args.text.now) ≡ []))
    same c.new.ensures.none
