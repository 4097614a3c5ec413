use Rattle.std.proofs.Common.{◌≡◌, ◌∙◌, IsUtf8, ap, refl, subst, sym}
use Rattle.std.specs.Prelude.{None}
use Rattle.std.proofs.lemmas.Str.{IsCharBoundary-start}
use Rattle.bx_find.specs.Matches.{first_from}
use Rattle.bx_find.proofs.Offsets.{first_around}
use Rattle.bx_document.proofs.SameState.{lent}
use Rattle.bx_document.proofs.document.Document.first_before.Goals as goal

pub first_between-requires-clause-start : goal.first_between-requires-clause-start
first_between-requires-clause-start g c =
    let text = c.self.inside.indexed.content.text in
    IsCharBoundary-start text (subst IsUtf8 (ap (λ t. t.text) c.text_ref-text_ref.ensures.text) c.text_ref-text_ref.result.utf8)

pub returns-clause-found : goal.returns-clause-found
returns-clause-found g c =
    let same = lent c.text_ref-text_ref.ensures.tables refl c.self.view_is in
    let none = subst (λ s. first_from (g.D.BidiData.data s.tables) c.args.reading c.args.query.now s.document.content.text c.args.x ≡ None)
    (sym same) c.requires.none_from in
    c.first_between.ensures.found
    ∙ sym (first_around (g.D.BidiData.data c.text_ref-text_ref.result.tables.now) c.args.reading c.args.query.now c.self.inside.indexed.content.text c.args.x none)
    ∙ ap (λ s. first_from (g.D.BidiData.data s.tables) c.args.reading c.args.query.now s.document.content.text 0) same
