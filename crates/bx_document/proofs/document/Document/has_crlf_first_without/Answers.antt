use Rattle.std.proofs.Common.{◌∙◌, [], ap, arith, sym, subst}
use Rattle.std.proofs.lemmas.Str.{IsCharBoundary-start}
use Rattle.bx_text.specs.Edits.{splice}
use Rattle.bx_text.specs.Changes.{IsRange}
use Rattle.bx_document.specs.Line.{has_crlf_first}
use Rattle.bx_document.proofs.SeparatorsRead.{told}
use Rattle.bx_document.proofs.SameState.{lent}
use Rattle.bx_document.proofs.document.Document.has_crlf_first_without.Goals as goal

pub after_range-before-requires : goal.after_range-before-requires
after_range-before-requires g c =
    let same = lent c.text_ref-text_ref.ensures.tables c.text_ref-text_ref.ensures.text c.self.view_is in
    let range = subst (λ s. IsRange s.document.content.text c.args.start c.args.stop) (sym same) c.requires.range in
    record {
      range = record {
        start_bounds = IsCharBoundary-start c.text_ref-text_ref.result.text.now.edited.text c.len-len.ensures.utf8;
        stop_bounds = range.start_bounds;
        in_order = omega arith;
      };
    }

pub returns : goal.returns
returns g c =
    let same = lent c.text_ref-text_ref.ensures.tables c.text_ref-text_ref.ensures.text c.self.view_is in
    let s = c.text_ref-text_ref.result in
    let ucd = g.D.BidiData.data s.tables.now in
    let range = subst (λ s. IsRange s.document.content.text c.args.start c.args.stop) (sym same) c.requires.range in
    c.is_crlf.ensures ucd
    ∙ told ucd s.text.now.edited.text c.args.start c.args.stop c.len-len.result c.after_range-before.result c.after_range.result
    c.len-len.ensures.utf8 range.start_bounds c.len-len.ensures.len c.after_range-before.ensures c.after_range.ensures
    ∙ ap (λ s. has_crlf_first (g.D.BidiData.data s.tables) (splice s.document.content.text c.args.start c.args.stop [])) same
