use Rattle.std.proofs.Common.{refl, arith}
use Rattle.bx_text.specs.index.Paragraphs.{lengths, paragraph_of}
use Rattle.bx_view.proofs.Numbers.{falls-at}
use Rattle.bx_view.proofs.TextPlaces.{place-between}
use Rattle.bx_document.proofs.document.Document.indent.Goals as goal

pub copy-requires : goal.copy-requires
copy-requires g c =
    let now = c.args.self.now in
    let ucd = g.D.BidiData.data now.tables in
    let text = now.document.content.text in
    let falls = falls-at ucd text c.args.place (paragraph_of (lengths ucd text) c.args.place) c.len-utf8.ensures.utf8 refl in
    record {
      range = record {
        start_bounds = c.line_of-line.ensures.range.start_bounds;
        stop_bounds = place-between ucd text c.args.place c.len-utf8.ensures.utf8 c.requires.text_place;
        in_order = omega (arith, c.line_of-line.ensures.start, falls.order);
      };
    }
