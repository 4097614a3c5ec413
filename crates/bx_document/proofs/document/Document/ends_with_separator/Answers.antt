use Rattle.std.proofs.Common.{ap, reverse, sym}
use Rattle.bx_view.proofs.WordParts.{no-characters}
use Rattle.bx_document.specs.Line.{begins_with_separator}
use Rattle.bx_document.proofs.document.Document.ends_with_separator.Goals as goal

pub returns-in-None : goal.returns-in-None
returns-in-None g c =
    sym (ap (λ cs. begins_with_separator (g.D.BidiData.data c.args.self.now.tables) (reverse cs)) (no-characters c.args.text.now c.in-None.ensures))
