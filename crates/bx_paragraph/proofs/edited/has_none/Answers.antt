use Rattle.std.proofs.Common.{◌∙◌, chars, sym}
use Rattle.bx_paragraph.proofs.Edits.{plain-if}
use Rattle.bx_paragraph.proofs.edited.has_none.Goals as goal

pub returns : goal.returns
returns g c = λ e. plain-if (g.D.BidiData.data c.args.tables.now) (chars c.args.body.now) (sym c.are_unformatted.ensures ∙ e)
