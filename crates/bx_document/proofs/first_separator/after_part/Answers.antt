use Rattle.std.proofs.Common.{◌++◌, ◌∙◌, ap}
use Rattle.bx_document.specs.SeparatorReads.{crlf_from}
use Rattle.bx_document.proofs.SeparatorsRead.{no-chars}
use Rattle.bx_document.proofs.first_separator.after_part.Goals as goal

pub returns : goal.returns
returns g c = λ rest.
    c.loop-c.invariant.same rest
    ∙ ap (λ cs. crlf_from (g.D.BidiData.data c.args.tables.now) c.loop-c.seen (cs ++ rest)) (no-chars c.loop-c.left.now c.in_default.ensures)
