use Rattle.std.proofs.Common.{◌∙◌, sym}
use Rattle.bx_rows.proofs.MirroredLetters.{single-same}
use Rattle.bx_rows.proofs.mirrors.has_mirror.Goals as goal

pub returns-in-Some : goal.returns-in-Some
returns-in-Some g c = λ none.
    single-same (g.D.BidiData.data c.args.tables.now) c.args.text.now c.in-Some.c c.mirror.result c.utf8.text c.in-Some.ensures c.mirror.ensures
    (sym c.is_some.ensures ∙ none)
