use Rattle.std.proofs.Common.{ap, sym, arith}
use Rattle.bx_view.specs.Words.{first_kind}
use Rattle.bx_view.proofs.WordParts.{none-left}
use Rattle.bx_view.proofs.moves.words.kind_at.Goals as goal

pub returns-then-at-body : goal.returns-then-at-body
returns-then-at-body g c =
    sym (ap (first_kind (g.D.BidiData.data c.args.tables.now)) (none-left c.args.body.now c.args.at (omega (arith, c.if-at-body.true))))
