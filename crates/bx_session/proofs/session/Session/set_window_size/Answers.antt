use Rattle.std.proofs.Common.{◌∙◌, sym}
use Rattle.bx_ucd.specs.Data.{Data}
use Rattle.bx_session.proofs.Bytes.{told_is}
use Rattle.bx_session.proofs.session.Session.set_window_size.Goals as goal

pub returns-clause-resized : goal.returns-clause-resized
returns-clause-resized g c =
    let ucd : g.row.D.Denot → Data = g.D.BidiData.data in
    told_is ucd c.args.self.now c.resize.new.self c.paint.new.self c.args.height c.args.width c.paint.result
    (sym c.is_size.ensures ∙ c.if-not-is_size.false) c.resize.ensures c.paint.ensures.ok c.paint.ensures.err c.paint.ensures.memory
