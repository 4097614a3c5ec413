use Rattle.bx_ucd.specs.Data.{Data}
use Rattle.bx_session.proofs.Bytes.{opening_is}
use Rattle.bx_session.proofs.session.Session.open.Goals as goal

pub returns-in-Ok-clause-ok : goal.returns-in-Ok-clause-ok
returns-in-Ok-clause-ok g c =
    let ucd : g.row.D.Denot → Data = g.D.BidiData.data in
    opening_is ucd c.args.tables c.args.bytes.items c.args.height c.args.width c.args.base c.in_ok-editor.editor c.new.result.items
    c.paint.new.self c.in_ok-editor.ensures.utf8 c.in_ok-editor.ensures.sized c.in_ok-editor.ensures.ok c.new.ensures.items c.in-Ok.ensures.tables c.in-Ok.ensures.ok
