use Rattle.bx_ucd.specs.Data.{Data}
use Rattle.std.proofs.Common.{refl}
use Rattle.std.proofs.lemmas.Result.{on_ok_weaker}
use Rattle.bx_session.proofs.Bytes.{set_is}
use Rattle.bx_session.proofs.Pictures.{value_of}
use Rattle.bx_session.proofs.session.Session.set.Goals as goal

pub returns-clause-ok : goal.returns-clause-ok
returns-clause-ok g c =
    let ucd : g.row.D.Denot → Data = g.D.BidiData.data in
    on_ok_weaker c.paint.result
    (λ painted. set_is ucd c.args.self.now c.self.inside.editor c.set.new.self (value_of c.self.inside) c.paint.new.self.session c.args.settings
    c.clear.new.self.items c.self.view_is refl c.set.ensures c.clear.ensures.items painted) c.paint.ensures.ok
