use Rattle.std.proofs.Common.{ap, ◌∙◌}
use Rattle.bx_ucd.specs.Data.{Data}
use Rattle.bx_session.specs.Session.{with_painting}
use Rattle.bidi_edit.proofs.edit.begin.Goals as goal

pub returns-clause-session : goal.returns-clause-session
returns-clause-session g c =
    let ucd : g.row.D.Denot → Data = g.D.BidiData.data in
    let old = c.args.session.now in
    let mid = c.replay.new.session in
    c.in_ok-paint.ensures.ok
    ∙ ap (λ (t : g.row.D.Denot). with_painting (ucd t) mid.session) c.replay.ensures.tables
    ∙ ap (with_painting (ucd old.tables)) c.in_ok-decoder.ensures.replays
