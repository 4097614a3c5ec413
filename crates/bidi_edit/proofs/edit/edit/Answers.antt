use Rattle.bx_ucd.specs.Data.{Data}
use Rattle.bidi_edit.proofs.Edited.{edits_any, once_opened}
use Rattle.bidi_edit.proofs.edit.edit.Goals as goal

pub returns-clause-runs : goal.returns-clause-runs
returns-clause-runs g c =
    let ucd : g.row.D.Denot → Data = g.D.BidiData.data in
    edits_any g.V.Device.did g.V.Device.obeyed g.V.Device.stored (ucd c.args.session.now.tables) c.args.session.now.session c.args.keys.now
    c.args.device.now _ c.resume-changes.result c.resume-changes.ensures.runs

pub returns-clause-refused : goal.returns-clause-refused
returns-clause-refused g c b can = once_opened b c.resume-changes.result can c.resume-changes.ensures.refused
