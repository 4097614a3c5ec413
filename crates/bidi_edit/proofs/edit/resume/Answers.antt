use Rattle.bx_ucd.specs.Data.{Data}
use Rattle.bidi_edit.proofs.Edited.{resumes_of, run_is_later}
use Rattle.bidi_edit.proofs.edit.resume.Goals as goal

pub returns-clause-runs : goal.returns-clause-runs
returns-clause-runs g c =
    let ucd : g.row.D.Denot → Data = g.D.BidiData.data in
    resumes_of g.V.Device.did g.V.Device.obeyed g.V.Device.stored _ ucd c.args.session.now c.begin.new.session c.run_device-end.new.session.session
    c.args.keys.now _ _ _ _ c.run_device-end.result c.changed.result c.outcome_of.result c.begin.ensures.tables c.in_ok-decoder.ensures.session
    c.in_ok-decoder.ensures.paints c.in_ok-decoder.ensures.waits c.run_device-end.ensures.logged c.run_device-end.ensures.ends c.outcome_of.ensures c.changed.ensures

pub returns-clause-refused : goal.returns-clause-refused
returns-clause-refused g c = run_is_later c.outcome_of.result c.run_device-end.result c.changed.result c.outcome_of.ensures
