use Rattle.bx_session.proofs.Moved.{same_parts, recorded, ended_with, has_read}
use Rattle.bx_session.proofs.over_reader.run_wired.Goals as goal

pub returns-clause-runs : goal.returns-clause-runs
returns-clause-runs g c = recorded _ _ _ _ g.S.Store.contents g.S.Store.faults _ _ _ _ _ _ _ _ _ c.run_device.ensures.logged

pub returns-clause-ends : goal.returns-clause-ends
returns-clause-ends g c = ended_with _ _ _ _ g.S.Store.contents g.S.Store.faults _ _ _ _ _ _ _ _ _ c.run_device.ensures.logged c.run_device.ensures.ends

pub returns-clause-limit : goal.returns-clause-limit
returns-clause-limit g c = has_read _ _ _ _ g.S.Store.contents g.S.Store.faults _ _ _ _ _ _ _ _ _ c.run_device.ensures.logged

pub returns-clause-same_reader : goal.returns-clause-same_reader
returns-clause-same_reader g c = (same_parts _ _ _ _ g.S.Store.contents g.S.Store.faults _ _ _ _ _ _ _ _ _ c.run_device.ensures.logged).reader

pub returns-clause-same_recorder : goal.returns-clause-same_recorder
returns-clause-same_recorder g c = (same_parts _ _ _ _ g.S.Store.contents g.S.Store.faults _ _ _ _ _ _ _ _ _ c.run_device.ensures.logged).recorder

pub returns-clause-same_writer : goal.returns-clause-same_writer
returns-clause-same_writer g c = (same_parts _ _ _ _ g.S.Store.contents g.S.Store.faults _ _ _ _ _ _ _ _ _ c.run_device.ensures.logged).writer

pub returns-clause-same_store : goal.returns-clause-same_store
returns-clause-same_store g c = (same_parts _ _ _ _ g.S.Store.contents g.S.Store.faults _ _ _ _ _ _ _ _ _ c.run_device.ensures.logged).store
