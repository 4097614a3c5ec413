use Rattle.bx_recovery.proofs.TablesData.{ucd}
use Rattle.bx_recovery.proofs.Causes.{once_opened}
use Rattle.bx_recovery.proofs.Opened.{recovers_of}
use Rattle.bx_recovery.specs.Beginnings.{beginning_of}
use Rattle.bx_recovery.proofs.recovering.recover.Goals as goal

pub returns-clause-recovers : goal.returns-clause-recovers
returns-clause-recovers g c =
    let b = c.args.beginning in
    recovers_of (beginning_of b) b.unicode.now c.args.file.now (ucd c.in_ok-session.session.tables) c.in_ok-session.session.session
    c.store_replayed-replayed.result _ _ c.in_ok-session.ensures.tables c.in_ok-session.ensures.opens c.store_replayed-replayed.ensures.recovers

pub returns-clause-refused : goal.returns-clause-refused
returns-clause-refused g c =
    once_opened c.args.beginning _ _ c.store_replayed-replayed.result c.in_ok-session.ensures.openable
    c.store_replayed-replayed.ensures.refused
