use Rattle.std.proofs.Common.{arith, refl}
use Rattle.std.proofs.lemmas.List.{take_all, take_more}
use Rattle.bx_ucd.specs.Data.{Data}
use Rattle.bx_recovery.proofs.Replays.{journal_is, replayed_one, waits_are}
use Rattle.bx_recovery.proofs.replaying.replay.Goals as goal

pub loop-byte-init : goal.loop-byte-init
loop-byte-init g c = (record { session = refl; rest = c.new-decoder.ensures.is_head }, refl)

pub loop-byte-preserved : goal.loop-byte-preserved
loop-byte-preserved g c =
    let ucd : g.row.D.Denot → Data = g.D.BidiData.data in
    let waits = c.loop-byte.decoder in
    replayed_one ucd c.args.session.now.tables c.loop-byte.session c.press_again.new.self c.args.session.now.session c.args.keys.now c.loop-byte.byte-index _
    waits c.feed-key.new.self c.feed-key.result c.loop-byte.invariant (take_more c.args.keys.now c.loop-byte.byte-index 0 c.loop-byte-test.true)
    (c.feed-key.ensures.key waits c.feed-key.ensures.own) (c.feed-key.ensures.rest waits c.feed-key.ensures.own).is_head
    c.in_ok-press_again.ensures.after_press

pub returns-clause-replays : goal.returns-clause-replays
returns-clause-replays g c =
    let ucd : g.row.D.Denot → Data = g.D.BidiData.data in
    let keys = c.args.keys.now in
    journal_is ucd c.args.session.now.tables c.loop-byte.session c.end_replay.new.self c.args.session.now.session keys _ c.loop-byte.decoder
    c.loop-byte.invariant (take_all c.loop-byte.byte-index keys (omega (arith, c.loop-byte-test.false))) c.in_ok-end_replay.ensures.ok

pub returns-clause-waits : goal.returns-clause-waits
returns-clause-waits g c =
    let keys = c.args.keys.now in
    waits_are keys _ c.loop-byte.decoder c.loop-byte.invariant.0 (take_all c.loop-byte.byte-index keys (omega (arith, c.loop-byte-test.false)))
