use Rattle.std.proofs.Common.{◌≡◌, ◌+◌, ℕ, List, Err, take, sym, ap, ◌∙◌, arith, rules}
use Rattle.std.proofs.lemmas.List.{length-take-le}
use Rattle.bx_ucd.specs.Data.{Data}
use Rattle.bx_session.specs.declared.end.RunFault.TheVariants.{WriteFault}
use Rattle.bx_session.proofs.Logged.{InTurn, as_write_fault, first_sent, no_turns, first_failed, turn_sent, turn_failed, input_ended, read_failed}
use Rattle.bx_session.proofs.Logged.{limit_reached}
use Rattle.bx_session.proofs.running.run_device.Goals as goal

pub returns-in_err-send-clause-logged : goal.returns-in_err-send-clause-logged
returns-in_err-send-clause-logged g c =
    let sent = c.in_err-send.ensures.sent in
    let is : c.from_residual.result ≡ Err WriteFault = search rules in
    as_write_fault _ _ _ _ _ _ _ _ _ _ _ _ is (first_failed _ _ _ _ _ _ _ _ _ _ sent.0 sent.1 sent.2 (sent.3 _) c.send.ensures.stored sent.4)

pub reads-init : goal.reads-init
reads-init g c =
    let sent = c.in_ok-send.ensures.sent in (
      first_sent _ _ _ _ _ _ _ _ _ _ sent.0 sent.1 sent.2 (sent.3 _) c.send.ensures.stored sent.4,
      no_turns _ _ _ _ _ _ _ _ _ _ sent.0 sent.1 sent.2 (sent.3 _) c.send.ensures.stored sent.4,
      c.in_ok-send.ensures.all,
      c.send.ensures.tables,
    )

pub returns-in_default-clause-logged : goal.returns-in_default-clause-logged
returns-in_default-clause-logged g c = read_failed _ _ _ _ _ _ _ _ _ _ _ c.reads.invariant.0 _ c.in_default.ensures.failed c.read.ensures.stored

pub returns-then-count-eq0-clause-logged : goal.returns-then-count-eq0-clause-logged
returns-then-count-eq0-clause-logged g c =
    let none : c.in-Ok.count ≡ 0 = omega (arith, c.if-count-eq0.true) in
    input_ended _ _ _ _ _ _ _ _ _ _ _ c.reads.invariant.0 c.changed-changed.result _ _ _ (ap (λ n. take n c.read.new.buffer) none) c.in-Ok.ensures.did
    c.read.ensures.stored c.append.ensures.did c.append.ensures.stored

pub keep_and_obey-requires : goal.keep_and_obey-requires
keep_and_obey-requires g c =
    let count = length-take-le c.in-Ok.count c.read.new.buffer c.in-Ok.ensures.bound in omega (arith, count, c.in-Ok.ensures.most)

pub returns-in_err-send-2-clause-logged : goal.returns-in_err-send-2-clause-logged
returns-in_err-send-2-clause-logged g c =
    let ucd : g.row.D.Denot → Data = g.D.BidiData.data in
    let device = g.V.Device in
    let fed = c.keep_and_obey.ensures.bytes in
    let sent = c.in_err-send-2.ensures.sent in
    let bytes : List ℕ = take c.in-Ok.count c.read.new.buffer in
    let count = length-take-le c.in-Ok.count c.read.new.buffer c.in-Ok.ensures.bound in
    let turn : InTurn device.did device.obeyed device.stored ucd c.args.session.now.tables c.reads.session.tables c.reads.decoder c.keep_and_obey.new.decoder
    c.reads.session.session c.keep_and_obey.new.session.session c.send-in-reads.new.session.session c.reads.device c.keep_and_obey.new.device
    c.send-in-reads.new.device fed.0 fed.1 fed.2 sent.0 bytes fed.3 sent.1 = record {
      stay = c.reads.invariant.3;
      empty = c.reads.invariant.2;
      running = sym c.ended.ensures ∙ c.if-ended.false;
      some = omega (arith, count, c.if-count-eq0.false);
      most = omega (arith, count, c.in-Ok.ensures.most);
      mid = c.read.new.self;
      reads = c.in-Ok.ensures.did;
      reads_stored = c.read.ensures.stored;
      fed = fed.4;
      waits = fed.9;
      kept = fed.5;
      in_parts = fed.6;
      types = fed.7;
      presses = fed.8;
      sent = sent.2;
      sends_taken = sent.3;
      sends_stored = c.send-in-reads.ensures.stored;
    } in
    let is : c.from_residual-in_err-send-2.result ≡ Err WriteFault = search rules in
    as_write_fault _ _ _ _ _ _ _ _ _ _ _ _ is
    (turn_failed device.did device.obeyed device.stored ucd c.args.session.now.tables c.reads.session.tables _ _ _ _ _ _ _ _ _ _ _ _ _ _ _ _ _ _ _
    c.reads.invariant.0 turn sent.4)

pub reads-preserved : goal.reads-preserved
reads-preserved g c =
    let ucd : g.row.D.Denot → Data = g.D.BidiData.data in
    let device = g.V.Device in
    let fed = c.keep_and_obey.ensures.bytes in
    let sent = c.in_ok-send-2.ensures.sent in
    let bytes : List ℕ = take c.in-Ok.count c.read.new.buffer in
    let count = length-take-le c.in-Ok.count c.read.new.buffer c.in-Ok.ensures.bound in
    let turn : InTurn device.did device.obeyed device.stored ucd c.args.session.now.tables c.reads.session.tables c.reads.decoder c.keep_and_obey.new.decoder
    c.reads.session.session c.keep_and_obey.new.session.session c.send-in-reads.new.session.session c.reads.device c.keep_and_obey.new.device
    c.send-in-reads.new.device fed.0 fed.1 fed.2 sent.0 bytes fed.3 sent.1 = record {
      stay = c.reads.invariant.3;
      empty = c.reads.invariant.2;
      running = sym c.ended.ensures ∙ c.if-ended.false;
      some = omega (arith, count, c.if-count-eq0.false);
      most = omega (arith, count, c.in-Ok.ensures.most);
      mid = c.read.new.self;
      reads = c.in-Ok.ensures.did;
      reads_stored = c.read.ensures.stored;
      fed = fed.4;
      waits = fed.9;
      kept = fed.5;
      in_parts = fed.6;
      types = fed.7;
      presses = fed.8;
      sent = sent.2;
      sends_taken = sent.3;
      sends_stored = c.send-in-reads.ensures.stored;
    } in
    let after = turn_sent device.did device.obeyed device.stored ucd c.args.session.now.tables c.reads.session.tables _ _ _ _ _ _ _ _ _ _ _ _ _ _ _ _ _ _ _
    c.reads.invariant.0 turn sent.4 in (
      after.0,
      after.1 ∙ ap (λ n. n + 1) c.reads.invariant.1,
      c.in_ok-send-2.ensures.all,
      c.send-in-reads.ensures.tables ∙ c.keep_and_obey.ensures.tables ∙ c.reads.invariant.3,
    )

pub returns-else-ended-2-clause-logged : goal.returns-else-ended-2-clause-logged
returns-else-ended-2-clause-logged g c =
    limit_reached _ _ _ _ _ _ _ _ _ _ _ c.reads.invariant.0 (omega (arith, c.reads.invariant.1, c.reads-test.false, c.reads.auto.read-end))
