use Rattle.std.proofs.Common.{ap, inl, inr, length, take, refl, [], ◌∷◌}
use Rattle.bx_session.specs.declared.action.Action.TheVariants.{Write, WriteFailed, Flush, FlushFailed}
use Rattle.bx_session.specs.Log.{Calls, sending}
use Rattle.bx_session.specs.Feeding.{SessionState}
use Rattle.bx_session.proofs.Steps.{sent_part, sent_then}
use Rattle.bx_session.proofs.Turns.{sent_whole, took}
use Rattle.bx_session.proofs.running.send.Goals as goal

pub returns-in-Err-clause-sent : goal.returns-in-Err-clause-sent
returns-in-Err-clause-sent g c =
    let written = take c.in-Err.fault.written c.pending.result.now in
    let sent = took c.args.session.now.session c.taken.new.self.session _ _ c.in-Err.fault.written c.pending.result.now c.pending.ensures tt
    (ap (λ (x : SessionState g.row.D.Denot). x.session) c.taken.ensures) in (
      written,
      Calls (WriteFailed written) ∷ [],
      sent,
      λ d. sent_part g.V.Device.did g.V.Device.obeyed g.V.Device.stored d _ _ _ _ written sent c.in-Err.ensures.failed c.write.ensures.stored,
      inl refl,
    )

pub returns-in-Ok-clause-sent : goal.returns-in-Ok-clause-sent
returns-in-Ok-clause-sent g c =
    let written = c.pending.result.now in
    let sent = sent_whole c.args.session.now.session c.taken-2.new.self.session (length c.pending-count.result.now) written c.pending.ensures
    (ap length c.pending-count.ensures) (ap (λ (x : SessionState g.row.D.Denot). x.session) c.taken-2.ensures) in (
      written,
      sending written,
      sent,
      λ d. sent_then g.V.Device.did g.V.Device.obeyed g.V.Device.stored d _ _ _ _ _ written Flush sent c.in_default.ensures.did c.write.ensures.stored refl
          c.in-Ok.ensures.did c.flush.ensures.stored,
      refl,
    )

pub returns-in-Err-flush-clause-sent : goal.returns-in-Err-flush-clause-sent
returns-in-Err-flush-clause-sent g c =
    let written = c.pending.result.now in
    let sent = sent_whole c.args.session.now.session c.taken-2.new.self.session (length c.pending-count.result.now) written c.pending.ensures
    (ap length c.pending-count.ensures) (ap (λ (x : SessionState g.row.D.Denot). x.session) c.taken-2.ensures) in (
      written,
      Calls (Write written) ∷ Calls FlushFailed ∷ [],
      sent,
      λ d. sent_then g.V.Device.did g.V.Device.obeyed g.V.Device.stored d _ _ _ _ _ written FlushFailed sent c.in_default.ensures.did c.write.ensures.stored
          refl c.in-Err-flush.ensures.failed c.flush.ensures.stored,
      inr refl,
    )
