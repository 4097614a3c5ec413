-- A piece goes from what is left to what was told.
use Rattle.std.proofs.Common.{◌∙◌, ap}
use Rattle.bx_store.specs.Talk.{stored_by}
use Rattle.bx_store.proofs.TalkSteps.{lost_stored, on_any, sent_stored, told_front}
use Rattle.bx_store.proofs.host_store.HostStore.tell.Goals as goal

pub returns-in_err-send-clause-stored : goal.returns-in_err-send-clause-stored
returns-in_err-send-clause-stored g c =
    on_any c.from_residual.result (ap stored_by c.in_err-send.ensures.lost ∙ lost_stored (g.S.Saver.talk c.loop-rest.self.saver) ∙ c.loop-rest.invariant.stored)

pub loop-rest-preserved : goal.loop-rest-preserved
loop-rest-preserved g c =
    let talk = g.S.Saver.talk c.loop-rest.self.saver in
    record {
      told = told_front c.min.result c.loop-rest.rest.now c.split_at.result.0.now c.split_at.result.1.now talk (g.S.Saver.talk c.send.new.self) c.split_at.ensures.front c.split_at.ensures.back c.in_ok-send.ensures.sent
          ∙ c.loop-rest.invariant.told;
      stored = sent_stored 0x50 c.split_at.result.0.now talk (g.S.Saver.talk c.send.new.self) c.in_ok-send.ensures.sent ∙ c.loop-rest.invariant.stored;
      lost = c.loop-rest.invariant.lost;
      failures = c.loop-rest.invariant.failures;
      draft = c.loop-rest.invariant.draft;
    }
