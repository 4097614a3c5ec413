-- A name that is short enough is a frame's.
use Rattle.std.proofs.lemmas.Result.{IfErr-weaker}
use Rattle.bx_store.proofs.host_store.HostStoreStore.begin_as.Goals as goal

pub returns-clause-cause : goal.returns-clause-cause
returns-clause-cause g c = IfErr-weaker c.begin_by.result _ _ (λ fault has in_step _. has in_step) c.begin_by.ensures.cause
