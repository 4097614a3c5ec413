use Rattle.std.proofs.Common.{refl}
use Rattle.bx_session.proofs.Wiring.{did_flush, did_flush_failed}
use Rattle.bx_session.proofs.wired.WiredDevice.flush.Goals as goal

pub returns-in-Ok-clause-did : goal.returns-in-Ok-clause-did
returns-in-Ok-clause-did g c = did_flush _ _ _ _ _ _ (record { reader = refl; recorder = refl; writer = refl; store = refl }) refl refl refl c.in-Ok.ensures.bytes

pub returns-in-Err-clause-failed : goal.returns-in-Err-clause-failed
returns-in-Err-clause-failed g c = did_flush_failed _ _ _ _ _ _ (record { reader = refl; recorder = refl; writer = refl; store = refl }) refl refl refl c.in-Err.ensures.bytes
