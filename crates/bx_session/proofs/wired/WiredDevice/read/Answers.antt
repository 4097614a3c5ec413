use Rattle.std.proofs.Common.{refl, arith}
use Rattle.bx_session.proofs.Wiring.{did_read, did_read_failed}
use Rattle.bx_session.proofs.wired.WiredDevice.read.Goals as goal

pub returns-in-Ok-clause-did : goal.returns-in-Ok-clause-did
returns-in-Ok-clause-did g c =
    did_read _ _ _ _ _ _ (record { reader = refl; recorder = refl; writer = refl; store = refl }) refl _ _ refl refl c.in-Ok.ensures.bound.0 c.in-Ok.ensures.bytes.0
    (λ none. c.in-Ok.ensures.bytes.1 none (omega (arith, c.read.auto.buf, c.told-buffer)))

pub returns-in-Err-clause-failed : goal.returns-in-Err-clause-failed
returns-in-Err-clause-failed g c = did_read_failed _ _ _ _ _ _ (record { reader = refl; recorder = refl; writer = refl; store = refl }) refl refl refl c.in-Err.ensures.bytes
