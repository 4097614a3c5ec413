use Rattle.std.proofs.Common.{refl}
use Rattle.bx_session.proofs.Wiring.{did_write_part, if_err}
use Rattle.bx_session.proofs.wired.WiredDevice.write.Goals as goal

pub returns-clause-failed : goal.returns-clause-failed
returns-clause-failed g c =
    if_err _ _ c.write_all.result
    (λ fault written. did_write_part _ _ _ _ _ _ (record { reader = refl; recorder = refl; writer = refl; store = refl }) refl refl refl _ written) c.write_all.ensures.part
