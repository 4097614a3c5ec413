use Rattle.std.proofs.Common.{refl}
use Rattle.bx_session.proofs.Wiring.{did_append}
use Rattle.bx_session.proofs.wired.WiredDevice.append.Goals as goal

pub returns-clause-did : goal.returns-clause-did
returns-clause-did g c =
    did_append _ _ _ _ _ _ (record { reader = refl; recorder = refl; writer = refl; store = refl }) refl _ refl refl c.keep.ensures.keeps c.keep.ensures.tries
