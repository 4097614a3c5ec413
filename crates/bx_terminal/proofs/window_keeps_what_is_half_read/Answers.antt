use Rattle.std.proofs.Common.{refl}
use Rattle.bx_terminal.proofs.window_keeps_what_is_half_read.Goals as goal

pub returns : goal.returns
returns c t height width = (refl, refl)
