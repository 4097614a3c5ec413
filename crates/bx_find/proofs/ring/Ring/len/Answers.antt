use Rattle.std.proofs.Common.{length, sym, ap, ◌∙◌}
use Rattle.bx_find.proofs.Windows.{length-window}
use Rattle.bx_find.proofs.ring.Ring.len.Goals as goal

pub returns : goal.returns
returns c = let r = c.self.inside in sym (length-window r.first r.count r.slots) ∙ ap length c.self.view_is
