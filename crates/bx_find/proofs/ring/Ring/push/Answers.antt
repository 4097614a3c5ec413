use Rattle.std.specs.Prelude.{Option}
use Rattle.std.proofs.Common.{ℕ, List, ◌<◌, [], ◌∷◌, ◌++◌, length, ap, ◌∙◌, arith, rules}
use Rattle.bx_find.proofs.Windows.{length-window, push-window}
use Rattle.bx_find.proofs.ring.Ring.push.Goals as goal

pub returns : goal.returns
returns c =
    let r = c.self.inside in
    let room : r.count < 256 = omega (arith, length-window r.first r.count r.slots, ap length c.self.view_is, c.requires) in
    push-window r.first r.count c.args.place r.slots room (search rules) ∙ ap (λ (os : List (Option ℕ)). os ++ c.args.place ∷ []) c.self.view_is
