use Rattle.bx_ucd.specs.Data.{Data}
use Rattle.std.proofs.Common.{◌≡◌, ◌++◌, take, subst, ap, ◌∙◌}
use Rattle.bx_world.specs.World.{World, after_send}
use Rattle.bx_world.specs.Showing.{WorldState}
use Rattle.bx_world.proofs.Calls.{is_sent, send_call, send_steps, value_of}
use Rattle.bx_world.proofs.world.World.send.Goals as goal

pub invariant_of-self-2 : goal.invariant_of-self-2
invariant_of-self-2 g c =
    let ucd : g.row.D.Denot → Data = g.D.BidiData.data in
    let w : World = value_of c.self.inside in
    send_call ucd c.self.inside.session.tables w c.taken.new.self c.args.count c.append.new.line.items
    (is_sent c.self.inside.session.tables c.self.inside.session.session c.taken.new.self c.args.count c.first_bytes-part.result.now c.pending.result.now
    c.pending.ensures c.first_bytes-part.ensures c.taken.ensures)
    (c.in_ok-append.ensures.ok
    ∙ ap (λ bytes. c.self.inside.line.items ++ bytes) (c.first_bytes-part.ensures ∙ ap (take c.args.count) c.pending.ensures)) c.self.invariant

pub returns-clause-step : goal.returns-clause-step
returns-clause-step g c =
    let w : World = value_of c.self.inside in
    subst (λ (x : WorldState g.row.D.Denot). record w { session = c.taken.new.self.session; line = c.append.new.line.items } ≡ after_send x.world c.args.count)
    c.self.view_is (send_steps c.self.inside.session.tables w c.taken.new.self c.args.count c.append.new.line.items
    (is_sent c.self.inside.session.tables c.self.inside.session.session c.taken.new.self c.args.count c.first_bytes-part.result.now c.pending.result.now
    c.pending.ensures c.first_bytes-part.ensures c.taken.ensures)
    (c.in_ok-append.ensures.ok
    ∙ ap (λ bytes. c.self.inside.line.items ++ bytes) (c.first_bytes-part.ensures ∙ ap (take c.args.count) c.pending.ensures)))
