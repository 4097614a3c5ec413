use Rattle.std.proofs.Common.{◌++◌, drop, sym, ap, ◌∙◌, take-append-drop}
use Rattle.std.proofs.lemmas.List.{take_more}
use Rattle.bx_ucd.specs.Data.{Data}
use Rattle.bx_session.proofs.Steps.{obeyed_one_more}
use Rattle.bx_session.proofs.Turns.{pressed_more}
use Rattle.bx_session.proofs.keeping.obey_all.Goals as goal

pub returns-then-ended-clause-presses : goal.returns-then-ended-clause-presses
returns-then-ended-clause-presses g c =
    let h = c.loop-key.invariant.0 in
    let i = c.loop-key.key-index in
    let presses = c.args.presses.now in (
      h.0,
      drop i presses,
      sym (take-append-drop i presses) ∙ ap (λ xs. xs ++ drop i presses) (sym h.1.so_far),
      (λ _. sym c.ended.ensures ∙ c.if-ended.true),
      h.1.feeds,
      h.2,
    )

pub loop-key-preserved : goal.loop-key-preserved
loop-key-preserved g c =
    let ucd : g.row.D.Denot → Data = g.D.BidiData.data in
    let h = c.loop-key.invariant.0 in
    let stay = c.loop-key.invariant.1 in
    let running = sym c.ended.ensures ∙ c.if-ended.false in (
      (
        _,
        pressed_more ucd c.args.session.now.tables c.loop-key.session.tables c.args.session.now.session c.loop-key.session.session c.obey.new.session.session
            _ _ _ c.args.presses.now c.loop-key.key-index _ c.obey.result h.0 h.1 stay running c.obey.ensures.after_press
            c.obey.ensures.paints (take_more c.args.presses.now c.loop-key.key-index _ c.loop-key-test.true),
        obeyed_one_more g.V.Device.did g.V.Device.obeyed g.V.Device.stored ucd c.args.session.now.tables c.loop-key.session.tables c.args.device.now
            c.loop-key.device c.obey.new.self c.args.session.now.session c.loop-key.session.session c.obey.new.session.session h.0 _ c.obey.result h.2
            stay running c.obey.ensures.obeyed c.obey.ensures.after_press c.obey.ensures.paints,
      ),
      c.obey.ensures.tables ∙ stay,
    )
