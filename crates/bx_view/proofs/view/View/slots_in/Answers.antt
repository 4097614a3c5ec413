use Rattle.std.proofs.Common.{◌⊎◌, ℕ, inl, inr, ◌∙◌, ◌-◌, ◌<◌, ◌≤◌, ap, ap₂, arith, length}
use Rattle.bx_view.specs.TextParts.{slots_in}
use Rattle.bx_view.proofs.PartSlots.{none-told, some-told}
use Rattle.bx_view.proofs.view.View.slots_in.Goals as goal
use Rattle.bx_view.proofs.view.View.slots_in.Goals.{then-start-stop-via-then-start-stop, then-start-stop-via-else-start-stop+then-body-start}

pub returns-then-start-stop : goal.returns-then-start-stop
returns-then-start-stop g c = λ n on.
    let s = c.row-row.result in
    let part : ℕ × ℕ = (c.args.part.start, c.args.part.stop) in
    let low = c.saturating_sub-start.ensures in
    let high = c.saturating_sub-stop.ensures in
    let outside : (part.1 - s.start ≤ part.0 - s.start) ⊎ (length s.paragraph.now.body < part.0 - s.start) = elim c.then-start-stop.branch [
      | then-start-stop-via-then-start-stop w ↦ inl (omega (arith, w.if-start-stop.true, low, high))
      | then-start-stop-via-else-start-stop+then-body-start w ↦ inr (omega (arith, w.if-body-start.true, low, ap length w.body.ensures))
    ] in
    c.new.ensures.items ∙ none-told s part outside ∙ ap₂ (λ w r. slots_in w part r) c.row-row.ensures.columns (c.row-row.ensures.row n on)

pub returns : goal.returns
returns g c = λ n on.
    some-told c.row-row.result (c.args.part.start, c.args.part.stop) c.in_ok-slots.slots.items c.keep_in.new.slots.items c.saturating_sub-start.result
    c.saturating_sub-stop.result c.saturating_sub-start.ensures c.saturating_sub-stop.ensures c.in_ok-slots.ensures.slots c.keep_in.ensures
    ∙ ap₂ (λ w r. slots_in w (c.args.part.start, c.args.part.stop) r) c.row-row.ensures.columns (c.row-row.ensures.row n on)
