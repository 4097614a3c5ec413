use Rattle.std.proofs.Common.{◌≡◌, ◌≤◌, true, length, chars, string_bytes, IfSome, sym, ap, subst, ◌∙◌}
use Rattle.bx_common.specs.Characters.{is_side}
use Rattle.bx_document.specs.Document.{DocumentState}
use Rattle.bx_document.specs.Past.{next_change}
use Rattle.bx_view.specs.Places.{IsTextPlace}
use Rattle.bx_editor.specs.Answers.{IsAnswer}
use Rattle.bx_editor.specs.Origin.{BeganAt, StandsAt}
use Rattle.bx_editor.proofs.RunSteps.{none-mapped, not-stepped}
use Rattle.bx_editor.proofs.Viewed.{holds_with}
use Rattle.bx_editor.proofs.editor.Editor.step.Goals as goal

pub invariant_of-self-in_default : goal.invariant_of-self-in_default
invariant_of-self-in_default g c =
    let i = c.self.inside in
    let t : DocumentState g.row.D.Denot = i.document in
    let none = none-mapped (next_change c.args.step t.document.content) (sym c.in_ok-place.ensures.place ∙ c.in_default.is) in
    let same : c.step.new.self ≡ t =
    c.in_ok-place.ensures.ok
    ∙ ap (λ x. record t { document = record t.document { content = x } }) (not-stepped c.args.step t.document.content none) in
    subst (holds_with g.D.BidiData i) (sym same) c.self.invariant
