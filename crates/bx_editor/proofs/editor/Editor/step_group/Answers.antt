use Rattle.std.proofs.Common.{rules, ◌≡◌, ◌≤◌, true, length, chars, string_bytes, IfSome, sym, ap, ap₂, subst, ◌∙◌}
use Rattle.std.specs.Prelude.{None, Some}
use Rattle.bx_common.specs.Characters.{is_side}
use Rattle.bx_document.specs.Document.{DocumentState}
use Rattle.bx_document.specs.History.{next_changes}
use Rattle.bx_view.specs.Places.{IsTextPlace}
use Rattle.bx_editor.specs.declared.message.Message.{Message}
use Rattle.bx_editor.specs.Editor.{Editor, cleared, by_group, group_length}
use Rattle.bx_editor.specs.Functions.{EditorState}
use Rattle.bx_editor.specs.Answers.{IsAnswer}
use Rattle.bx_editor.specs.Origin.{BeganAt, StandsAt}
use Rattle.bx_editor.proofs.RunSteps.{by-length-is, cleared-length, no-step, none-mapped}
use Rattle.bx_editor.proofs.Viewed.{holds_with, value_with}
use Rattle.bx_editor.proofs.editor.Editor.step_group.Goals as goal

pub invariant_of-self-in_default : goal.invariant_of-self-in_default
invariant_of-self-in_default g c =
    let i = c.self.inside in
    let t : DocumentState g.row.D.Denot = i.document in
    let n = c.group_length-count.result in
    let none = none-mapped (next_changes c.args.step n t.document.content) (sym c.in_ok-place.ensures.place ∙ c.in_default.is) in
    let same : c.step_times.new.self ≡ t =
    c.in_ok-place.ensures.ok ∙ ap (λ x. record t { document = record t.document { content = x } }) (no-step c.args.step n t.document.content none) in
    subst (holds_with g.D.BidiData i) (sym same) c.self.invariant

pub returns-in_default-clause-ok : goal.returns-in_default-clause-ok
returns-in_default-clause-ok g c =
    let i = c.self.inside in
    let t : DocumentState g.row.D.Denot = i.document in
    let now : EditorState g.row.D.Denot = c.args.self.now in
    let n = c.group_length-count.result in
    let none = none-mapped (next_changes c.args.step n t.document.content) (sym c.in_ok-place.ensures.place ∙ c.in_default.is) in
    let same : c.step_times.new.self ≡ t =
    c.in_ok-place.ensures.ok ∙ ap (λ x. record t { document = record t.document { content = x } }) (no-step c.args.step n t.document.content none) in
    let left : next_changes c.args.step (group_length c.args.step (cleared now.editor)) now.editor.content ≡ None =
    ap (λ m. next_changes c.args.step m now.editor.content) (cleared-length c.args.step now.editor) ∙
    sym (ap₂ (λ m x. next_changes c.args.step m x) c.group_length-count.ensures (ap (λ (s : EditorState g.row.D.Denot). s.editor.content) c.self.view_is))
    ∙ none in
    let told : Message → EditorState g.row.D.Denot → EditorState g.row.D.Denot =
    λ m s. record s { editor = record (cleared s.editor) { message = Some m } } in
    c.tell.ensures
    ∙ ap (λ (x : DocumentState g.row.D.Denot). told c.nothing_left.result (value_with g.D.BidiData i x)) same
    ∙ ap (told c.nothing_left.result) c.self.view_is
    ∙ ap (λ m. told m now) c.nothing_left.ensures
    ∙ ap (λ x. record now { editor = by_group c.args.step (cleared now.editor) x }) (sym left)

pub returns-clause-ok : goal.returns-clause-ok
returns-clause-ok g c =
    let now : EditorState g.row.D.Denot = c.args.self.now in
    let was = cleared now.editor in
    search rules
    ∙ ap (λ (e : Editor). (let s : EditorState g.row.D.Denot = record { tables = now.tables; editor = e } in s))
    (by-length-is c.args.step was (next_changes c.args.step (group_length c.args.step was) was.content))
