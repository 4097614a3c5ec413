use Rattle.std.proofs.Common.{◌++◌, ◌∙◌, ap₂, sym}
use Rattle.bx_paragraph.proofs.EditedText.{changed-left}
use Rattle.bx_paragraph.proofs.body_edit.changed_from.Goals as goal

pub returns : goal.returns
returns c =
    let e = c.args.edit.now in
    c.in_ok-text.ensures ∙ ap₂ (λ xs ys. xs ++ (e.inserted.now ++ ys)) c.range-before.ensures.value c.range_from.ensures.value
    ∙ sym (changed-left e c.requires.edit c.args.from c.requires.before)
