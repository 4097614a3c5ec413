use Rattle.bx_editor.proofs.editor.Editor.set.Goals as goal

pub invariant_of-self : goal.invariant_of-self
invariant_of-self g c =
    let kept = c.self.invariant in
    (kept.0, kept.1, kept.2, kept.3, kept.4, kept.5, kept.6, kept.7, tt, kept.9, kept.10)
