use Rattle.std.proofs.Common.{length, ap, ◌∙◌, replicate}
use Rattle.std.proofs.lemmas.List.{take_at}
use Rattle.bx_grid.specs.Columns.{Unknown}
use Rattle.bx_grid.specs.Tokens.{fate}
use Rattle.bx_terminal.proofs.Uncut.{sound_unknown}
use Rattle.bx_terminal.proofs.live.Live.forget.Goals as goal

pub invariant_of-self : goal.invariant_of-self
invariant_of-self c =
    let sound = sound_unknown c.self.inside.height c.self.inside.width _ c.fill_unknown.new.columns c.self.inside.columns.items
    (take_at c.fill_unknown.new.columns _ c.self.inside.columns.len (c.fill_unknown.auto.columns ∙ c.as_mut_slice.ensures.len))
    (c.fill_unknown.ensures ∙ ap (λ xs. replicate (length xs) Unknown) c.as_mut_slice.ensures.value) c.self.invariant.sized in
    record { sized = sound.sized; position = tt; waits = ap fate c.clear-2.ensures.items; uncut = sound.uncut }
