use Rattle.std.proofs.Common.{◌-◌, length, ap, ◌∙◌, sym, replicate}
use Rattle.std.proofs.lemmas.List.{take_at}
use Rattle.bx_grid.specs.Columns.{blank}
use Rattle.bx_grid.specs.Grid.{paste}
use Rattle.bx_grid.specs.Seen.{all_seen}
use Rattle.bx_terminal.proofs.Uncut.{sound_blank}
use Rattle.bx_terminal.proofs.live.Live.clear.Goals as goal

pub invariant_of-self : goal.invariant_of-self
invariant_of-self c =
    let count = c.len-count.result in
    let sound = sound_blank c.self.inside.height c.self.inside.width count _ c.fill_blank.new.columns c.self.inside.columns.items
    (take_at c.fill_blank.new.columns _ c.self.inside.columns.len (c.fill_blank.auto.columns ∙ c.as_mut_slice.ensures.len))
    (c.len-count.ensures ∙ sym c.as_mut_slice.ensures.len ∙ ap length c.as_mut_slice.ensures.value)
    (c.fill_blank.ensures ∙ ap (λ xs. paste (all_seen xs) 0 (replicate (count - 0) blank)) c.as_mut_slice.ensures.value) c.self.invariant.sized in
    record { sized = sound.sized; position = tt; waits = c.self.invariant.waits; uncut = sound.uncut }
