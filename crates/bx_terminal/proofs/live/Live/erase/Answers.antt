use Rattle.std.proofs.Common.{◌-◌, length, ap, ◌∙◌, replicate, arith}
use Rattle.std.proofs.lemmas.List.{take_at, length-replicate}
use Rattle.bx_grid.specs.Columns.{blank, put}
use Rattle.bx_grid.specs.Seen.{all_seen}
use Rattle.bx_terminal.proofs.Uncut.{uncut_at, sound_put, alone_blanks}
use Rattle.bx_terminal.proofs.live.Live.erase.Goals as goal

pub erase_at-requires-clause-uncut : goal.erase_at-requires-clause-uncut
erase_at-requires-clause-uncut c =
    let s = c.self.inside in
    let row = c.in-Some-Some-false.row in
    let inside = rw (c.in-Some-Some-false.is-0) at c.self.invariant.position in
    rw (c.as_mut_slice.ensures.value) (uncut_at s.height s.width row (all_seen s.columns.items) inside.0 c.self.invariant.uncut)

pub invariant_of-self : goal.invariant_of-self
invariant_of-self c =
    let s = c.self.inside in
    let row = c.in-Some-Some-false.row in
    let column = c.in-Some-Some-false.column in
    let blanks = replicate (s.width - column) blank in
    let inside = rw (c.in-Some-Some-false.is-0) at c.self.invariant.position in
    let sound = sound_put s.height s.width row column _ c.erase_at.new.columns s.columns.items blanks
    (take_at c.erase_at.new.columns _ s.columns.len (c.erase_at.auto.columns ∙ c.as_mut_slice.ensures.len))
    (c.erase_at.auto.columns ∙ ap length c.as_mut_slice.ensures.value)
    (c.erase_at.ensures ∙ ap (λ xs. put s.width (all_seen xs) row column blanks) c.as_mut_slice.ensures.value)
    (alone_blanks (s.width - column)) inside.0 (omega (arith, length-replicate (s.width - column) blank, inside.1))
    (record { sized = c.self.invariant.sized; uncut = c.self.invariant.uncut }) in
    record { sized = sound.sized; position = tt; waits = c.self.invariant.waits; uncut = sound.uncut }
