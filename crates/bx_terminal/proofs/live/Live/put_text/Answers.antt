use Rattle.std.proofs.Common.{◌≡◌, ◌+◌, ◌<◌, ◌⊎◌, inl, inr, length, replicate, List, ap, sym, ◌∙◌, arith}
use Rattle.std.specs.Prelude.{string_bytes, IfSome}
use Rattle.std.proofs.lemmas.List.{take_at}
use Rattle.bx_grid.specs.declared.column.Column.{Column}
use Rattle.bx_grid.specs.Columns.{Unknown, put, run_columns}
use Rattle.bx_grid.specs.Seen.{all_seen}
use Rattle.bx_grid.specs.Terminal.{Terminal, glyphs_put, within}
use Rattle.bx_terminal.specs.Live.{terminal_of}
use Rattle.bx_grid.proofs.Puts.{run_length}
use Rattle.bx_terminal.proofs.RunEnds.{no_room, put_is, within_past}
use Rattle.bx_grid.proofs.RunEnds.{within_at}
use Rattle.bx_terminal.proofs.Uncut.{uncut_at, sound_unknown, sound_put, alone_run}
use Rattle.bx_terminal.proofs.live.Live.put_text.Goals as goal
use Rattle.bx_terminal.proofs.live.Live.put_text.Goals.{then-count-lt1-via-then-count-lt1, then-count-lt1-via-else-count-lt1+then-count-self, then-end-self}
use Rattle.bx_terminal.proofs.live.Live.put_text.Goals.{else-end-self}

pub returns-then-count-lt1 : goal.returns-then-count-lt1
returns-then-count-lt1 c =
    let t = c.args.self.now in
    let new = run_columns c.args.negative c.args.text.now in
    let counted : c.text_width-count.result ≡ length new =
    c.text_width-count.ensures ∙ sym (run_length c.args.negative c.args.text.now) in
    let wide : c.self.inside.width ≡ t.width = ap (λ (u : Terminal). u.width) c.self.view_is in
    let why : (length new < 1) ⊎ (t.width < c.args.column + length new) =
    elim c.then-count-lt1.branch [
      | then-count-lt1-via-then-count-lt1 w ↦ inl (let few = w.if-count-lt1.true in omega (arith, counted))
      | then-count-lt1-via-else-count-lt1+then-count-self w ↦ inr (let many = w.if-count-self.true in omega (arith, counted, wide))
    ] in
    c.forget.ensures ∙ sym (no_room t c.args.row c.args.column new why)

pub returns : goal.returns
returns c =
    let u : Terminal = terminal_of c.self.inside in
    let count = c.text_width-count.result in
    let new = run_columns c.args.negative c.args.text.now in
    let columns : all_seen c.show_at.new.columns ≡ put u.width u.columns c.args.row c.args.column new =
    c.in_ok-show_at.ensures.ok
    ∙ ap (λ xs. put u.width (all_seen xs) c.args.row c.args.column new) c.as_mut_slice-columns.ensures.value in
    let with_columns : List Column → Terminal = λ xs. record u { columns = all_seen xs; position = c.if-end-self.self; run = string_bytes c.clear.new.self } in
    let position : c.if-end-self.self ≡ within u.width c.args.row (c.args.column + count) =
    elim c.if-end-self.branch [
      | then-end-self w ↦ w.self-is ∙ sym (within_at u.width c.args.row (c.args.column + count) w.if-end-self.true)
      | else-end-self w ↦ w.self-is ∙ sym (within_past u.width c.args.row (c.args.column + count) w.if-end-self.false)
    ] in
    ap with_columns (take_at c.show_at.new.columns _ c.self.inside.columns.len (c.show_at.auto.columns ∙ c.as_mut_slice-columns.ensures.len))
    ∙ put_is u c.args.row c.args.column count c.args.negative c.args.text.now _ _ _ c.text_width-count.ensures
    c.if-count-lt1.false (omega (arith, c.if-count-self.false)) columns position
    c.clear.ensures.bytes
    ∙ ap (λ (t : Terminal). glyphs_put t (c.args.row, c.args.column) (run_columns c.args.negative c.args.text.now)) c.self.view_is

pub show_at-requires-clause-uncut : goal.show_at-requires-clause-uncut
show_at-requires-clause-uncut c =
    let s = c.self.inside in
    let height : s.height ≡ c.args.self.now.height = ap (λ (t : Terminal). t.height) c.self.view_is in
    rw (c.as_mut_slice-columns.ensures.value)
    (uncut_at s.height s.width c.args.row (all_seen s.columns.items) (omega (arith, height, c.requires.0)) c.self.invariant.uncut)

pub invariant_of-self : goal.invariant_of-self
invariant_of-self c =
    let s = c.self.inside in
    let sound = sound_unknown s.height s.width _ c.show_at.new.columns s.columns.items
    (take_at c.show_at.new.columns _ s.columns.len (c.show_at.auto.columns ∙ c.as_mut_slice-columns.ensures.len))
    (c.in_err-show_at.ensures.err ∙ ap (λ xs. replicate (length xs) Unknown) c.as_mut_slice-columns.ensures.value) c.self.invariant.sized in
    record { sized = sound.sized; position = c.self.invariant.position; waits = c.self.invariant.waits; uncut = sound.uncut }

pub invariant_of-self-2 : goal.invariant_of-self-2
invariant_of-self-2 c =
    let s = c.self.inside in
    let run = c.args.text.now in
    let count = c.text_width-count.result in
    let new = run_columns c.args.negative run in
    let length_new : length new ≡ count =
    run_length c.args.negative run ∙ sym c.text_width-count.ensures in
    let height : s.height ≡ c.args.self.now.height = ap (λ (t : Terminal). t.height) c.self.view_is in
    let position : IfSome c.if-end-self.self (λ p. (p.0 < s.height) × (p.1 < s.width)) =
    elim c.if-end-self.branch [
      | then-end-self w ↦ rw w.self-is (omega (arith, height, c.requires.0), w.if-end-self.true)
      | else-end-self w ↦ rw w.self-is tt
    ] in
    let sound = sound_put s.height s.width c.args.row c.args.column _ c.show_at.new.columns s.columns.items new
    (take_at c.show_at.new.columns _ s.columns.len (c.show_at.auto.columns ∙ c.as_mut_slice-columns.ensures.len))
    (c.show_at.auto.columns ∙ ap length c.as_mut_slice-columns.ensures.value)
    (c.in_ok-show_at.ensures.ok
    ∙ ap (λ xs. put s.width (all_seen xs) c.args.row c.args.column new) c.as_mut_slice-columns.ensures.value)
    (alone_run c.args.negative run) (omega (arith, height, c.requires.0)) (omega (arith, length_new, c.if-count-self.false, c.ranges.column.fits))
    (record { sized = c.self.invariant.sized; uncut = c.self.invariant.uncut }) in
    record { sized = sound.sized; position = position; waits = c.self.invariant.waits; uncut = sound.uncut }
