use Rattle.std.proofs.Common.{◌≡◌, ℕ, ◌∷◌, [], ◌++◌, ◌-◌, take, drop, length, ap, ◌∙◌}
use Rattle.std.proofs.lemmas.List.{take_rest}
use Rattle.bx_grid.specs.Terminal.{Terminal, after_command, token_read}
use Rattle.bx_terminal.specs.Live.{terminal_of}
use Rattle.bx_grid.proofs.Reading.{at}
use Rattle.bx_terminal.proofs.Halves.{end_read}
use Rattle.bx_terminal.proofs.live.Live.end_sequence.Goals as goal

shape_of : (u t : Terminal) (b : ℕ) → u ≡ t → t.half_read ++ b ∷ [] ≡ 0x1B ∷ drop 1 (t.half_read ++ b ∷ [])
    → u.half_read ++ b ∷ [] ≡ 0x1B ∷ drop 1 (u.half_read ++ b ∷ [])
shape_of u t b e h = rw e h

pub returns : goal.returns
returns c =
    let u : Terminal = terminal_of c.self.inside in
    let rest = take (length c.deref.result.now - 1) (drop 1 c.deref.result.now) in
    let shape : u.half_read ++ c.args.byte ∷ [] ≡ 0x1B ∷ drop 1 (u.half_read ++ c.args.byte ∷ []) =
    shape_of u c.args.self.now c.args.byte c.self.view_is c.requires in
    let is : rest ≡ drop 1 (u.half_read ++ c.args.byte ∷ []) = take_rest c.deref.result.now 1
    ∙ ap (drop 1) (c.deref.ensures.value ∙ c.in_ok-push.ensures.items) in
    c.obey.ensures
    ∙ ap (λ half_read. after_command (at u half_read) c.in_ok-command.field-0) c.clear.ensures.items
    ∙ ap (after_command (at u [])) c.in_ok-command.ensures
    ∙ end_read u c.args.byte rest shape is c.self.invariant.sized.high c.self.invariant.sized.wide
    ∙ ap (λ (t : Terminal). token_read t (t.half_read ++ c.args.byte ∷ [])) c.self.view_is
