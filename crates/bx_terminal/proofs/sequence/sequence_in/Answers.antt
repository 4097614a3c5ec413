use Rattle.std.proofs.Common.{sym, ◌∙◌, refl}
use Rattle.bx_terminal.proofs.AtOnce.{sequence_told}
use Rattle.bx_terminal.proofs.sequence.sequence_in.Goals as goal

pub returns-in-len1-up : goal.returns-in-len1-up
returns-in-len1-up c =
    let cut = c.params_len-count.ensures in
    sequence_told c.args.body.now _ _ c.params_len-count.result _ c.command_of.result cut.within cut.front c.split_at.ensures.front c.split_at.ensures.back
    c.in-len1-up.len_at_least refl (sym c.is_last.ensures ∙ c.if-is_last.true) c.command_of.ensures
