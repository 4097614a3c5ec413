use Rattle.std.proofs.Common.{sym, ◌∙◌, arith}
use Rattle.bx_keys.proofs.Sequences.{control_more, long_more}
use Rattle.bx_keys.proofs.sequence.fate_in_sequence.Goals as goal

pub returns-in-91 : goal.returns-in-91
returns-in-91 c =
    c.fate_after_csi.ensures ∙ sym (control_more c.args.sequence.now c.args.byte c.in-91.len_at_least (omega arith) c.requires)

pub returns-in_default : goal.returns-in_default
returns-in_default c =
    c.fate_after_intermediate.ensures
    ∙ sym (long_more c.args.sequence.now c.args.byte c.in_default.len_at_least (omega arith) (omega arith) c.requires)
