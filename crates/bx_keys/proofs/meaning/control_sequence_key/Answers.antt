use Rattle.std.proofs.Common.{sym, arith}
use Rattle.bx_keys.proofs.OtherFinals.{long_no_key, other_final_no_key}
use Rattle.bx_keys.proofs.meaning.control_sequence_key.Goals as goal

pub returns-in_default-2-clause-value : goal.returns-in_default-2-clause-value
returns-in_default-2-clause-value c =
    sym (other_final_no_key c.args.between.now c.args.last (omega (arith, c.in-len1.len_at_least)) c.if-last-eq116.false c.if-last-eq126.false)

pub returns-in_default-2-2-clause-value : goal.returns-in_default-2-2-clause-value
returns-in_default-2-2-clause-value c =
    sym (other_final_no_key c.args.between.now c.args.last (omega (arith, c.in-len2.len_at_least)) c.if-last-eq116.false c.if-last-eq126-2.false)

pub returns-in_default-2-3-clause-value : goal.returns-in_default-2-3-clause-value
returns-in_default-2-3-clause-value c =
    sym (other_final_no_key c.args.between.now c.args.last (omega (arith, c.in-len3.len_at_least)) c.if-last-eq116.false c.if-last-eq126-3.false)

pub returns-in_default-2-4-clause-value : goal.returns-in_default-2-4-clause-value
returns-in_default-2-4-clause-value c = sym (long_no_key c.args.between.now c.args.last (omega (arith, c.in_default-2.len_at_least)) c.if-last-eq116.false)
