-- By the loop's invariant no earlier byte is a blank.
use Rattle.std.proofs.Common.{◌≡◌, arith, sym, ◌∙◌, length}
use Rattle.std.proofs.lemmas.List.Sums.{position_or_len_is}
use Rattle.bx_ucd.specs.Lines.{is_blank}
use Rattle.bx_ucd.proofs.words.word_len.Goals as goal

pub returns-then-is_blank-clause-first : goal.returns-then-is_blank-clause-first
returns-then-is_blank-clause-first c =
    sym (position_or_len_is is_blank c.args.text.now c.loop-i.i 0 (omega arith) c.loop-i.invariant (λ _. sym c.is_blank.ensures ∙ c.if-is_blank.true))

pub returns-clause-first : goal.returns-clause-first
returns-clause-first c =
    let e : c.loop-i.i ≡ length c.args.text.now = omega arith in
    sym (position_or_len_is is_blank c.args.text.now (length c.args.text.now) 0 (omega arith) (λ k lt. c.loop-i.invariant k (omega arith))
    (λ lt. absurd (omega arith)))
