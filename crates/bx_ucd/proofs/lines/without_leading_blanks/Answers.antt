-- By the loop's invariant each byte before is a blank.
use Rattle.std.proofs.Common.{◌≡◌, arith, sym, length, ap, ◌∙◌, drop}
use Rattle.std.proofs.lemmas.List.Sums.{prefix_len_is}
use Rattle.std.proofs.lemmas.List.{take_rest}
use Rattle.std.proofs.Math.Seq.{drop-length}
use Rattle.bx_ucd.specs.Lines.{is_blank}
use Rattle.bx_ucd.proofs.lines.without_leading_blanks.Goals as goal

pub returns-then-not-is_blank : goal.returns-then-not-is_blank
returns-then-not-is_blank c =
    take_rest c.args.bytes.now c.loop-i.i
    ∙ ap (λ n. drop n c.args.bytes.now)
    (sym (prefix_len_is is_blank c.args.bytes.now c.loop-i.i 0 (omega arith) c.loop-i.invariant (λ _. sym c.if-not-is_blank.ensures)))

pub returns : goal.returns
returns c =
    let e : c.loop-i.i ≡ length c.args.bytes.now = omega arith in
    sym (drop-length c.args.bytes.now)
    ∙ ap (λ n. drop n c.args.bytes.now)
    (sym (prefix_len_is is_blank c.args.bytes.now (length c.args.bytes.now) 0 (omega arith) (λ k lt. c.loop-i.invariant k (omega arith))
    (λ lt. absurd (omega arith))))
