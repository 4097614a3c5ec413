-- By the loop's invariant each byte from `end` on is a blank, and the byte before `end`, if any, is not a blank.
use Rattle.std.proofs.Common.{◌≡◌, ◌<◌, ◌-◌, arith, sym, ap, take, false, get_or}
use Rattle.std.proofs.lemmas.List.Sums.{suffix_len_is}
use Rattle.bx_ucd.specs.Lines.{is_blank}
use Rattle.bx_ucd.proofs.lines.without_trailing_blanks.Goals as goal
use Rattle.bx_ucd.proofs.lines.without_trailing_blanks.Goals.{then-loop-end-test+else-is_blank, else-loop-end-test}

pub returns : goal.returns
returns c =
    let stops : 0 < c.loop-end.end → is_blank (get_or c.args.bytes.now (c.loop-end.end - 1) 0) ≡ false =
    elim c.loop-end-test.branch [ then-loop-end-test+else-is_blank w ↦ λ _. sym w.if-is_blank.ensures | else-loop-end-test w ↦ λ lt. absurd (omega arith) ] in
    let n = suffix_len_is is_blank c.args.bytes.now c.loop-end.end 0 (c.loop-end.invariant.0) (c.loop-end.invariant.1) stops in
    ap (λ k. take k c.args.bytes.now) (omega (arith, n))
