use Rattle.std.proofs.Common.{get_or, arith}
use lib.Bits.{bit_xor}
use Rattle.bx_grid.proofs.Coded.{below_or, codes_equal, codes_told, none_differ}
use Rattle.bx_grid.proofs.codes.bits_of.Goals as goal

pub loop-i-preserved : goal.loop-i-preserved
loop-i-preserved c =
    let codes = c.args.codes.now in
    let others = c.args.others.now in
    let i = c.loop-i.i in
    let met = c.loop-i.invariant in
    record {
      differing = below_or (λ k. bit_xor (get_or codes k 0) (get_or others k 0)) i c.loop-i.bits.differing met.differing;
      none = none_differ codes others i c.loop-i.bits.differing met.none;
      any = below_or (λ k. get_or codes k 0) i c.loop-i.bits.any met.any;
    }

pub returns-clause-same : goal.returns-clause-same
returns-clause-same c none =
    codes_equal c.args.codes.now c.args.others.now c.loop-i.bits.differing c.requires
    (λ k inside. c.loop-i.invariant.differing k (omega (arith, inside, c.loop-i-test.false))) none

pub returns-clause-told : goal.returns-clause-told
returns-clause-told c low =
    codes_told c.args.codes.now c.loop-i.bits.any (λ k inside. c.loop-i.invariant.any k (omega (arith, inside, c.loop-i-test.false))) low
