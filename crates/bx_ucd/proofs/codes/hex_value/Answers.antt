-- Each step takes the first digit of the rest.
use Rattle.std.proofs.Common.{◌<◌, ◌≤◌, ◌∙◌, arith}
use Rattle.bx_ucd.proofs.HexLemmas.{values, values_small, values_more, tested_more, value_more}
use Rattle.bx_ucd.proofs.codes.hex_value.Goals as goal

pub overflow_add-value : goal.overflow_add-value
overflow_add-value c =
    let few : values c.loop-b.b-index ≤ 1048576 = values_small c.loop-b.b-index (omega arith) in
    omega (arith, c.in_ok-digit.ensures.value.0, c.in_ok-digit.ensures.value.1)

pub loop-b-preserved : goal.loop-b-preserved
loop-b-preserved c =
    let within = c.loop-b-test.true in
    let small : c.in_ok-digit.digit < 16 = omega (arith, c.in_ok-digit.ensures.value.0, c.in_ok-digit.ensures.value.1) in
    record {
      tested = c.loop-b.invariant.tested ∙ tested_more c.args.digits.now c.loop-b.b-index c.from.result c.in_ok-digit.digit within c.from.ensures
          c.in_ok-digit.ensures.value.0;
      value = c.loop-b.invariant.value ∙ value_more c.args.digits.now c.loop-b.b-index c.from.result c.loop-b.value c.in_ok-digit.digit within c.from.ensures
          c.in_ok-digit.ensures.value.1;
      small = values_more c.loop-b.value c.in_ok-digit.digit c.loop-b.b-index c.loop-b.invariant.small small;
    }
