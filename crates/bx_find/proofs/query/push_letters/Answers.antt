use Rattle.std.proofs.Common.{◌<◌, length, ap, arith, rules, drop, length-append, length-drop}
use Rattle.bx_find.proofs.query.push_letters.Goals as goal

pub push-requires : goal.push-requires
push-requires c =
    let fits : length c.loop-letter.letters.items < 256 = omega (
      arith,
      c.loop-letter-test.true,
      c.requires,
      ap length c.loop-letter.invariant,
      length-append c.loop-letter.letters.items (drop c.loop-letter.letter-index c.args.more.now),
      length-append c.args.letters.now.items c.args.more.now,
      length-drop c.loop-letter.letter-index c.args.more.now,
    ) in
    search rules
