use Rattle.std.proofs.Common.{◌<◌, length, rules}
use Rattle.bx_find.proofs.LettersOf.{fold_room}
use Rattle.bx_find.proofs.letters.push_folded.Goals as goal

pub push-requires-in-loop-part : goal.push-requires-in-loop-part
push-requires-in-loop-part c =
    let fits : length c.loop-part.letters.items < 4 =
    fold_room c.args.c c.loop-part.part-index c.full_folding-folding.result.now c.loop-part.letters.items c.args.letters.now.items
    c.full_folding-folding.ensures.value c.loop-part-test.true c.loop-part.invariant c.requires in
    search rules
