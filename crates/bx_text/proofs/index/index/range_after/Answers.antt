use Rattle.std.proofs.Common.{◌-◌, ◌+◌, arith, refl}
use Rattle.bx_text.proofs.index_lemmas.Followed.{added_in, old_in}
use Rattle.bx_text.proofs.index_lemmas.Reached.{range_is}
use Rattle.bx_text.proofs.index.index.range_after.Goals as goal

pub overflow_add-stop : goal.overflow_add-stop
overflow_add-stop g c = omega (arith, added_in c.requires.touched.1, c.len-len.ensures.len, c.len-len.ensures.short)

pub overflow_add-change : goal.overflow_add-change
overflow_add-change g c = omega (arith, old_in c.requires.touched.1 _ c.requires.short)

pub returns : goal.returns
returns g c =
    let touched = c.requires.touched.1 in
    range_is touched _ (c.len-len.result - (c.args.change.now.start + c.args.change.now.added)) c.rest_behind-body.result c.quiet_until.ensures refl refl refl
    (omega (arith, c.len-len.ensures.len)) c.rest_behind-body.ensures
