use Rattle.std.proofs.Common.{◌≤◌, ◌+◌, length, ap, subst, arith}
use Rattle.bx_text.specs.index.Paragraphs.{total}
use Rattle.bx_text.specs.index.Flat.{flat, IsSpanAround}
use Rattle.bx_text.proofs.index_lemmas.Turns.{total_lengths}
use Rattle.bx_text.proofs.index.index.touched.Goals as goal

pub overflow_add-change : goal.overflow_add-change
overflow_add-change g c =
    let was = c.requires.was in
    let inside : c.args.change.now.start + c.args.change.now.removed ≤ length was.0 = was.3.old_range.stop_bounds.0 in
    omega (arith, inside, ap total was.2, total_lengths (g.D.BidiData.data c.args.tables.now) was.0 was.1, c.requires.short)

pub returns : goal.returns
returns g c =
    let was = c.requires.was in (
      was.0,
      record {
        old_utf8 = was.1;
        new_utf8 = c.len-utf8.ensures.utf8;
        is_change = was.3;
        were = was.2;
        first_is = subst (λ n. IsSpanAround (flat c.args.front.now.blocks) n c.find-first.result) c.saturating_sub.ensures c.find-first.ensures;
        last_is = c.find-last.ensures;
      },
    )
