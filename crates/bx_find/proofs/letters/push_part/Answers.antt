use Rattle.std.proofs.Common.{List, ℕ, ◌++◌, ◌∙◌, ap, sym, append-nil, length, arith}
use Rattle.bx_find.proofs.LettersOf.{part_passed, part_kept}
use Rattle.bx_find.proofs.letters.push_part.Goals as goal

pub returns-then-is_passed_over : goal.returns-then-is_passed_over
returns-then-is_passed_over g c =
    let items = c.args.letters.now.items in
    sym (append-nil items)
    ∙ ap (λ (ls : List ℕ). items ++ ls)
    (part_passed (g.D.BidiData.data c.args.tables.now) c.args.part c.is_passed_over.result c.is_passed_over.ensures c.if-is_passed_over.true)

pub push_folded-requires : goal.push_folded-requires
push_folded-requires g c =
    let same = part_kept (g.D.BidiData.data c.args.tables.now) c.args.part c.is_passed_over.result c.is_passed_over.ensures c.if-is_passed_over.false in
    omega (arith, c.requires, ap length same)

pub returns : goal.returns
returns g c =
    c.push_folded.ensures
    ∙ ap (λ (ls : List ℕ). c.args.letters.now.items ++ ls)
    (part_kept (g.D.BidiData.data c.args.tables.now) c.args.part c.is_passed_over.result c.is_passed_over.ensures c.if-is_passed_over.false)
