use Rattle.std.proofs.Common.{◌≡◌, ◌++◌, drop, ap, sym, ◌∙◌}
use Rattle.std.proofs.lemmas.List.{append-nil}
use Rattle.bx_paint.specs.Painting.{Step, column_sent, nothing_sent}
use Rattle.bx_paint.proofs.Sent.{alike_sent}
use Rattle.bx_paint.proofs.writing.write_at.Goals as goal

nothing : (c : goal.Then-begins_alike)
    → column_sent c.args.row c.args.index c.args.pen.near c.args.pen.negative (drop c.args.index c.args.old.now) (drop c.args.index c.args.new.now)
    ≡ nothing_sent c.args.pen.negative
nothing c =
    alike_sent c.args.row c.args.index c.args.pen.near c.args.pen.negative (drop c.args.index c.args.old.now) (drop c.args.index c.args.new.now)
    (c.begins_alike.ensures c.if-begins_alike.true)

pub returns-then-begins_alike-clause-bytes : goal.returns-then-begins_alike-clause-bytes
returns-then-begins_alike-clause-bytes c =
    let out = c.args.out.now.painting in
    sym (append-nil out) ∙ ap (λ (s : Step). out ++ s.bytes) (sym (nothing c))

pub returns-then-begins_alike-clause-near : goal.returns-then-begins_alike-clause-near
returns-then-begins_alike-clause-near c = ap (λ (s : Step). s.near) (sym (nothing c))

pub returns-then-begins_alike-clause-rendition : goal.returns-then-begins_alike-clause-rendition
returns-then-begins_alike-clause-rendition c = ap (λ (s : Step). s.negative) (sym (nothing c))
