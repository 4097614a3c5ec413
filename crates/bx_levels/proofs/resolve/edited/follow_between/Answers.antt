-- The spliced levels are the levels of the new text.
use Rattle.std.proofs.Common.{chars, ◌∙◌, ap, refl}
use Rattle.std.specs.List.{splice}
use Rattle.bx_levels.proofs.resolve_lemmas.FollowedEdits.{follows_between}
use Rattle.bx_levels.proofs.resolve.edited.follow_between.Goals as goal

pub returns-clause-law : goal.returns-clause-law
returns-clause-law g c =
    follows_between (g.D.BidiData.data c.args.tables.now) (chars c.args.piece.now)
    c.args.levels.now (record c.args.levels.now { each = c.replace_span.new.levels }) refl c.args.span.start c.args.span.stop
    (c.in_ok-replace_span.ensures.ok
    ∙ ap (λ xs. splice c.args.levels.now.each.items c.args.span.start c.args.span.stop xs) c.in_ok-found.ensures)
