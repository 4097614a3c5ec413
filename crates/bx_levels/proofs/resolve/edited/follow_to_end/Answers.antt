-- The same to its end.
use Rattle.std.proofs.Common.{◌≤◌, ◌∙◌, length, chars, rules}
use Rattle.bx_levels.specs.resolve.Levels.{paragraph_levels}
use Rattle.bx_levels.proofs.resolve_lemmas.FollowedEdits.{follows_to_end}
use Rattle.bx_levels.proofs.resolve_lemmas.Spliced.{splice_to_end}
use Rattle.bx_levels.proofs.resolve.edited.follow_to_end.Goals as goal

pub returns-clause-law : goal.returns-clause-law
returns-clause-law g c =
    let whole : length c.args.levels.now.each.items ≤ c.len-stop.result = search rules in
    follows_to_end (g.D.BidiData.data c.args.tables.now) (chars c.args.piece.now)
    c.args.levels.now c.follow_between.new.levels c.in_ok-follow_between.ensures.paragraph c.args.first
    (c.in_ok-follow_between.ensures.each ∙ splice_to_end c.args.levels.now.each.items
    (paragraph_levels (g.D.BidiData.data c.args.tables.now) c.args.levels.now.paragraph (chars c.args.piece.now))
    c.args.first c.len-stop.result whole)
