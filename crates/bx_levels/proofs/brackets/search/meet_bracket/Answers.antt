use Rattle.std.proofs.Common.{◌≡◌, subst, false}
use Rattle.std.specs.Prelude.{IfOk}
use Rattle.bx_levels.specs.brackets.Search.{progress, pairs_in}
use Rattle.bx_levels.proofs.brackets_lemmas.Closers.{opener_turn}
use Rattle.bx_levels.proofs.brackets.search.meet_bracket.Goals as goal

pub returns-in-Opener-default-clause-turn : goal.returns-in-Opener-default-clause-turn
returns-in-Opener-default-clause-turn c =
    subst (λ t. IfOk c.meet_opener.result (λ r. progress c.meet_opener.new.open (pairs_in 0 c.meet_opener.new.closers.items) r ≡ t))
    (opener_turn c.args.index c.args.c c.args.bracket (progress c.args.open.now (pairs_in 0 c.args.closers.now.items) false) c.in-Opener-default.is-0)
    c.meet_opener.ensures.turn
