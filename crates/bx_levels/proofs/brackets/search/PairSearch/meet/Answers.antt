use Rattle.std.proofs.Common.{◌≤◌, subst, sym}
use Rattle.bx_levels.specs.brackets.Search.{Searching}
use Rattle.bx_levels.proofs.brackets_lemmas.Closers.{searched_later}
use Rattle.bx_levels.proofs.brackets.search.PairSearch.meet.Goals as goal

pub meet_bracket-requires-clause-searched : goal.meet_bracket-requires-clause-searched
meet_bracket-requires-clause-searched g c = searched_later c.self.inside.count c.self.inside.next c.args.index c.self.inside.openers
    c.self.inside.closers.items (subst (λ (s : Searching). s.next ≤ c.args.index) (sym c.self.view_is) c.requires.next) c.self.invariant.1
