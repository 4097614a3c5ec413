use Rattle.std.proofs.Common.{◌≡◌, ◌∙◌, ap, sym, length, rules}
use Rattle.bx_levels.specs.brackets.Search.{pairs_in}
use Rattle.bx_levels.proofs.brackets_lemmas.Closers.{pairs_none, pairs_empty, searched_entries}
use Rattle.bx_levels.proofs.brackets.search.need_entries.Goals as goal

pub returns-in_ok-make_entries-clause-pairs : goal.returns-in_ok-make_entries-clause-pairs
returns-in_ok-make_entries-clause-pairs c =
    let none : length c.args.closers.now.items ≡ 0 = search rules in
    ap (pairs_in 0) c.in_ok-make_entries.ensures.ok ∙ pairs_none 0 c.args.count ∙ sym (pairs_empty 0 c.args.closers.now.items none)

pub returns-in_ok-make_entries-clause-searched : goal.returns-in_ok-make_entries-clause-searched
returns-in_ok-make_entries-clause-searched c = λ j os h s.
    let none : length c.args.closers.now.items ≡ 0 = search rules in
    rw (c.in_ok-make_entries.ensures.ok) (searched_entries c.args.count j os c.args.closers.now.items h none s)
