use Rattle.std.specs.Prelude.{IfSome}
use Rattle.std.proofs.Common.{◌<◌, length, sym, subst}
use Rattle.bx_levels.proofs.brackets_lemmas.Closers.{found_pair, searched_close, pairs_close}
use Rattle.bx_levels.proofs.brackets.search.meet_closer.Goals as goal

pub note_closer-requires-clause-within : goal.note_closer-requires-clause-within
note_closer-requires-clause-within c = subst (λ x. IfSome x (λ k. k < length c.args.closers.now.items)) (sym c.close-opener.ensures.index)
    (found_pair c.args.count c.args.index c.args.closer c.args.closers.now.items c.args.open.now c.requires.searched)

pub returns-clause-searched : goal.returns-clause-searched
returns-clause-searched c = rw (c.close-opener.ensures.left, c.note_closer.ensures, c.close-opener.ensures.index)
    (searched_close c.args.count c.args.index c.args.closer c.args.open.now c.args.closers.now.items c.requires.within c.requires.searched)

pub returns-clause-pairs : goal.returns-clause-pairs
returns-clause-pairs c = rw (c.note_closer.ensures, c.close-opener.ensures.index)
    (pairs_close c.args.count c.args.index c.args.closer c.args.open.now c.args.closers.now.items c.requires.within c.requires.searched)
