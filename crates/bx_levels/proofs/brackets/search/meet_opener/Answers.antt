use Rattle.std.proofs.Common.{◌+◌, arith}
use Rattle.bx_levels.proofs.brackets_lemmas.Closers.{searched_later}
use Rattle.bx_levels.proofs.brackets.search.meet_opener.Goals as goal

pub returns-then-is_full-clause-searched : goal.returns-then-is_full-clause-searched
returns-then-is_full-clause-searched c =
    searched_later c.args.count c.args.index (c.args.index + 1) c.args.open.now c.args.closers.now.items (omega arith) c.requires.searched

pub returns-in_err-need_entries-clause-searched : goal.returns-in_err-need_entries-clause-searched
returns-in_err-need_entries-clause-searched c =
    searched_later c.args.count c.args.index (c.args.index + 1) c.args.open.now c.need_entries.new.closers.items (omega arith)
    (c.need_entries.ensures.searched c.args.index c.args.open.now c.requires.within c.requires.searched)
