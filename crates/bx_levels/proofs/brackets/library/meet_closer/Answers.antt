use Rattle.std.proofs.Common.{◌∙◌, sym}
use Rattle.bx_levels.proofs.brackets_lemmas.Insert.{close_some}
use Rattle.bx_levels.proofs.brackets.library.meet_closer.Goals as goal

pub returns-in_ok-insert_pair-in-Some-clause-later : goal.returns-in_ok-insert_pair-in-Some-clause-later
returns-in_ok-insert_pair-in-Some-clause-later c =
    close_some c.args.index c.args.closer c.args.open.now c.args.found.now.items c.close.new.self c.requires c.in-Some.ensures.left c.in-Some.opener
    c.insert_pair.new.found.items (sym c.in-Some.is ∙ c.close.ensures.index) c.in_ok-insert_pair-in-Some.ensures
