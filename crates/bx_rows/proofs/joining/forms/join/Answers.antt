use Rattle.std.proofs.Common.{true, false, sym, ◌∙◌}
use Rattle.std.proofs.Math.Bool.{and-false, and-true}
use Rattle.bx_rows.proofs.joining_lemmas.LowestLevels.{join-lowest}
use Rattle.bx_rows.proofs.joining.forms.join.Goals as goal

pub returns-then-is_lower_than_one : goal.returns-then-is_lower_than_one
returns-then-is_lower_than_one c between e =
    sym (join-lowest c.args.first c.args.second between c.args.lowest true e (sym c.is_lower_than_one.ensures ∙ c.if-is_lower_than_one.true) ∙ and-false _)

pub returns : goal.returns
returns c between e =
    c.could_join.ensures
    ∙ sym (join-lowest c.args.first c.args.second between c.args.lowest false e (sym c.is_lower_than_one.ensures ∙ c.if-is_lower_than_one.false) ∙ and-true _)
