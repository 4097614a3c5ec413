use Rattle.std.proofs.Common.{◌≡◌, ◌<◌, ◌∙◌, List, ap, subst, sym, arith, length}
use Rattle.bx_ucd.specs.declared.class.Class.{Class}
use Rattle.bx_levels.specs.brackets.Clear.{AreClear}
use Rattle.bx_levels.proofs.brackets_lemmas.ClearRanges.{still_clear}
use Rattle.bx_levels.proofs.brackets_lemmas.Context.{change_length}
use Rattle.bx_levels.proofs.brackets.resolve.resolve_in.Goals as goal

pub returns-in-Some-clause-clear : goal.returns-in-Some-clause-clear
returns-in-Some-clause-clear c =
    let ts : List Class = c.args.types.now in
    let us : List Class = c.change_bracket-end.new.types in
    let d : Class = c.in-Some.d in
    let low : c.args.pair.0 < length ts = omega (arith, c.requires.within.ordered, c.requires.within.ends) in
    let long : length us ≡ length ts = ap length c.change_bracket-end.ensures.value ∙ change_length d c.args.was_nsm.now ts c.args.pair.0 low in
    let high : c.args.pair.1 < length us = omega (arith, c.requires.within.ends) in
    subst (AreClear c.args.embedding c.change_bracket.new.types) (sym c.clear_after.ensures)
    (still_clear c.args.embedding d c.args.was_nsm.now ts us c.change_bracket.new.types c.args.pair.0 c.args.pair.1 c.change_bracket-end.result
    c.pair_direction-taken.result.1 low high c.change_bracket-end.ensures.value c.change_bracket.ensures.value c.change_bracket-end.ensures.rest
    c.pair_direction-taken.ensures.clear)
