use Rattle.std.proofs.Common.{◌≡◌, ◌<◌, ◌∙◌, List, ap, sym, arith, take, reverse, length}
use Rattle.bx_ucd.specs.declared.class.Class.{Class}
use Rattle.bx_levels.specs.brackets.Resolve.{nearest}
use Rattle.bx_levels.proofs.brackets_lemmas.Context.{take_resolved}
use Rattle.bx_levels.proofs.brackets.resolve.resolve_next.Goals as goal

pub returns-clause-known : goal.returns-clause-known
returns-clause-known c =
    let ts : List Class = c.args.types.now in
    let us : List Class = c.resolve_in-known.new.types in
    let low : c.args.pair.0 < c.args.pair.1 = c.requires.within.ordered in
    let high : c.args.pair.1 < length ts = c.requires.within.ends in
    let same : take c.args.pair.0 us ≡ take c.args.pair.0 ts = ap (take c.args.pair.0) c.resolve_in-known.ensures.types
    ∙ take_resolved c.args.embedding c.context-before.result c.args.was_nsm.now c.args.pair ts c.requires.within in
    record {
      within = omega arith;
      context_is = c.context-before.ensures ∙ sym (ap (λ xs. nearest c.args.sos (reverse xs)) same);
      clear = c.resolve_in-known.ensures.clear;
    }
