use Rattle.std.proofs.Common.{◌≡◌, [], List, Option, ap, sym, subst, drop}
use Rattle.bx_levels.specs.declared.embedding.entry.Explicit.{Explicit}
use Rattle.bx_levels.specs.declared.embedding.entry.ExplicitChar.{ExplicitChar}
use Rattle.bx_levels.specs.declared.embedding.runs.Run.{Run}
use Rattle.bx_levels.specs.embedding.Sequences.{runs_from, sequences}
use Rattle.bx_levels.specs.embedding.Walk.{AreGiven, ending, runs_to_come}
use Rattle.bx_levels.proofs.embedding_lemmas.Counted.{given_few}
use Rattle.bx_levels.proofs.embedding_lemmas.SequenceOrder.{all_given}
use Rattle.bx_levels.proofs.embedding_lemmas.Ending.{come_is}
use Rattle.bx_levels.proofs.embedding.walk.SequenceWalk.new.Goals as goal

pub returns-clause-given : goal.returns-clause-given
returns-clause-given c =
    let e : Explicit = c.args.explicit.now in
    let kept : List (Option ExplicitChar) = e.kept.items in
    let o : Option Run = c.next_run.result in
    let found : runs_to_come c.deref.result.now o ≡ runs_from 0 (drop 0 c.deref.result.now) =
    come_is c.deref.result.now 0 o c.next_run.ensures.none c.next_run.ensures.some in
    let runs : runs_to_come kept o ≡ runs_from 0 kept = subst (λ g. runs_to_come g o ≡ runs_from 0 g) c.deref.ensures.value found in
    let none : ending e.level e.classes.items kept [] (runs_to_come kept o) ≡ ending e.level e.classes.items kept c.new.result.chains (runs_to_come kept o) =
    ap (λ cs. ending e.level e.classes.items kept cs (runs_to_come kept o)) (sym c.new.ensures.none) in
    subst (λ g. AreGiven g (sequences e.level e.classes.items kept)) none (all_given e (runs_to_come kept o) e.by_rules e.paragraph runs)

pub returns-clause-few : goal.returns-clause-few
returns-clause-few c =
    let e : Explicit = c.args.explicit.now in
    given_few e.level e.classes.items e.kept.items _ (returns-clause-given c)
