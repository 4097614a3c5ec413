use Rattle.std.proofs.Common.{◌≡◌, ◌∙◌, sym, arith, true, false}
use Rattle.std.specs.Prelude.{nat_lt}
use Rattle.std.proofs.lemmas.Bool.Decides.{nat_tests}
use Rattle.bx_levels.proofs.brackets_lemmas.ClearRanges.{clear_more, none_in, some_in}
use Rattle.bx_levels.proofs.brackets.resolve.has.Goals as goal
use Rattle.bx_levels.proofs.brackets.resolve.has.Goals.{then-loop-k-test+else-not-counts_as, else-loop-k-test}

pub loop-k-preserved : goal.loop-k-preserved
loop-k-preserved c = record {
  clear = clear_more c.args.d c.args.types.now c.args.from c.loop-k.k c.loop-k.invariant.clear (sym c.counts_as.ensures ∙ c.if-not-counts_as.true);
  begun = omega (arith, c.loop-k.invariant.begun);
}

pub returns-clause-found : goal.returns-clause-found
returns-clause-found c = elim c.loop-k-test.branch [
  | then-loop-k-test+else-not-counts_as w ↦
      let less : nat_lt c.loop-k.k c.args.to ≡ true = grind (arith, nat_tests, w.loop-k-test.true) in
      less ∙ sym (some_in c.args.d c.args.types.now c.args.from c.args.to c.loop-k.k c.requires.within c.loop-k.invariant.begun w.loop-k-test.true
      (sym w.counts_as.ensures ∙ w.if-not-counts_as.false))
  | else-loop-k-test w ↦
      let more : nat_lt c.loop-k.k c.args.to ≡ false = grind (arith, nat_tests, w.loop-k-test.false) in
      more ∙ sym (none_in c.args.d c.args.types.now c.args.from c.args.to c.requires.within
      (λ k a b. c.loop-k.invariant.clear k a (omega (arith, w.loop-k-test.false))))
]
