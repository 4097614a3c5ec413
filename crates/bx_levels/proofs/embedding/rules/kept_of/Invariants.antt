-- The results so far, and the results of the rest.
use Rattle.std.proofs.Common.{◌≡◌, ◌≤◌, ◌++◌, drop}
use Rattle.bx_levels.specs.embedding.Explicit.{explicit_levels, explicit_from}
use Rattle.bx_levels.proofs.embedding_lemmas.Steps.{total}
use Rattle.bx_levels.proofs.embedding.rules.kept_of.Given as goal

abbrev pub invariant-loop-i : goal.invariant-loop-i
invariant-loop-i l = record {
  few : total l.state ≤ l.i;
  kept : explicit_levels l.fn.level l.classes
      ≡ l.kept.items ++ explicit_from l.state (drop l.i l.classes);
}
