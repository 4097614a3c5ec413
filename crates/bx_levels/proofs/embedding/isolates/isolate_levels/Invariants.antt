-- The levels of the texts after index `i`, and the answers from `i` on.
use Rattle.std.proofs.Common.{◌≡◌, ◌≤◌, ◌<◌, ◌+◌, ℕ, drop, length, get_or}
use Rattle.bx_levels.specs.embedding.ParagraphLevel.{isolate_level}
use Rattle.bx_levels.proofs.embedding_lemmas.Texts.{texts}
use Rattle.bx_levels.proofs.embedding.isolates.isolate_levels.Given as goal

abbrev pub invariant-loop-i : goal.invariant-loop-i
invariant-loop-i l = record {
  few : l.i ≤ length l.classes;
  as_long : length l.levels.items ≡ length l.classes;
  texts : l.texts ≡ texts (drop l.i l.classes);
  done : (k : ℕ) → l.i ≤ k → k < length l.classes → get_or l.levels.items k 0 ≡ isolate_level (drop (k + 1) l.classes);
}

abbrev pub decreases-loop-i : goal.decreases-loop-i
decreases-loop-i l = l.i
