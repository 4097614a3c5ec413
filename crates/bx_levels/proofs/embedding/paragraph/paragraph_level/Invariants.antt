-- The level follows from the rest of the text, in which `isolates` isolates are open.
use Rattle.std.proofs.Common.{◌≡◌, ◌≤◌, drop}
use Rattle.bx_levels.specs.embedding.ParagraphLevel.{paragraph_level}
use Rattle.bx_levels.proofs.embedding_lemmas.Scan.{level_of_rest}
use Rattle.bx_levels.proofs.embedding.paragraph.paragraph_level.Given as goal

abbrev pub invariant-loop-class : goal.invariant-loop-class
invariant-loop-class l = record {
  few : l.isolates ≤ l.class-index;
  level : paragraph_level l.classes ≡ level_of_rest l.isolates (drop l.class-index l.classes);
}
