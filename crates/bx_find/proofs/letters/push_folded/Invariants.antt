-- What is pushed and what is left of the folding.
use Rattle.std.proofs.Common.{◌≡◌, ◌++◌, map, drop}
use Rattle.bx_find.specs.Letters.{main_letter}
use Rattle.bx_find.proofs.letters.push_folded.Given as goal

abbrev pub invariant-loop-part : goal.invariant-loop-part
invariant-loop-part l =
    l.letters.items ++ map main_letter (drop l.part-index l.folding) ≡ l.initial.letters.items ++ map main_letter l.folding
