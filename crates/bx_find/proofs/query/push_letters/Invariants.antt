-- What is pushed and what is left.
use Rattle.std.proofs.Common.{◌≡◌, ◌++◌, drop}
use Rattle.bx_find.proofs.query.push_letters.Given as goal

abbrev pub invariant-loop-letter : goal.invariant-loop-letter
invariant-loop-letter l = l.letters.items ++ drop l.letter-index l.more ≡ l.initial.letters.items ++ l.more
