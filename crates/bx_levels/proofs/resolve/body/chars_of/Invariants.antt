-- The characters read so far.
use Rattle.std.proofs.Common.{◌≡◌, length, take, chars}
use Rattle.bx_levels.proofs.resolve.body.chars_of.Given as goal

abbrev pub invariant-loop-c : goal.invariant-loop-c
invariant-loop-c l = l.found.items ≡ take (length l.yielded) (chars l.text)
