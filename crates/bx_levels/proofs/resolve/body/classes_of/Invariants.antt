-- The classes of the characters read so far.
use Rattle.std.proofs.Common.{◌≡◌, map, length, take, chars}
use Rattle.bx_levels.proofs.resolve.body.classes_of.Given as goal

abbrev pub invariant-loop-c : goal.invariant-loop-c
invariant-loop-c g l = l.classes.items ≡ map (g.D.BidiData.data l.tables).class (take (length l.yielded) (chars l.text))
