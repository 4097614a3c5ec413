-- The letters found and the letters of the parts that remain are all the letters.
use Rattle.std.proofs.Common.{◌≡◌, ◌++◌, drop}
use Rattle.bx_find.specs.Letters.{letters_of_parts}
use Rattle.bx_find.proofs.letters.wide_letters.Given as goal

abbrev pub invariant-loop-part : goal.invariant-loop-part
invariant-loop-part g l =
    l.letters.items ++ letters_of_parts (g.D.BidiData.data l.tables) (drop l.part-index l.part-items)
    ≡ letters_of_parts (g.D.BidiData.data l.tables) l.part-items
