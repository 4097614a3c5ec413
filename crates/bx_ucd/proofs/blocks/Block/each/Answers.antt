-- An array of one class has it at each index.
use Rattle.std.proofs.lemmas.List.{get_or-replicate}
use Rattle.bx_ucd.specs.declared.class.Class.TheVariants.{L}
use Rattle.bx_ucd.proofs.blocks.Block.each.Goals as goal

pub returns-in-Some-clause-each : goal.returns-in-Some-clause-each
returns-in-Some-clause-each c i lt = rw c.in-Some.is (get_or-replicate 256 i c.in-Some.class L lt)
