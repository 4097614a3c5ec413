use Rattle.std.proofs.Common.{arith}
use Rattle.bx_levels.proofs.embedding_lemmas.Rising.{room}
use Rattle.bx_levels.proofs.embedding.stack.EntryStack.push.Goals as goal

pub push-requires : goal.push-requires
push-requires c = (omega arith, room c.self.inside.entries.items c.args.entry.level c.self.invariant (rw c.self.view_is c.requires.above) c.requires.low)
