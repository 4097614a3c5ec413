use Rattle.std.proofs.Common.{sym}
use Rattle.bx_paint.proofs.writing.is_same_front.Goals as goal

pub returns-then-begins_otherwise : goal.returns-then-begins_otherwise
returns-then-begins_otherwise c = sym (c.begins_otherwise.ensures c.if-begins_otherwise.true c.args.count c.if-count-gt0.true)
