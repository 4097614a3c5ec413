use Rattle.std.proofs.Common.{rules}
use Rattle.bx_rows.proofs.MirroredLetters.{single}
use Rattle.bx_rows.proofs.mirrors.single_char.Goals as goal

pub returns : goal.returns
returns c = single c.args.text.now c.in_ok-c.behind.now c.in_ok-c.c c.utf8.text c.in_ok-c.ensures.0 (search rules)
