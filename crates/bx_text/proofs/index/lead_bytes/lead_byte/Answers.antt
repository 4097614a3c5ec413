use Rattle.std.proofs.Common.{sym, arith}
use Rattle.bx_text.proofs.index_lemmas.FirstBytes.{lead_two, lead_three, lead_four}
use Rattle.bx_text.proofs.index.lead_bytes.lead_byte.Goals as goal

pub returns-then-code-lt2048 : goal.returns-then-code-lt2048
returns-then-code-lt2048 c = sym (lead_two c.args.code (omega (arith, c.if-code-lt128.false)) (omega (arith, c.if-code-lt2048.true)))

pub returns-then-code-lt65536 : goal.returns-then-code-lt65536
returns-then-code-lt65536 c = sym (lead_three c.args.code (omega (arith, c.if-code-lt2048.false)) (omega (arith, c.if-code-lt65536.true)))

pub returns-else-code-lt65536 : goal.returns-else-code-lt65536
returns-else-code-lt65536 c = sym (lead_four c.args.code (omega (arith, c.if-code-lt65536.false)))
