use Rattle.std.proofs.Common.{◌∙◌}
use Rattle.bx_terminal.proofs.StringBytes.{string_more}
use Rattle.bx_terminal.proofs.token.fate_after_escape.Goals as goal

pub returns-else-kind-eq91 : goal.returns-else-kind-eq91
returns-else-kind-eq91 c =
    c.fate_in_string.ensures ∙ string_more c.args.rest.now c.args.byte c.in-len1-up.len_at_least c.if-kind-eq91.false c.requires
