use Rattle.std.proofs.Common.{sym, arith}
use Rattle.bx_keys.proofs.Characters.{character_key_more}
use Rattle.bx_keys.proofs.meaning.key_of.Goals as goal

pub returns-in_default-clause-value : goal.returns-in_default-clause-value
returns-in_default-clause-value c =
    sym (character_key_more c.args.waiting.now c.args.byte c.character.result c.in_default.len_at_least (omega arith) c.character.ensures)
