use Rattle.std.proofs.Common.{◌∙◌}
use Rattle.bx_input.proofs.Sequences.{known_begin}
use Rattle.bx_input.proofs.known.begins_sequence.Goals as goal

pub returns : goal.returns
returns c = c.begins_among.ensures ∙ known_begin c.known_rows.result.now c.args.bytes.now c.known_rows.ensures
