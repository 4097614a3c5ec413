use Rattle.std.proofs.Common.{◌∙◌}
use Rattle.bx_input.proofs.Sequences.{known_match}
use Rattle.bx_input.proofs.known.is_sequence.Goals as goal

pub returns : goal.returns
returns c = c.is_among.ensures ∙ known_match c.known_rows.result.now c.args.bytes.now c.known_rows.ensures
