-- The first part ends at the first separator.
use Rattle.std.specs.Prelude.{◌==◌}
use Rattle.std.proofs.Common.{◌∙◌, sym}
use Rattle.bx_ucd.proofs.LineLemmas.{slice_split_whole, slice_split_at_first}
use Rattle.bx_ucd.proofs.parts.split_once.Goals as goal

pub returns-then-end-text : goal.returns-then-end-text
returns-then-end-text c = slice_split_whole (λ b. b == c.args.separator) c.args.text.now (sym c.position_or_len-end.ensures.first ∙ c.if-end-text.true)

pub returns-else-end-text : goal.returns-else-end-text
returns-else-end-text c = slice_split_at_first (λ b. b == c.args.separator) c.args.text.now c.position_or_len-end.result c.position_or_len-end.ensures.first
    c.if-end-text.false
