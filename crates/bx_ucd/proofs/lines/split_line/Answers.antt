-- The first line ends at the first line feed.
use Rattle.bx_ucd.proofs.LineLemmas.{lines_last, lines_at}
use Rattle.bx_ucd.proofs.lines.split_line.Goals as goal

pub returns-then-end-bytes-clause-lines : goal.returns-then-end-bytes-clause-lines
returns-then-end-bytes-clause-lines c = lines_last c.args.bytes.now c.requires (cc)

pub returns-else-end-bytes-clause-lines : goal.returns-else-end-bytes-clause-lines
returns-else-end-bytes-clause-lines c =
    lines_at c.args.bytes.now c.without_carriage_return.result.now c.position_or_len-end.result c.position_or_len-end.ensures.first c.if-end-bytes.false
    c.without_carriage_return.ensures
