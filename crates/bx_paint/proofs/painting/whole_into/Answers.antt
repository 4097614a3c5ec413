use Rattle.bx_paint.proofs.Law.{whole_shows}
use Rattle.bx_paint.proofs.WholeTokens.{whole_tokens}
use Rattle.bx_paint.proofs.painting.whole_into.Goals as goal

pub returns-in-Ok-clause-shows : goal.returns-in-Ok-clause-shows
returns-in-Ok-clause-shows c = whole_shows c.args.picture.now c.write_whole.ensures.picture

pub returns-in-Err-clause-shows : goal.returns-in-Err-clause-shows
returns-in-Err-clause-shows c = whole_shows c.args.picture.now c.write_whole.ensures.picture

pub returns-in-Ok-clause-tokens : goal.returns-in-Ok-clause-tokens
returns-in-Ok-clause-tokens c = whole_tokens c.args.picture.now c.write_whole.ensures.picture

pub returns-in-Err-clause-tokens : goal.returns-in-Err-clause-tokens
returns-in-Err-clause-tokens c = whole_tokens c.args.picture.now c.write_whole.ensures.picture
