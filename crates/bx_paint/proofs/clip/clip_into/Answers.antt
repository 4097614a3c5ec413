use Rattle.std.proofs.Common.{arith}
use Rattle.bx_grid.proofs.Clips.{clip_changes_nothing}
use Rattle.bx_grid.proofs.Encodings.{encoded_decodes}
use Rattle.bx_paint.proofs.Clips.{shows_after, effects_after, tokens_after}
use Rattle.bx_paint.proofs.clip.clip_into.Goals as goal

pub returns-in-Ok-clause-same : goal.returns-in-Ok-clause-same
returns-in-Ok-clause-same c = λ t idle. clip_changes_nothing t c.args.held.now idle (λ i. let low = c.type_inv.held i in omega arith)

pub returns-in-Ok-clause-shows : goal.returns-in-Ok-clause-shows
returns-in-Ok-clause-shows c = shows_after c.args.held.now (λ i. let low = c.type_inv.held i in omega arith)

pub returns-in-Ok-clause-sends : goal.returns-in-Ok-clause-sends
returns-in-Ok-clause-sends c = effects_after c.args.held.now (λ i. let low = c.type_inv.held i in omega arith)

pub returns-in-Ok-clause-tokens : goal.returns-in-Ok-clause-tokens
returns-in-Ok-clause-tokens c = tokens_after c.args.held.now (λ i. let low = c.type_inv.held i in omega arith)

pub returns-in-Ok-clause-gives : goal.returns-in-Ok-clause-gives
returns-in-Ok-clause-gives c = encoded_decodes c.args.held.now (λ i. let low = c.type_inv.held i in omega arith)

pub returns-in-Err-clause-same : goal.returns-in-Err-clause-same
returns-in-Err-clause-same c = λ t idle. clip_changes_nothing t c.args.held.now idle (λ i. let low = c.type_inv.held i in omega arith)

pub returns-in-Err-clause-shows : goal.returns-in-Err-clause-shows
returns-in-Err-clause-shows c = shows_after c.args.held.now (λ i. let low = c.type_inv.held i in omega arith)

pub returns-in-Err-clause-sends : goal.returns-in-Err-clause-sends
returns-in-Err-clause-sends c = effects_after c.args.held.now (λ i. let low = c.type_inv.held i in omega arith)

pub returns-in-Err-clause-tokens : goal.returns-in-Err-clause-tokens
returns-in-Err-clause-tokens c = tokens_after c.args.held.now (λ i. let low = c.type_inv.held i in omega arith)

pub returns-in-Err-clause-gives : goal.returns-in-Err-clause-gives
returns-in-Err-clause-gives c = encoded_decodes c.args.held.now (λ i. let low = c.type_inv.held i in omega arith)
