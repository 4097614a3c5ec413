use Rattle.bx_paint.proofs.Law.{changes_show}
use Rattle.bx_paint.proofs.Few.{same_changes, few_changes}
use Rattle.bx_paint.proofs.WholeTokens.{changes_tokens}
use Rattle.bx_paint.proofs.painting.changes_into.Goals as goal

pub returns-in-Ok-clause-shows : goal.returns-in-Ok-clause-shows
returns-in-Ok-clause-shows c t h =
    let sent = c.write_changes.ensures in
    (changes_show c.args.old.now c.args.new.now sent.old sent.new c.requires.height c.requires.width t h).shows

pub returns-in-Ok-clause-sends : goal.returns-in-Ok-clause-sends
returns-in-Ok-clause-sends c t h =
    let sent = c.write_changes.ensures in
    (changes_show c.args.old.now c.args.new.now sent.old sent.new c.requires.height c.requires.width t h).sends

pub returns-in-Ok-clause-few : goal.returns-in-Ok-clause-few
returns-in-Ok-clause-few c =
    let sent = c.write_changes.ensures in
    few_changes c.args.old.now c.args.new.now sent.old sent.new.grid c.requires.height c.requires.width

pub returns-in-Ok-clause-nothing : goal.returns-in-Ok-clause-nothing
returns-in-Ok-clause-nothing c = same_changes c.args.old.now c.args.new.now

pub returns-in-Err-clause-shows : goal.returns-in-Err-clause-shows
returns-in-Err-clause-shows c t h =
    let sent = c.write_changes.ensures in
    (changes_show c.args.old.now c.args.new.now sent.old sent.new c.requires.height c.requires.width t h).shows

pub returns-in-Err-clause-sends : goal.returns-in-Err-clause-sends
returns-in-Err-clause-sends c t h =
    let sent = c.write_changes.ensures in
    (changes_show c.args.old.now c.args.new.now sent.old sent.new c.requires.height c.requires.width t h).sends

pub returns-in-Err-clause-few : goal.returns-in-Err-clause-few
returns-in-Err-clause-few c =
    let sent = c.write_changes.ensures in
    few_changes c.args.old.now c.args.new.now sent.old sent.new.grid c.requires.height c.requires.width

pub returns-in-Err-clause-nothing : goal.returns-in-Err-clause-nothing
returns-in-Err-clause-nothing c = same_changes c.args.old.now c.args.new.now

pub returns-in-Ok-clause-tokens : goal.returns-in-Ok-clause-tokens
returns-in-Ok-clause-tokens c = changes_tokens c.args.old.now c.args.new.now c.write_changes.ensures.new

pub returns-in-Err-clause-tokens : goal.returns-in-Err-clause-tokens
returns-in-Err-clause-tokens c = changes_tokens c.args.old.now c.args.new.now c.write_changes.ensures.new
