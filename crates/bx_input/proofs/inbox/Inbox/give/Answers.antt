use Rattle.std.proofs.Common.{rules, ◌++◌, ℕ, take, drop}
use Rattle.bx_input.specs.Heard.{Reading}
use Rattle.bx_input.proofs.Hearing.{copied_first, gives}
use Rattle.bx_input.proofs.inbox.Inbox.give.Goals as goal

pub returns-clause-left : goal.returns-clause-left
returns-clause-left c =
    let new : Reading = record {
      machine = c.self.inside.machine;
      held = c.self.inside.held.items;
      ready = c.drop-drain.new.self.0.items;
      is_over = c.self.inside.is_over;
    } in
    let count : ℕ = c.min-count.result in
    gives c.args.self.now new count (take count (c.copy_from_slice.new.self ++ drop count c.args.buffer.now))
    (copied_first count c.copy_from_slice.new.self (drop count c.args.buffer.now) c.args.self.now.ready (search rules) (search rules))
    (search rules) (search rules) (search rules) (search rules)
