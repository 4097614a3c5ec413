use Rattle.std.proofs.Common.{rules, ◌≡◌, ◌+◌, ◌++◌, ℕ, List, [], take, ◌∙◌, replicate, ◌-◌}
use Rattle.std.specs.Prelude.{vec_len}
use Rattle.bx_input.specs.Heard.{Reading}
use Rattle.bx_input.proofs.Hearing.{hears, kept_consumes, held_first, cut_back}
use Rattle.bx_input.proofs.frame_reader.hear.Goals as goal
use Rattle.bx_input.proofs.frame_reader.hear.Goals.{in-Ok, in-Err}

pub returns-clause-left : goal.returns-clause-left
returns-clause-left g c =
    let s : Reading = c.args.inbox.now in
    let new : Reading = record {
      machine = c.inbox.inside.machine;
      held = c.truncate.new.self.items;
      ready = c.inbox.inside.ready.items;
      is_over = c.inbox.inside.is_over;
    } in
    let start : ℕ = c.len-start.result in
    let count : ℕ = c.match-answer.count in
    let given : List ℕ = c.read-answer.new.buf in
    let front : take start c.deref_mut.result.now ≡ s.held = held_first s.held c.deref_mut.result.now (replicate (start + 4096 - vec_len c.inbox.inside.held) 0) start 4096 (search rules) (search rules) in
    let held : new.held ≡ s.held ++ take count given = c.truncate.ensures.items ∙ cut_back s.held (take start c.deref_mut.result.now) given _ _ start count c.resize.new.self.len front (search rules) (search rules) (search rules) in
    elim c.match-answer.branch [
      | in-Ok w ↦ hears s new (take count given) _ _ held (search rules) (search rules) (search rules) (search rules)
      | in-Err w ↦ hears s new [] _ _ (search rules) (search rules) (search rules) (search rules) (kept_consumes _ _ (search rules))
    ]
