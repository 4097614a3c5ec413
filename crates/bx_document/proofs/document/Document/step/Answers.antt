use Rattle.std.proofs.Common.{◌≡◌, OnOk, IfOk, option_map, subst}
use Rattle.bx_document.proofs.PlacesKept.{next_one, stepped_one}
use Rattle.bx_document.proofs.document.Document.step.Goals as goal

pub returns-clause-ok : goal.returns-clause-ok
returns-clause-ok g c =
    let now = c.args.self.now in
    subst (λ x. OnOk c.step_times.result
    (c.step_times.new.self ≡ record now { document = record now.document { content = x } })) (stepped_one c.args.step now.document.content)
    c.step_times.ensures.ok

pub returns-clause-place : goal.returns-clause-place
returns-clause-place g c =
    subst (λ x. IfOk c.step_times.result (λ o. o ≡ option_map (λ k. k.place) x)) (next_one c.args.step c.args.self.now.document.content)
    c.step_times.ensures.place
