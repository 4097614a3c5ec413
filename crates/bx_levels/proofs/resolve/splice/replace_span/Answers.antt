use Rattle.std.proofs.Common.{◌≡◌, ◌∙◌, ap, sym}
use Rattle.std.specs.List.{splice}
use Rattle.std.proofs.lemmas.Iterator.{items_from_drains}
use Rattle.std.proofs.lemmas.Iterator.Adapters.{YieldsList-from_vec}
use Rattle.std.proofs.lemmas.List.{map-id}
use Rattle.bx_levels.proofs.resolve.splice.replace_span.Goals as goal

pub returns-clause-ok : goal.returns-clause-ok
returns-clause-ok c =
    let made = c.in_ok-_gone.ensures.items in
    let found : made.1 ≡ c.args.found.items =
    sym (map-id made.1) ∙ items_from_drains made.1 (made.3.1.0, made.3.1.1, λ _. (made.3.0, made.3.1.2)) (YieldsList-from_vec c.args.found.items made.2.0 (made.2.1 ∙ c.args.found.ok.0)) in
    made.4 ∙ ap (λ xs. splice c.make_room.new.levels.items c.args.span.start c.args.span.stop xs) found
    ∙ ap (λ ls. splice ls c.args.span.start c.args.span.stop c.args.found.items) c.make_room.ensures
