use Rattle.std.proofs.Common.{ℕ, List, Option, ◌≡◌, ◌∷◌, [], ◌++◌, ◌∙◌, ap, ap₂, sym, arith, length, length-append, drop, ◌-◌, ◌+◌}
use Rattle.std.specs.Prelude.{option_to_list}
use Rattle.bx_find.specs.Prefix.{offsets_of, found_after, matches_after}
use Rattle.bx_find.proofs.Fallen.{one_more, whole_prefix}
use Rattle.bx_find.proofs.prefix.lengthen.Goals as goal

pub returns-then-len-all-clause-found : goal.returns-then-len-all-clause-found
returns-then-len-all-clause-found c ps =
    ap offsets_of (one_more c.args.prefix.now c.args.query.now c.args.place ps c.requires)
    ∙ ap (λ (os : List (Option ℕ)). matches_after c.args.query.now os ps) (sym c.push.ensures)

pub returns-clause-found : goal.returns-clause-found
returns-clause-found c ps =
    let prefix = c.push.new.self in
    let more : length prefix ≡ length c.args.prefix.now + 1 = ap length c.push.ensures ∙ length-append c.args.prefix.now (c.args.place ∷ []) in
    let full : length prefix ≡ c.len-all.result = omega (arith, more, c.requires, c.len-all.ensures.value, c.if-len-all.false, c.len.ensures) in
    ap offsets_of (one_more c.args.prefix.now c.args.query.now c.args.place ps c.requires
    ∙ ap (λ (os : List (Option ℕ)). found_after c.args.query.now os ps) (sym c.push.ensures)
    ∙ whole_prefix c.args.query.now prefix c.len-all.result _ ps full (omega (arith, c.len-all.ensures.some)) c.len-all.ensures.value c.border.ensures)
    ∙ ap₂ (λ i (os : List (Option ℕ)). option_to_list i ++ matches_after c.args.query.now os ps) (sym c.oldest-found.ensures)
    (ap (λ n. drop (n - c.border.result) prefix) (sym full) ∙ sym c.keep_newest.ensures)
