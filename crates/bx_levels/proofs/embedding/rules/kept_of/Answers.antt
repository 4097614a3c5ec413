use Rattle.std.proofs.Common.{◌≡◌, ◌+◌, ◌∙◌, ◌≤◌, ◌++◌, ◌∷◌, [], ℕ, List, ap, arith, append_assoc, drop, get_or}
use Rattle.std.proofs.lemmas.List.{get_or_default}
use Rattle.bx_ucd.specs.declared.class.Class.{Class}
use Rattle.bx_ucd.specs.declared.class.Class.TheVariants.{L}
use Rattle.bx_levels.specs.declared.embedding.state.State.{State}
use Rattle.bx_levels.specs.embedding.Explicit.{role_of, explicit_from, kept_by, state_after}
use Rattle.bx_levels.proofs.embedding_lemmas.Steps.{total, total_next, levels_for}
use Rattle.bx_levels.proofs.embedding.rules.kept_of.Goals as goal

pub loop-i-preserved : goal.loop-i-preserved
loop-i-preserved c =
    let cs : List Class = c.args.classes.now in
    let k : Class = get_or cs c.loop-i.i L in
    let first : ℕ = c.index.result.now in
    let next : State = state_after (role_of k) first c.loop-i.state in
    let new : c.step.new.self ≡ next = c.step.ensures.next in
    let few : total next ≤ total c.loop-i.state + 1 = total_next (role_of k) first c.loop-i.state in
    let given : c.step.result ≡ kept_by (role_of k) k c.loop-i.state next = c.step.ensures.kept ∙ ap (λ s. kept_by (role_of k) k c.loop-i.state s) new in
    let pushed : c.push.new.self.items ≡ c.loop-i.kept.items ++ c.step.result ∷ [] = c.in_ok-push.ensures.items in
    let more : explicit_from c.loop-i.state (drop c.loop-i.i cs) ≡ kept_by (role_of k) k c.loop-i.state next ∷ explicit_from next (drop (c.loop-i.i + 1) cs) =
    levels_for cs c.loop-i.i c.loop-i.state first (omega arith)
    (λ f. c.index.ensures ∙ get_or_default c.in_ok-firsts.firsts.items c.loop-i.i c.index.result.now 0 (omega (arith, c.in_ok-firsts.ensures.as_long))
    ∙ c.in_ok-firsts.ensures.levels c.loop-i.i (omega arith) f) in
    let joined : (c.loop-i.kept.items ++ c.step.result ∷ []) ++ explicit_from next (drop (c.loop-i.i + 1) cs)
    ≡ c.loop-i.kept.items ++ (c.step.result ∷ explicit_from next (drop (c.loop-i.i + 1) cs)) =
    append_assoc c.loop-i.kept.items (c.step.result ∷ []) (explicit_from next (drop (c.loop-i.i + 1) cs)) in
    record {
      few = rw new (omega arith);
      kept = cc;
    }
