use Rattle.std.proofs.Common.{◌≡◌, ◌<◌, ◌-◌, ◌∙◌, ◌∷◌, List, ap, sym, arith, length, reverse, take, drop, rules}
use Rattle.std.specs.Prelude.{not}
use Rattle.std.proofs.lemmas.List.{get_or_default}
use Rattle.bx_ucd.specs.declared.class.Class.{Class}
use Rattle.bx_ucd.specs.declared.class.Class.TheVariants.{L}
use Rattle.bx_ucd.specs.Class.{is_initiator}
use Rattle.bx_levels.specs.declared.embedding.entry.Explicit.{Explicit}
use Rattle.bx_levels.specs.declared.embedding.open_chains.OpenChain.{OpenChain}
use Rattle.bx_levels.specs.embedding.OpenChains.{OpenRuns, is_over}
use Rattle.bx_levels.specs.embedding.Sequences.{starts_with_initiator}
use Rattle.bx_levels.proofs.embedding_lemmas.Newest.{over_is, over_higher, over_not_higher, initiator_at, ends_below}
use Rattle.bx_levels.proofs.embedding.open_chains.OpenChains.is_over.Goals as goal

pub index-requires : goal.index-requires
index-requires c =
    let x : Explicit = c.self.inside.explicit.now in
    let os : List OpenChain = reverse c.self.inside.chains.items in
    let rest : List OpenChain = reverse (take (length c.deref.result.now - 1) c.deref.result.now) in
    let e : os ≡ c.newest-newest.result ∷ rest = ap reverse (sym c.deref.ensures.value) ∙ c.newest-newest.ensures in
    let low : c.newest-newest.result.last < length x.classes.items =
    omega (arith, ends_below x.kept.items os rest c.newest-newest.result c.self.inside.firsts.items e c.self.invariant, x.as_long) in
    search rules

pub returns-then-run-newest : goal.returns-then-run-newest
returns-then-run-newest c =
    let x : Explicit = c.self.inside.explicit.now in
    let cs : List Class = x.classes.items in
    let o : OpenChain = c.newest-newest.result in
    let os : List OpenChain = reverse c.self.inside.chains.items in
    let rest : List OpenChain = reverse (take (length c.deref.result.now - 1) c.deref.result.now) in
    let e : os ≡ o ∷ rest = ap reverse (sym c.deref.ensures.value) ∙ c.newest-newest.ensures in
    over_higher c.args.run.level o.level (not (starts_with_initiator (drop o.last cs))) c.if-run-newest.true
    ∙ sym (over_is cs x.kept.items os rest o c.self.inside.firsts.items c.args.run e c.self.invariant)
    ∙ ap (λ (v : OpenRuns). is_over v.explicit.classes.items v.chains c.args.run) c.self.view_is

pub returns-else-run-newest : goal.returns-else-run-newest
returns-else-run-newest c =
    let x : Explicit = c.self.inside.explicit.now in
    let cs : List Class = x.classes.items in
    let o : OpenChain = c.newest-newest.result in
    let os : List OpenChain = reverse c.self.inside.chains.items in
    let rest : List OpenChain = reverse (take (length c.deref.result.now - 1) c.deref.result.now) in
    let e : os ≡ o ∷ rest = ap reverse (sym c.deref.ensures.value) ∙ c.newest-newest.ensures in
    let low : o.last < length cs = omega (arith, ends_below x.kept.items os rest o c.self.inside.firsts.items e c.self.invariant, x.as_long) in
    let read : c.is_initiator.result ≡ starts_with_initiator (drop o.last cs) = c.is_initiator.ensures
    ∙ ap is_initiator (c.index.ensures ∙ get_or_default cs o.last c.index.result.now L low) ∙ sym (initiator_at cs o.last low) in
    ap not read ∙ over_not_higher c.args.run.level o.level (not (starts_with_initiator (drop o.last cs))) c.if-run-newest.false
    ∙ sym (over_is cs x.kept.items os rest o c.self.inside.firsts.items c.args.run e c.self.invariant)
    ∙ ap (λ (v : OpenRuns). is_over v.explicit.classes.items v.chains c.args.run) c.self.view_is
