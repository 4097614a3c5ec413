use Rattle.std.proofs.Common.{◌≡◌, ◌≤◌, ◌-◌, ◌∙◌, ◌∷◌, ℕ, List, ap, sym, subst, length, reverse, take}
use Rattle.bx_levels.specs.declared.embedding.entry.Explicit.{Explicit}
use Rattle.bx_levels.specs.declared.embedding.open_chains.OpenChain.{OpenChain}
use Rattle.bx_levels.specs.embedding.OpenChains.{OpenRuns, newest_sequence}
use Rattle.bx_levels.specs.embedding.Stack.{max_depth}
use Rattle.bx_levels.specs.embedding.StoredChains.{BeginsRun}
use Rattle.bx_levels.proofs.embedding_lemmas.Newest.{level_is, newest_index, last_begins, newest_is_open}
use Rattle.bx_levels.proofs.embedding_lemmas.RunWalk.{level_low}
use Rattle.bx_levels.proofs.embedding.open_chains.OpenChains.level.Goals as goal

pub returns-clause-value : goal.returns-clause-value
returns-clause-value c =
    let x : Explicit = c.self.inside.explicit.now in
    let os : List OpenChain = reverse c.self.inside.chains.items in
    let rest : List OpenChain = reverse (take (length c.deref.result.now - 1) c.deref.result.now) in
    let e : os ≡ c.newest.result ∷ rest = ap reverse (sym c.deref.ensures.value) ∙ c.newest.ensures in
    subst (λ (v : OpenRuns). c.newest.result.level ≡ (newest_sequence v).level) c.self.view_is
    (level_is x os rest c.newest.result c.self.inside.firsts.items e c.self.invariant)

pub returns-clause-low : goal.returns-clause-low
returns-clause-low c =
    let x : Explicit = c.self.inside.explicit.now in
    let os : List OpenChain = reverse c.self.inside.chains.items in
    let rest : List OpenChain = reverse (take (length c.deref.result.now - 1) c.deref.result.now) in
    let ps : List ℕ = c.self.inside.firsts.items in
    let e : os ≡ c.newest.result ∷ rest = ap reverse (sym c.deref.ensures.value) ∙ c.newest.ensures in
    let b : BeginsRun x.kept.items c.newest.result.level (newest_index ps) =
    last_begins x.kept.items c.newest.result ps (newest_is_open x.kept.items os rest c.newest.result ps e c.self.invariant) in
    subst (λ l. l ≤ max_depth) b.of_level (level_low x.kept.items (newest_index ps) x.low)
