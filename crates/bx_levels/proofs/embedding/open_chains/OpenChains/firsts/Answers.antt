use Rattle.std.proofs.Common.{◌≡◌, ◌-◌, ◌∙◌, ◌∷◌, ℕ, List, ap, sym, length, reverse, take, drop}
use Rattle.std.proofs.lemmas.List.{take_rest}
use Rattle.bx_levels.specs.declared.embedding.entry.Explicit.{Explicit}
use Rattle.bx_levels.specs.declared.embedding.open_chains.OpenChain.{OpenChain}
use Rattle.bx_levels.specs.embedding.LevelIndexes.{indexes_from}
use Rattle.bx_levels.specs.embedding.OpenChains.{OpenRuns, newest_sequence}
use Rattle.bx_levels.proofs.embedding_lemmas.Newest.{level_is, indexes_is}
use Rattle.bx_levels.proofs.embedding.open_chains.OpenChains.firsts.Goals as goal

pub returns : goal.returns
returns c =
    let x : Explicit = c.self.inside.explicit.now in
    let os : List OpenChain = reverse c.self.inside.chains.items in
    let rest : List OpenChain = reverse (take (length c.deref.result.now - 1) c.deref.result.now) in
    let o : OpenChain = c.newest-newest.result in
    let ps : List ℕ = c.self.inside.firsts.items in
    let e : os ≡ o ∷ rest = ap reverse (sym c.deref.ensures.value) ∙ c.newest-newest.ensures in
    let firsts : take (length c.deref-2.result.now - o.begin) (drop o.begin c.deref-2.result.now) ≡ drop o.begin ps = take_rest c.deref-2.result.now o.begin
    ∙ ap (drop o.begin) c.deref-2.ensures.value in
    let given : List ℕ = take (length c.deref-2.result.now - o.begin) (drop o.begin c.deref-2.result.now) in
    ap (λ (v : OpenRuns). indexes_from (newest_sequence v).level v.explicit.kept.items given) (sym c.self.view_is)
    ∙ ap (λ l. indexes_from l x.kept.items given) (sym (level_is x os rest o ps e c.self.invariant))
    ∙ ap (indexes_from o.level x.kept.items) firsts
    ∙ indexes_is x os rest o ps e c.self.invariant
    ∙ ap (λ (v : OpenRuns). (newest_sequence v).indexes) c.self.view_is
