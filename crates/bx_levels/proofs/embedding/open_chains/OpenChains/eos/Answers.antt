use Rattle.std.proofs.Common.{◌≡◌, ◌-◌, ◌∙◌, ◌∷◌, List, ap, sym, refl, length, reverse, take}
use Rattle.bx_levels.specs.declared.embedding.entry.Explicit.{Explicit}
use Rattle.bx_levels.specs.declared.embedding.open_chains.OpenChain.{OpenChain}
use Rattle.bx_levels.specs.embedding.OpenChains.{OpenRuns, newest_sequence}
use Rattle.bx_levels.specs.embedding.Sequences.{run}
use Rattle.bx_levels.proofs.embedding_lemmas.Newest.{eos_is, ends_below}
use Rattle.bx_levels.proofs.embedding.open_chains.OpenChains.eos.Goals as goal

pub end_class-requires : goal.end_class-requires
end_class-requires c =
    let x : Explicit = c.self.inside.explicit.now in
    let os : List OpenChain = reverse c.self.inside.chains.items in
    let rest : List OpenChain = reverse (take (length c.deref.result.now - 1) c.deref.result.now) in
    let e : os ≡ c.newest-newest.result ∷ rest = ap reverse (sym c.deref.ensures.value) ∙ c.newest-newest.ensures in
    ends_below x.kept.items os rest c.newest-newest.result c.self.inside.firsts.items e c.self.invariant

pub returns : goal.returns
returns c =
    let x : Explicit = c.self.inside.explicit.now in
    let os : List OpenChain = reverse c.self.inside.chains.items in
    let rest : List OpenChain = reverse (take (length c.deref.result.now - 1) c.deref.result.now) in
    let o : OpenChain = c.newest-newest.result in
    let e : os ≡ o ∷ rest = ap reverse (sym c.deref.ensures.value) ∙ c.newest-newest.ensures in
    c.end_class.ensures ∙ eos_is x os rest o c.self.inside.firsts.items e c.self.invariant (run o.level c.index.result.now o.last) refl refl
    ∙ ap (λ (v : OpenRuns). (newest_sequence v).eos) c.self.view_is
