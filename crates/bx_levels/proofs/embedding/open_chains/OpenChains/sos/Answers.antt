use Rattle.std.proofs.Common.{◌≡◌, ◌-◌, ◌∙◌, ◌∷◌, ℕ, List, ap, sym, arith, refl, length, get_or, reverse, take}
use Rattle.std.proofs.lemmas.List.{get_or_default}
use Rattle.bx_levels.specs.declared.embedding.entry.Explicit.{Explicit}
use Rattle.bx_levels.specs.declared.embedding.open_chains.OpenChain.{OpenChain}
use Rattle.bx_levels.specs.embedding.OpenChains.{OpenRuns, newest_sequence}
use Rattle.bx_levels.specs.embedding.Sequences.{run}
use Rattle.bx_levels.specs.embedding.StoredChains.{BeginsRun, IsOpenChain}
use Rattle.bx_levels.proofs.embedding_lemmas.Newest.{sos_is, first_begins, newest_is_open}
use Rattle.bx_levels.proofs.embedding.open_chains.OpenChains.sos.Goals as goal

pub start_class-requires : goal.start_class-requires
start_class-requires c =
    let x : Explicit = c.self.inside.explicit.now in
    let os : List OpenChain = reverse c.self.inside.chains.items in
    let rest : List OpenChain = reverse (take (length c.deref.result.now - 1) c.deref.result.now) in
    let o : OpenChain = c.newest-newest.result in
    let ps : List ℕ = c.self.inside.firsts.items in
    let e : os ≡ o ∷ rest = ap reverse (sym c.deref.ensures.value) ∙ c.newest-newest.ensures in
    let w : IsOpenChain x.kept.items o ps = newest_is_open x.kept.items os rest o ps e c.self.invariant in
    let b : BeginsRun x.kept.items o.level (get_or ps o.begin 0) = first_begins x.kept.items o ps w in
    let read : c.index.result.now ≡ get_or ps o.begin 0 = c.index.ensures ∙ get_or_default ps o.begin c.index.result.now 0 w.begin_within in
    omega (arith, b.within, read)

pub returns : goal.returns
returns c =
    let x : Explicit = c.self.inside.explicit.now in
    let os : List OpenChain = reverse c.self.inside.chains.items in
    let rest : List OpenChain = reverse (take (length c.deref.result.now - 1) c.deref.result.now) in
    let o : OpenChain = c.newest-newest.result in
    let ps : List ℕ = c.self.inside.firsts.items in
    let e : os ≡ o ∷ rest = ap reverse (sym c.deref.ensures.value) ∙ c.newest-newest.ensures in
    let w : IsOpenChain x.kept.items o ps = newest_is_open x.kept.items os rest o ps e c.self.invariant in
    let read : c.index.result.now ≡ get_or ps o.begin 0 = c.index.ensures ∙ get_or_default ps o.begin c.index.result.now 0 w.begin_within in
    c.start_class.ensures ∙ sos_is x os rest o ps e c.self.invariant (run o.level c.index.result.now o.last) refl read
    ∙ ap (λ (v : OpenRuns). (newest_sequence v).sos) c.self.view_is
