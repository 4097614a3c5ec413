use Rattle.std.proofs.Common.{◌≡◌, ◌∙◌, ℕ, List, Option, ap, sym, subst, reverse, length}
use Rattle.bx_levels.specs.declared.embedding.entry.ExplicitChar.{ExplicitChar}
use Rattle.bx_levels.specs.declared.embedding.open_chains.OpenChain.{OpenChain}
use Rattle.bx_levels.specs.embedding.OpenChains.{OpenRuns, run_at, with_run}
use Rattle.bx_levels.specs.embedding.StoredChains.{open_with, chains_of}
use Rattle.bx_levels.proofs.embedding_lemmas.StoredChains.{taken_chains, taken_open}
use Rattle.bx_levels.proofs.embedding.open_chains.OpenChains.take.Goals as goal

pub invariant_of-self-2 : goal.invariant_of-self-2
invariant_of-self-2 c =
    let kept : List (Option ExplicitChar) = c.self.inside.explicit.now.kept.items in
    let ps : List ℕ = c.self.inside.firsts.items in
    let os : List OpenChain = reverse c.self.inside.chains.items in
    rw (c.in_ok-take_run.ensures.chains, c.in_ok-take_run.ensures.firsts)
    (taken_open kept ps c.args.run (rw (← c.self.view_is) at c.requires.own) (rw (← c.self.view_is) at c.requires.within) os c.self.invariant)

pub returns-clause-chains : goal.returns-clause-chains
returns-clause-chains c =
    let kept : List (Option ExplicitChar) = c.self.inside.explicit.now.kept.items in
    let ps : List ℕ = c.self.inside.firsts.items in
    let os : List OpenChain = reverse c.self.inside.chains.items in
    let own : c.args.run ≡ run_at kept c.args.run.first =
    subst (λ (v : OpenRuns). c.args.run ≡ run_at v.explicit.kept.items c.args.run.first) (sym c.self.view_is) c.requires.own in
    ap (λ xs. chains_of kept xs c.take_run.new.firsts.items) c.in_ok-take_run.ensures.chains
    ∙ ap (chains_of kept (open_with c.args.run (length ps) os)) c.in_ok-take_run.ensures.firsts ∙ taken_chains kept ps c.args.run own os c.self.invariant
    ∙ ap (λ (v : OpenRuns). with_run v.chains c.args.run) c.self.view_is
