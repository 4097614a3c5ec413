use Rattle.std.proofs.Common.{◌≡◌, ◌∙◌, ap, arith, length, reverse}
use Rattle.std.specs.Prelude.{◌==◌, vec_len}
use Rattle.std.proofs.lemmas.List.{length-reverse}
use Rattle.bx_levels.specs.embedding.OpenChains.{OpenRuns}
use Rattle.bx_levels.proofs.embedding_lemmas.StoredChains.{chains_length}
use Rattle.bx_levels.proofs.embedding.open_chains.OpenChains.is_empty.Goals as goal

pub returns : goal.returns
returns c =
    let few : vec_len c.self.inside.chains ≡ length c.args.self.now.chains =
    omega (
      arith,
      ap (λ (v : OpenRuns). length v.chains) c.self.view_is,
      chains_length c.self.inside.explicit.now.kept.items (reverse c.self.inside.chains.items) c.self.inside.firsts.items,
      length-reverse c.self.inside.chains.items,
    ) in
    c.is_empty.ensures ∙ ap (λ n. n == 0) few
