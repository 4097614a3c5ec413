use Rattle.std.proofs.Common.{rules, ◌≡◌, ◌<◌, ◌≤◌, List, sym, subst, length}
use Rattle.std.specs.Prelude.{All}
use Rattle.std.specs.List.Sorted.{IsNonDecreasingBy}
use Rattle.std.proofs.lemmas.List.Sorted.{IsNonDecreasingBy-from_sort_by_key}
use Rattle.bx_levels.specs.declared.embedding.entry.Explicit.{Explicit}
use Rattle.bx_levels.specs.embedding.Stack.{max_depth}
use Rattle.bx_levels.specs.embedding.Sequences.{RunSequence, sequences}
use Rattle.bx_levels.proofs.embedding_lemmas.Bounds.{sequences_low, sequences_below}
use Rattle.bx_levels.proofs.embedding_lemmas.Ordered.{first_index, sorted_is_sequences}
use Rattle.bx_levels.proofs.embedding.library.sequences.Goals as goal

pub returns-clause-sequences : goal.returns-clause-sequences
returns-clause-sequences c =
    let e : Explicit = c.args.explicit.now in
    let found : List RunSequence = c.sort_by_key.new.self.items in
    let rises : IsNonDecreasingBy first_index found =
    IsNonDecreasingBy-from_sort_by_key first_index _ c.in_ok-sort_by_key.ensures.sorted (λ a r q k. search rules) in
    sorted_is_sequences e.level e.classes.items e.kept.items c.in_ok-all.all.items found c.in_ok-all.ensures c.in_ok-sort_by_key.ensures.permutation rises

pub returns-clause-low : goal.returns-clause-low
returns-clause-low c =
    let e : Explicit = c.args.explicit.now in
    let found : List RunSequence = c.sort_by_key.new.self.items in
    let rises : IsNonDecreasingBy first_index found =
    IsNonDecreasingBy-from_sort_by_key first_index _ c.in_ok-sort_by_key.ensures.sorted (λ a r q k. search rules) in
    let is : found ≡ sequences e.level e.classes.items e.kept.items =
    sorted_is_sequences e.level e.classes.items e.kept.items c.in_ok-all.all.items found c.in_ok-all.ensures c.in_ok-sort_by_key.ensures.permutation rises in
    subst (All (λ (s : RunSequence). s.level ≤ max_depth)) (sym is) (sequences_low e.level e.classes.items e.kept.items e.low)

pub returns-clause-within : goal.returns-clause-within
returns-clause-within c =
    let e : Explicit = c.args.explicit.now in
    let found : List RunSequence = c.sort_by_key.new.self.items in
    let rises : IsNonDecreasingBy first_index found =
    IsNonDecreasingBy-from_sort_by_key first_index _ c.in_ok-sort_by_key.ensures.sorted (λ a r q k. search rules) in
    let is : found ≡ sequences e.level e.classes.items e.kept.items =
    sorted_is_sequences e.level e.classes.items e.kept.items c.in_ok-all.all.items found c.in_ok-all.ensures c.in_ok-sort_by_key.ensures.permutation rises in
    subst (All (λ (s : RunSequence). All (λ p. p < length e.kept.items) s.indexes)) (sym is) (sequences_below e.level e.classes.items e.kept.items)
