-- One more block has its number, and the earlier numbers still name their blocks.
use Rattle.std.proofs.Common.{◌≡◌, ℕ, ◌<◌, [], length, slice_index_or, ap, sym, refl, ◌∙◌, arith, below_more}
use Rattle.std.specs.Prelude.{vec_len}
use Rattle.std.proofs.lemmas.List.{get_or_default}
use Rattle.bx_ucd.specs.Blocks.{class_in, empty_block}
use Rattle.bx_ucd.specs.declared.class.Class.TheVariants.{L}
use Rattle.bx_ucd.proofs.class_table.ClassTable.new.Goals as goal

pub loop-block-preserved : goal.loop-block-preserved
loop-block-preserved c =
    let index = c.loop-block.block-index in
    let numbers = c.push.new.self.items in
    let stored = c.number_of.new.stored.items in
    let known = c.loop-block.invariant in
    let before : (k : ℕ) → k < index → slice_index_or numbers k 0 ≡ slice_index_or c.loop-block.numbers.items k 0 =
    λ k lt. c.in_ok-push.ensures.by_index.0 k 0 (omega arith) in
    let last : slice_index_or numbers index 0 ≡ c.in_ok-number.number =
    ap (λ n. slice_index_or numbers n 0) (sym known.len) ∙ c.in_ok-push.ensures.by_index.1 0 refl in
    record {
      len = omega (arith, c.in_ok-push.ensures.len);
      few = omega (arith, c.in_ok-number.ensures.by_one);
      in_range = below_more _ index
          (λ k lt. omega (arith, before k lt, known.in_range k lt, c.in_ok-number.ensures.grown))
          (omega (arith, last, c.in_ok-number.ensures.number));
      same = λ k i lt within. below_more (λ k. slice_index_or (slice_index_or stored (slice_index_or numbers k 0) []) i L
          ≡ class_in (slice_index_or c.args.blocks.now k empty_block) i) index
          (λ k lt. ap (λ n. slice_index_or (slice_index_or stored n []) i L) (before k lt)
          ∙ ap (λ block. slice_index_or block i L) (c.in_ok-number.ensures.kept (slice_index_or c.loop-block.numbers.items k 0) (known.in_range k lt))
          ∙ known.same k i lt within)
          (ap (λ n. slice_index_or (slice_index_or stored n []) i L) last
          ∙ ap (λ block. slice_index_or block i L) c.in_ok-number.ensures.found
          ∙ c.each.ensures.each i within)
          k lt;
    }

pub invariant_of-result-clause-in_range : goal.invariant_of-result-clause-in_range
invariant_of-result-clause-in_range c k d lt =
    let numbers = c.loop-block.numbers in
    let within : k < length numbers.items = lt in
    let few = numbers.ok in
    let read : slice_index_or numbers.items k d ≡ slice_index_or numbers.items k 0 = get_or_default numbers.items k d 0 within in
    let below : slice_index_or numbers.items k 0 < vec_len c.loop-block.stored = c.loop-block.invariant.in_range k (omega arith) in
    let stored : slice_index_or numbers.items k d < vec_len c.loop-block.stored = rw read below in
    stored
