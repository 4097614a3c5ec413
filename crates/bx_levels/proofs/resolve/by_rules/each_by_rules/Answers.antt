use Rattle.std.proofs.Common.{◌≡◌, ◌∙◌, ◌+◌, ℕ, List, Option, ap, sym, arith, drop, length}
use Rattle.bx_levels.specs.declared.embedding.entry.ExplicitChar.{ExplicitChar}
use Rattle.bx_levels.specs.embedding.Sequences.{RunSequence}
use Rattle.bx_levels.specs.resolve.Levels.{with_levels, with_sequences, levels_in}
use Rattle.bx_levels.proofs.resolve_lemmas.Written.{sequences_more, levels_length}
use Rattle.bx_levels.proofs.resolve.by_rules.each_by_rules.Goals as goal

pub loop-sequence-preserved : goal.loop-sequence-preserved
loop-sequence-preserved g c =
    let ucd = g.D.BidiData.data c.args.tables.now in
    let chars : List ℕ = c.args.chars.now in
    let kept : List (Option ExplicitChar) = c.args.explicit.now.kept.items in
    let ss : List RunSequence = c.deref-sequence-items.result.now in
    let i : ℕ = c.loop-sequence.sequence-index in
    let s : RunSequence = c.sequence-item.result in
    let each : List (Option ℕ) = c.loop-sequence.each.items in
    let levels : c.deref-in-loop-sequence.result.now ≡ levels_in ucd chars kept s = c.deref-in-loop-sequence.ensures.value ∙ c.in_ok-levels.ensures.levels
    ∙ ap (λ k. levels_in ucd chars k s) c.deref.ensures.value in
    let new : c.write_levels.new.each.items ≡ with_levels s.indexes (levels_in ucd chars kept s) each = c.write_levels.ensures
    ∙ ap (λ ps. with_levels ps c.deref-in-loop-sequence.result.now each) c.indexes.ensures ∙ ap (λ ls. with_levels s.indexes ls each) levels in
    record {
      as_long = ap length new ∙ levels_length s.indexes (levels_in ucd chars kept s) each ∙ c.loop-sequence.invariant.as_long;
      written = c.loop-sequence.invariant.written ∙ sequences_more ucd chars kept ss each i s (omega arith)
          ∙ ap (λ (x : RunSequence). with_sequences ucd chars kept (drop (i + 1) ss) (with_levels x.indexes (levels_in ucd chars kept x) each))
          (sym c.sequence-item.is) ∙ ap (with_sequences ucd chars kept (drop (i + 1) ss)) (sym new);
    }
