use Rattle.std.proofs.Common.{◌≡◌, ◌≤◌, ◌∷◌, ◌∙◌, ℕ, List, Option, ap, arith, length, rules, sym}
use Rattle.bx_levels.specs.declared.embedding.entry.ExplicitChar.{ExplicitChar}
use Rattle.bx_levels.specs.embedding.Sequences.{RunSequence}
use Rattle.bx_levels.specs.resolve.Levels.{levels_in, with_levels, with_sequences}
use Rattle.bx_levels.proofs.resolve_lemmas.Small.{next_is_few, others_are_few}
use Rattle.bx_levels.proofs.resolve_lemmas.Written.{levels_length}
use Rattle.bx_levels.proofs.resolve.formatted.write_left.Goals as goal

pub write_lent-requires-clause-small : goal.write_lent-requires-clause-small
write_lent-requires-clause-small g c =
    let next : c.loop-each.walk.left ≡ c.advance.new.self.current ∷ c.advance.new.self.left = c.in_ok-advance.ensures.next c.if-branch.true in
    let few : length c.advance.new.self.current.indexes ≤ length c.args.kept.now =
    next_is_few (length c.args.kept.now) c.loop-each.walk.left c.advance.new.self.left c.advance.new.self.current c.loop-each.invariant.few next in
    omega (arith, few, c.requires.small)

pub loop-each-preserved : goal.loop-each-preserved
loop-each-preserved g c =
    let ucd = g.D.BidiData.data c.args.tables.now in
    let text : List ℕ = c.args.buffers.now.body in
    let kept : List (Option ExplicitChar) = c.args.kept.now in
    let s : RunSequence = c.advance.new.self.current in
    let rest : List RunSequence = c.advance.new.self.left in
    let each : List (Option ℕ) = c.loop-each.each.items in
    let next : c.loop-each.walk.left ≡ s ∷ rest = c.in_ok-advance.ensures.next c.if-branch.true in
    let here : c.write_lent.new.each.items ≡ with_levels s.indexes (levels_in ucd text kept s) each =
    c.in_ok-write_lent.ensures.written
    ∙ ap (λ cs. with_levels s.indexes (levels_in ucd cs kept s) each) c.loop-each.invariant.text in
    record {
      own = search rules;
      text = search rules;
      all = ap length here ∙ levels_length s.indexes (levels_in ucd text kept s) each ∙ c.loop-each.invariant.all;
      few = others_are_few (length kept) c.loop-each.walk.left rest s c.loop-each.invariant.few next;
      written = c.loop-each.invariant.written ∙ ap (λ ss. with_sequences ucd text kept ss each) next
          ∙ ap (with_sequences ucd text kept rest) (sym here);
    }
