-- The entry is painted, or it is of the other kind.
use Rattle.std.proofs.Common.{length, ap, ◌∙◌, arith}
use Rattle.bx_ucd.specs.Answers.{default}
use Rattle.bx_ucd.specs.Blocks.{class_at}
use Rattle.bx_ucd.proofs.AnswerLemmas.{painted_taken, painted_skipped}
use Rattle.bx_ucd.proofs.blocks.paint_defaults.Goals as goal
use Rattle.bx_ucd.proofs.blocks.paint_defaults.Goals.{in-Default, in_default}

pub loop-entry-preserved : goal.loop-entry-preserved
loop-entry-preserved c =
    elim c.match-entry.branch [
      | in-Default w ↦ record {
        len = ap length w.blocks-is ∙ w.paint.ensures.len ∙ c.loop-entry.invariant.len;
        painted = λ code inside. c.loop-entry.invariant.painted code inside
            ∙ painted_taken default c.args.entries.now c.loop-entry.entry-index _ w.in-Default.range code (class_at c.loop-entry.blocks code)
            (class_at c.match-entry.blocks code) c.loop-entry-test.true (ap default w.in-Default.is)
            (ap (λ blocks. class_at blocks code) w.blocks-is ∙ w.paint.ensures.painted code (omega arith));
      }
      | in_default w ↦ record {
        len = ap length w.blocks-is ∙ c.loop-entry.invariant.len;
        painted = λ code inside. c.loop-entry.invariant.painted code inside
            ∙ painted_skipped default c.args.entries.now c.loop-entry.entry-index _ code (class_at c.loop-entry.blocks code)
            (class_at c.match-entry.blocks code) c.loop-entry-test.true (ap default w.in_default.is)
            (ap (λ blocks. class_at blocks code) w.blocks-is);
      }
    ]
