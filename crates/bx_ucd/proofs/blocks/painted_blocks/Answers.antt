-- The blocks begin with class L at every code.
use Rattle.std.proofs.Common.{◌∙◌, arith}
use Rattle.bx_ucd.specs.declared.class.Class.TheVariants.{L}
use Rattle.bx_ucd.proofs.PaintLemmas.{class_at_same_blocks, class_at_refilled}
use Rattle.bx_ucd.proofs.blocks.painted_blocks.Goals as goal

pub paint_entries-requires : goal.paint_entries-requires
paint_entries-requires c code inside =
    let len = c.in_ok-blocks.ensures.len in
    class_at_same_blocks c.deref_mut.result.now 4352 c.new.result L code
    (c.deref_mut.ensures.value ∙ c.in_ok-blocks.ensures.items_if_clones_equal (λ y e. e)) (omega arith) c.new.ensures

pub returns-clause-classes : goal.returns-clause-classes
returns-clause-classes c code inside =
    let len = c.in_ok-blocks.ensures.len in
    class_at_refilled c.paint_entries.new.blocks _ c.in_ok-blocks.blocks.len code (omega arith) ∙ c.paint_entries.ensures.painted code (omega arith)
