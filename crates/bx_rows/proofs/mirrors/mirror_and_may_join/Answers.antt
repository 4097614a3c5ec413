use Rattle.std.proofs.Common.{refl, arith, ap, get_or, map, ◌∙◌}
use Rattle.std.proofs.Math.ListN.{length-set}
use Rattle.bx_rows.specs.Shown.{glyph_of}
use Rattle.bx_rows.proofs.Leveled.{at_level, formless-turned, more-formless, neither, none-changed, still, turn, turned}
use Rattle.bx_rows.proofs.mirrors.mirror_and_may_join.Goals as goal

pub loop-i-init : goal.loop-i-init
loop-i-init g c = record {
  count = refl;
  same = none-changed (at_level (g.D.BidiData.data c.args.tables.now) c.args.w) (map glyph_of c.args.glyphs.now);
  formless = λ _ k h. absurd (omega (arith, h));
}

pub loop-i-preserved : goal.loop-i-preserved
loop-i-preserved g c = record {
  count = length-set c.loop-i.glyphs c.loop-i.i c.mirror_at.new.drawn ∙ c.loop-i.invariant.count;
  same =
      turn (at_level (g.D.BidiData.data c.args.tables.now) c.args.w) (map glyph_of c.args.glyphs.now) c.args.levels.now
      c.loop-i.glyphs c.loop-i.i c.index-glyphs-i.result c.mirror_at.new.drawn 0 (omega arith) (omega arith) c.loop-i.invariant.same
      c.in_ok-joins.ensures.mirrored;
  formless = λ none.
      let ucd = g.D.BidiData.data c.args.tables.now in
      let gs = map glyph_of c.args.glyphs.now in
      let levels = c.args.levels.now in
      let i = c.loop-i.i in
      let drawn = c.index-glyphs-i.result in
      let both = neither c.loop-i.joins c.in_ok-joins.field-0 none in
      more-formless ucd c.args.w gs levels i (get_or levels i 0) _ (c.loop-i.invariant.formless both.0)
      (ap (λ x. x.text) (still (at_level ucd c.args.w) gs levels c.loop-i.glyphs i drawn (omega arith) c.loop-i.invariant.same))
      refl (c.in_ok-joins.ensures.formless both.1);
}

pub returns-clause-mirrored : goal.returns-clause-mirrored
returns-clause-mirrored g c cs single =
    turned (g.D.BidiData.data c.args.tables.now) c.args.w c.args.glyphs.now cs c.args.levels.now c.loop-i.i
    (map glyph_of c.loop-i.glyphs) c.requires (omega arith) single c.loop-i.invariant.same

pub returns-clause-formless : goal.returns-clause-formless
returns-clause-formless g c cs single none forms many =
    formless-turned (g.D.BidiData.data c.args.tables.now) c.args.w c.args.glyphs.now cs c.args.levels.now forms c.loop-i.i
    (map glyph_of c.loop-i.glyphs) c.requires (omega arith) single many (returns-clause-mirrored g c cs single) (c.loop-i.invariant.formless none)
