use Rattle.std.proofs.Common.{subst, ◌++◌, ◌∷◌, [], ◌∙◌, false, ap, length, drop, arith, refl}
use Rattle.std.proofs.lemmas.Str.{IsUtf8-past_char}
use Rattle.bx_rows.specs.LevelReads.{Reads}
use Rattle.bx_rows.specs.RowPicture.{glyph}
use Rattle.bx_rows.proofs.PlainRows.{levels-are, none_if, pushed-length, read-more, units-single}
use Rattle.bx_rows.proofs.lines.Lines.plain_row.Goals as goal
use Rattle.bx_rows.proofs.lines.Lines.plain_row.Goals.{then-loop-left-test+else-not-is_empty, else-loop-left-test}

pub loop-left-preserved : goal.loop-left-preserved
loop-left-preserved g c =
    let i = c.loop-left.invariant in
    let e = c.in-Some.ensures.0 in
    let pushed = c.in_ok-push.ensures.items in
    let less = c.loop-left-test.true in
    let counted = c.len.ensures in
    record {
      text = IsUtf8-past_char c.loop-left.rest.now c.in-Some.behind.now c.in-Some.c i.text e;
      few = omega (arith, less, counted, pushed-length c.loop-left.glyphs.items c.push.new.self.items _ pushed);
      read = read-more (g.D.BidiData.data c.args.self.now.tables.now) c.args.self.now.w c.args.self.now.levels.now.paragraph c.args.self.now.body.now c.args.start.offset
          (drop c.args.start.chars c.args.self.now.levels.now.each.items) c.loop-left.glyphs.items c.push.new.self.items c.loop-left.found.items c.read_only.new.found.items
          c.loop-left.waiting c.in_ok-waiting.waiting c.loop-left.left.now c.first_level-level.result.1.now c.loop-left.rest.now c.in-Some.behind.now c.in-Some.c
          c.in-Some-level.level _ c.first_level-level.result.0 i.read e c.in-Some-plain_class.ensures.begin c.in-Some-plain_class.ensures.face pushed
          (ap (λ t. glyph t 1 false) c.in-Some.ensures.1) c.first_level-level.ensures.first c.first_level-level.ensures.behind c.in-Some-level.is
          c.in_ok-waiting.ensures.within
          (subst (λ k. Reads c.args.self.now.levels.now.paragraph k (c.loop-left.found.items ++ c.in-Some-level.level ∷ []) c.loop-left.waiting c.read_only.new.found.items
          c.in_ok-waiting.waiting) c.in-Some-plain_class.ensures.class c.in_ok-waiting.ensures.levels);
    }

pub returns-clause-units : goal.returns-clause-units
returns-clause-units g c =
    let i = c.loop-left.invariant in
    record {
      cs = i.read.cs;
      rest = c.loop-left.rest.now;
      bytes = i.read.bytes;
      units = units-single (g.D.BidiData.data c.args.self.now.tables.now) c.args.self.now.w c.args.self.now.levels.now.paragraph c.args.self.now.body.now c.args.start.offset c.args.count
          (drop c.args.start.chars c.args.self.now.levels.now.each.items) c.loop-left.glyphs.items c.loop-left.found.items c.loop-left.waiting c.loop-left.left.now c.loop-left.rest.now
          c.args.self.now.utf8 c.requires i.read (c.if-not-is_cluster_end.ensures refl) i.few
          (elim c.loop-left-test.branch [
            | then-loop-left-test+else-not-is_empty w ↦ (λ less. none_if (length c.loop-left.rest.now) w.if-not-is_empty.ensures)
            | else-loop-left-test w ↦ (λ less. let counted = c.len.ensures in let test = w.loop-left-test.false in absurd (omega (arith, less, counted, test)))
          ]);
      shown = i.read.glyphs_are;
    }

pub returns-clause-levels : goal.returns-clause-levels
unfolding returns-clause-units
returns-clause-levels g c = λ us own before.
    let i = c.loop-left.invariant in
    levels-are (g.D.BidiData.data c.args.self.now.tables.now) c.args.self.now.w c.args.self.now.levels.now.paragraph c.args.self.now.body.now c.args.start.offset c.args.count
    c.args.start.chars c.args.self.now.levels.now.each.items c.loop-left.glyphs.items c.loop-left.found.items c.settle.new.found.items c.loop-left.waiting c.loop-left.left.now
    c.loop-left.rest.now us c.args.self.now.utf8 c.requires i.read (own ∙ (returns-clause-units g c).units) before c.settle.ensures.levels
