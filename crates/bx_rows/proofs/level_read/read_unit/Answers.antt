use Rattle.std.proofs.Common.{◌≡◌, ◌∷◌, ◌++◌, ◌||◌, Bool, true, false, map, length, chars}
use Rattle.std.specs.List.{zip}
use Rattle.std.proofs.lemmas.Str.{IsUtf8-past_char, chars_past_char}
use Rattle.bx_rows.specs.LevelReads.{levels_from}
use Rattle.bx_rows.proofs.LevelSteps.{unit-more, known-end, unknown-end}
use Rattle.bx_rows.proofs.level_read.read_unit.Goals as goal

or_true : (k b : Bool) → k ≡ true → k ≡ (k || b)
or_true true b e = e
or_true false b e = cc

or_false : (k b r : Bool) → k ≡ false → r ≡ b → r ≡ (k || b)
or_false false b r e f = f
or_false true b r e f = cc

pub loop-c-preserved-then-is_known : goal.loop-c-preserved-then-is_known
loop-c-preserved-then-is_known g c =
    let ucd = g.D.BidiData.data c.args.tables.now in
    let text = c.args.text.now in
    let rest = c.loop-c.rest.now in
    let behind = c.in-Some.behind.now in
    let i = c.loop-c.invariant in
    let next = c.in-Some.ensures in
    let waiting = c.args.waiting in
    record {
      text = IsUtf8-past_char rest behind c.in-Some.c i.text next.0;
      within = c.in_ok-first.ensures.within;
      levels = unit-more ucd c.args.paragraph (λ more counts. levels_from c.args.paragraph c.args.found.now.items waiting 0 (length (chars text) ∷ counts)
          (zip (map ucd.class (chars text ++ more)) c.args.levels.now)) rest c.loop-c.is_known c.loop-c.found.items c.loop-c.first c.loop-c.left.now i.levels
          c.in-Some.c behind c.read_char.new.found.items c.first_level-level.result.0 c.first_level-level.result.1.now c.in_ok-first.first c.loop-c.is_known
          (chars_past_char rest behind c.in-Some.c i.text next.0) c.first_level-level.ensures.first c.first_level-level.ensures.behind
          c.in_ok-first.ensures.levels (or_true c.loop-c.is_known _ c.if-is_known.true);
    }

pub loop-c-preserved : goal.loop-c-preserved
loop-c-preserved g c =
    let ucd = g.D.BidiData.data c.args.tables.now in
    let text = c.args.text.now in
    let rest = c.loop-c.rest.now in
    let behind = c.in-Some.behind.now in
    let i = c.loop-c.invariant in
    let next = c.in-Some.ensures in
    let waiting = c.args.waiting in
    record {
      text = IsUtf8-past_char rest behind c.in-Some.c i.text next.0;
      within = c.in_ok-first.ensures.within;
      levels = unit-more ucd c.args.paragraph (λ more counts. levels_from c.args.paragraph c.args.found.now.items waiting 0 (length (chars text) ∷ counts)
          (zip (map ucd.class (chars text ++ more)) c.args.levels.now)) rest c.loop-c.is_known c.loop-c.found.items c.loop-c.first c.loop-c.left.now i.levels
          c.in-Some.c behind c.read_char.new.found.items c.first_level-level.result.0 c.first_level-level.result.1.now c.in_ok-first.first
          c.is_some-is_known.result (chars_past_char rest behind c.in-Some.c i.text next.0) c.first_level-level.ensures.first
          c.first_level-level.ensures.behind c.in_ok-first.ensures.levels
          (or_false c.loop-c.is_known _ c.is_some-is_known.result c.if-is_known.false c.is_some-is_known.ensures);
    }

pub returns-then-is_known-2-clause-levels : goal.returns-then-is_known-2-clause-levels
returns-then-is_known-2-clause-levels g c =
    let ucd = g.D.BidiData.data c.args.tables.now in
    let text = c.args.text.now in
    known-end ucd c.args.paragraph (λ more counts. levels_from c.args.paragraph c.args.found.now.items c.args.waiting 0 (length (chars text) ∷ counts)
    (zip (map ucd.class (chars text ++ more)) c.args.levels.now)) c.loop-c.rest.now c.loop-c.is_known c.loop-c.found.items c.loop-c.first c.loop-c.left.now
    c.loop-c.invariant.levels c.in_default.ensures c.if-is_known-2.true

pub returns-clause-levels : goal.returns-clause-levels
returns-clause-levels g c =
    let ucd = g.D.BidiData.data c.args.tables.now in
    let text = c.args.text.now in
    unknown-end ucd c.args.paragraph (λ more counts. levels_from c.args.paragraph c.args.found.now.items c.args.waiting 0 (length (chars text) ∷ counts)
    (zip (map ucd.class (chars text ++ more)) c.args.levels.now)) c.loop-c.rest.now c.loop-c.is_known c.loop-c.found.items c.loop-c.first c.loop-c.left.now
    c.loop-c.invariant.levels c.in_ok-next.next c.push_before.new.found.items c.in_default.ensures c.if-is_known-2.false c.in_ok-next.ensures.levels
