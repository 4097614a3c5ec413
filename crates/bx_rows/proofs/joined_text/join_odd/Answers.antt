use Rattle.std.proofs.Common.{◌≡◌, ◌+◌, ◌<◌, ◌∙◌, List, ℕ, Fits, IsUtf8, map, chars, drop, get_or, length, take, refl, rules, subst, sym, w64, ap, ap₂, arith}
use Rattle.std.proofs.Math.ListN.{length-set}
use Rattle.std.proofs.Math.Seq.{take-length}
use Rattle.std.proofs.lemmas.Str.{IsUtf8-drop, IsUtf8-past_char}
use Rattle.bx_ucd.specs.declared.joining.Form.{Form}
use Rattle.bx_ucd.specs.declared.joining.Form.TheVariants.{Isolated}
use Rattle.bx_rows.specs.joining.Joining.{body_forms}
use Rattle.bx_rows.specs.joining.Places.{StandsAt}
use Rattle.bx_rows.proofs.joining_lemmas.StandOn.{counted_within, stand_on}
use Rattle.bx_rows.proofs.joining_lemmas.TextForms.{no_chars}
use Rattle.bx_rows.specs.PlainRows.{joined_glyph}
use Rattle.bx_rows.specs.Shown.{glyph_of}
use Rattle.bx_rows.proofs.JoinedLetters.{all-joined, given, given-at, letters-alone, letters-are, letters-on, none-left}
use Rattle.bx_rows.proofs.Leveled.{none-changed, turn}
use Rattle.bx_rows.proofs.joined_text.join_odd.Goals as goal

pub loop-i-init : goal.loop-i-init
loop-i-init g c =
    let start = c.args.start in
    let lines = c.args.lines.now in
    let body = lines.body.now in
    let rest_is : c.range_from-rest.result.now ≡ drop start.offset body = c.range_from-rest.ensures.value in
    record {
      text = c.range_from-rest.utf8;
      count = refl;
      stands = record {
        boundary = c.requires.start.boundary;
        here = rest_is ∙ sym (ap (λ n. take n (drop start.offset body)) (ap length rest_is) ∙ take-length (drop start.offset body));
        before = c.requires.start.chars;
      };
      number = omega arith;
      left = ap chars rest_is;
      same = none-changed (joined_glyph (g.D.BidiData.data lines.tables.now) lines.w) (map glyph_of c.args.glyphs.now);
    }

pub overflow_add-number : goal.overflow_add-number
overflow_add-number g c =
    let body = c.args.lines.now.body.now in
    let u : IsUtf8 body = c.args.lines.now.utf8 in
    let next = stand_on body c.loop-i.rest.now c.in-Some.behind.now c.loop-i.offset c.loop-i.number c.in-Some.letter u c.loop-i.invariant.stands c.in-Some.ensures.0 in
    let within = counted_within body c.in-Some.behind.now _ _ u next in
    let fits : Fits w64 (c.loop-i.offset + c.len_utf8-offset.result) = search rules in
    omega (arith, within, c.len_utf8-offset.ensures.value, fits)

pub loop-i-preserved : goal.loop-i-preserved
loop-i-preserved g c =
    let lines = c.args.lines.now in
    let ucd = g.D.BidiData.data lines.tables.now in
    let start = c.args.start in
    let body = lines.body.now in
    let each = lines.levels.now.each.items in
    let levels = c.args.levels.now in
    let letters = chars (drop start.offset body) in
    let i = c.loop-i.i in
    let rest = c.loop-i.rest.now in
    let behind = c.in-Some.behind.now in
    let letter = c.in-Some.letter in
    let number = c.loop-i.number in
    let read = c.in-Some.ensures in
    let u : IsUtf8 body = lines.utf8 in
    let next = stand_on body rest behind c.loop-i.offset number letter u c.loop-i.invariant.stands read.0 in
    let within : i < length levels = omega (arith, c.loop-i-test.true, c.loop-i.invariant.count, c.requires.count) in
    let at = given-at ucd body each start.chars i letter letters levels (chars behind) within (sym c.loop-i.invariant.left ∙ read.2) in
    let x : ℕ × (ℕ × Form) = (get_or levels i 0, (letter, get_or (body_forms ucd body each) (start.chars + i) Isolated)) in
    let form : get_or (body_forms ucd c.place-first.result.body.text.now c.place-first.result.body.each.now) number Isolated
    ≡ get_or (body_forms ucd body each) (start.chars + i) Isolated =
    ap₂ (λ (t : List ℕ) ls. get_or (body_forms ucd t ls) number Isolated) c.place-first.ensures.text c.place-first.ensures.each
    ∙ ap (λ n. get_or (body_forms ucd body each) n Isolated) c.loop-i.invariant.number in
    record {
      text = IsUtf8-past_char rest behind letter c.loop-i.invariant.text read.0;
      count = length-set c.loop-i.glyphs i c.join_at.new.drawn ∙ c.loop-i.invariant.count;
      stands = subst (λ n. StandsAt body behind (c.loop-i.offset + n) (number + 1)) (sym c.len_utf8-offset.ensures.value) next;
      number = omega (arith, c.loop-i.invariant.number);
      left = letters-on letters (chars rest) (chars behind) i letter c.loop-i.invariant.left read.2;
      same =
          turn (joined_glyph ucd lines.w) (map glyph_of c.args.glyphs.now) (given ucd body each start.chars letters levels)
          c.loop-i.glyphs i c.index-glyphs-i.result c.join_at.new.drawn x (omega arith) at.within c.loop-i.invariant.same
          (c.in_ok-join_at.ensures
          ∙ ap (λ f. joined_glyph ucd lines.w (glyph_of (get_or c.loop-i.glyphs i c.index-glyphs-i.result)) (get_or levels i 0, (letter, f))) form
          ∙ ap (joined_glyph ucd lines.w (glyph_of (get_or c.loop-i.glyphs i c.index-glyphs-i.result))) (sym at.is));
    }

pub returns-in_default-clause-joined : goal.returns-in_default-clause-joined
returns-in_default-clause-joined g c cs rest bytes many mirrored =
    let start = c.args.start in
    let body = c.args.lines.now.body.now in
    let letters = chars (drop start.offset body) in
    let all = letters-are body cs rest start.offset (IsUtf8-drop body start.offset c.args.lines.now.utf8 c.requires.start.boundary) bytes in
    absurd (none-left cs (chars rest) letters (chars c.loop-i.rest.now) c.loop-i.i all
    (omega (arith, c.loop-i-test.true, c.loop-i.invariant.count, c.requires.count, many)) (sym c.loop-i.invariant.left)
    (no_chars c.loop-i.rest.now c.in_default.ensures))

pub returns-clause-joined : goal.returns-clause-joined
returns-clause-joined g c cs rest bytes many mirrored =
    let start = c.args.start in
    let lines = c.args.lines.now in
    let body = lines.body.now in
    let u : IsUtf8 (drop start.offset body) = IsUtf8-drop body start.offset lines.utf8 c.requires.start.boundary in
    let letters = chars (drop start.offset body) in
    all-joined (g.D.BidiData.data lines.tables.now) lines.w body lines.levels.now.each.items start.chars c.loop-i.i cs (chars rest) letters c.args.levels.now
    (map glyph_of c.args.glyphs.now) (map glyph_of c.loop-i.glyphs) (letters-alone cs rest (drop start.offset body) u bytes)
    (letters-are body cs rest start.offset u bytes) many (omega (arith, c.loop-i.invariant.count, c.requires.count)) mirrored c.loop-i.invariant.same
