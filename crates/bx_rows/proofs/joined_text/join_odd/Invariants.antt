-- The glyphs up to `i` are in their letters' forms, and the rest of the body begins at the next letter.
use Rattle.std.proofs.Common.{◌≡◌, ◌+◌, length, map, take, drop, chars}
use denote.Text.{Utf8}
use denote.Shadow.{shadow}
use Rattle.bx_rows.specs.joining.Places.{StandsAt}
use Rattle.bx_rows.specs.PlainRows.{joined_glyph}
use Rattle.bx_rows.specs.Shown.{glyph_of}
use Rattle.bx_rows.proofs.JoinedLetters.{given}
use Rattle.bx_rows.proofs.Leveled.{changed}
use Rattle.bx_rows.proofs.joined_text.join_odd.Given as goal

abbrev pub invariant-loop-i : goal.invariant-loop-i
invariant-loop-i g l =
    let lines = l.lines in
    let ucd = g.D.BidiData.data lines.tables.now in
    let start = l.fn.start in
    let body = lines.body.now in
    let letters = chars (drop start.offset body) in
    record {
      text : shadow (Utf8 l.rest);
      count : length l.glyphs ≡ length l.initial.glyphs;
      stands : StandsAt body l.rest l.offset l.number;
      number : l.number ≡ start.chars + l.i;
      left : chars l.rest ≡ drop l.i letters;
      same : map glyph_of l.glyphs ≡ changed (joined_glyph ucd lines.w) (map glyph_of l.initial.glyphs)
          (take l.i (given ucd body lines.levels.now.each.items start.chars letters l.levels));
    }
