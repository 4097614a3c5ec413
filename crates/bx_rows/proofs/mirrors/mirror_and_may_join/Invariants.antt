-- The glyphs up to `i` are mirrored by their levels; unless one has a form, they are shown so whatever their forms.
use Rattle.std.proofs.Common.{◌≡◌, false, length, map, take}
use Rattle.bx_rows.specs.Shown.{glyph_of}
use Rattle.bx_rows.proofs.Leveled.{FormlessUpTo, at_level, changed}
use Rattle.bx_rows.proofs.mirrors.mirror_and_may_join.Given as goal

abbrev pub invariant-loop-i : goal.invariant-loop-i
invariant-loop-i g l = record {
  count : length l.glyphs ≡ length l.initial.glyphs;
  same :
      map glyph_of l.glyphs ≡ changed (at_level (g.D.BidiData.data l.tables) l.w) (map glyph_of l.initial.glyphs)
      (take l.i l.levels);
  formless : l.joins ≡ false → FormlessUpTo (g.D.BidiData.data l.tables) l.w (map glyph_of l.initial.glyphs) l.levels l.i;
}
