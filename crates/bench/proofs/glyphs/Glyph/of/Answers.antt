use Rattle.std.proofs.Common.{refl}
use Rattle.std.specs.Str.{chars}
use Rattle.unicode_width.proofs.Computing.{unicode_width}
use Rattle.bench.proofs.glyphs.Glyph.of.Goals as goal
use Rattle.bench.proofs.glyphs.Glyph.of.Goals.{in-Ascii-true, in-Ascii-false, in-Hebrew-true, in-Hebrew-false, in-Arabic-true, in-Arabic-false, in-Wide-true}
use Rattle.bench.proofs.glyphs.Glyph.of.Goals.{in-Wide-false, in-Marked-true, in-Marked-false}

pub returns-clause-glyph : goal.returns-clause-glyph
unfolding chars unicode_width
returns-clause-glyph c = elim c.match-script.branch [
  | in-Ascii-true w ↦ rw w.columns-is refl
  | in-Ascii-false w ↦ rw w.columns-is refl
  | in-Hebrew-true w ↦ rw w.columns-is refl
  | in-Hebrew-false w ↦ rw w.columns-is refl
  | in-Arabic-true w ↦ rw w.columns-is refl
  | in-Arabic-false w ↦ rw w.columns-is refl
  | in-Wide-true w ↦ rw w.columns-is refl
  | in-Wide-false w ↦ rw w.columns-is refl
  | in-Marked-true w ↦ rw w.columns-is refl
  | in-Marked-false w ↦ rw w.columns-is refl
]

pub returns-clause-counted : goal.returns-clause-counted
unfolding chars unicode_width
returns-clause-counted c = elim c.match-script.branch [
  | in-Ascii-true w ↦ rw w.columns-is refl
  | in-Ascii-false w ↦ rw w.columns-is refl
  | in-Hebrew-true w ↦ rw w.columns-is refl
  | in-Hebrew-false w ↦ rw w.columns-is refl
  | in-Arabic-true w ↦ rw w.columns-is refl
  | in-Arabic-false w ↦ rw w.columns-is refl
  | in-Wide-true w ↦ rw w.columns-is refl
  | in-Wide-false w ↦ rw w.columns-is refl
  | in-Marked-true w ↦ rw w.columns-is refl
  | in-Marked-false w ↦ rw w.columns-is refl
]
