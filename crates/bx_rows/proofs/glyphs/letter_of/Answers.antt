use Rattle.std.proofs.Common.{◌∙◌}
use Rattle.bx_rows.proofs.GlyphTexts.{letter-start, letter-end, letter-text}
use Rattle.bx_rows.proofs.glyphs.letter_of.Goals as goal

pub range-requires-clause-start_boundary : goal.range-requires-clause-start_boundary
range-requires-clause-start_boundary c = λ _. letter-start _ c.args.byte c.requires.letters c.requires.byte

pub range-requires-clause-end_boundary : goal.range-requires-clause-end_boundary
range-requires-clause-end_boundary c = letter-end _ c.args.byte c.utf8.letters c.requires.letters c.requires.byte

pub returns : goal.returns
returns c = c.range.ensures.value ∙ letter-text _ c.args.byte c.requires.letters c.requires.byte
