use Rattle.std.proofs.Common.{◌≡◌, map, subst}
use Rattle.std.specs.Prelude.{IfOk}
use Rattle.bx_rows.specs.Lines.{glyphs_at}
use Rattle.bx_rows.specs.Shown.{glyph_of}
use Rattle.bx_rows.proofs.lines.Lines.picture.Goals as goal

pub returns-clause-picture : goal.returns-clause-picture
returns-clause-picture g c =
    subst (λ k. IfOk c.picture.result (λ p. map glyph_of p.glyphs.items ≡ glyphs_at c.args.self.now k)) c.in_ok-row.ensures.number
    (subst (λ s. IfOk c.picture.result (λ p. map glyph_of p.glyphs.items ≡ glyphs_at s c.in_ok-row.row.number)) c.in_ok-row.ensures.lines
    c.picture.ensures.picture)
