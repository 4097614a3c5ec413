use Rattle.std.proofs.Common.{◌≡◌, map, subst}
use Rattle.std.specs.Prelude.{IfOk}
use Rattle.bx_rows.specs.Lines.{own_glyphs_at}
use Rattle.bx_rows.specs.Shown.{glyph_of}
use Rattle.bx_rows.proofs.lines.Lines.own_glyphs.Goals as goal

pub returns-clause-picture : goal.returns-clause-picture
returns-clause-picture g c =
    subst (λ k. IfOk c.own_glyphs.result (λ p. map glyph_of p.glyphs.items ≡ own_glyphs_at c.args.self.now k)) c.in_ok-row.ensures.number
    (subst (λ s. IfOk c.own_glyphs.result (λ p. map glyph_of p.glyphs.items ≡ own_glyphs_at s c.in_ok-row.row.number)) c.in_ok-row.ensures.lines
    c.own_glyphs.ensures.picture)
