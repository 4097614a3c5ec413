use Rattle.std.proofs.Common.{sym, ap, ◌∙◌, arith}
use Rattle.std.proofs.lemmas.List.{length-map}
use Rattle.std.proofs.lemmas.Result.{on_ok_weaker}
use Rattle.bx_grid.specs.Columns.{Glyph}
use Rattle.bx_grid.specs.Grid.{paste}
use Rattle.bx_grid.specs.Seen.{seen, all_seen}
use Rattle.bx_grid.proofs.Grids.{set_seen}
use Rattle.bx_grid.proofs.Puts.{narrow_columns}
use Rattle.bx_grid.proofs.RunEnds.{glyphs_of}
use Rattle.bx_grid.proofs.columns.put_glyphs.Goals as goal

pub returns-clause-ok : goal.returns-clause-ok
returns-clause-ok c =
    on_ok_weaker c.put_glyph.result
    (λ e. e ∙ ap (paste (all_seen c.args.columns.now) c.args.from)
    (glyphs_of c.args.run.negative c.args.run.text.now c.args.run.width (sym c.if-are_ascii_printable.ensures) c.args.run.measured))
    c.put_glyph.ensures.ok

pub returns-then-run-le-SHORT-clause-ok : goal.returns-then-run-le-SHORT-clause-ok
returns-then-run-le-SHORT-clause-ok c =
    let run = c.args.run.text.now in
    set_seen c.args.columns.now c.args.from c.narrow.result (Glyph run 1 0 c.args.run.negative) c.narrow.ensures
    (omega (arith, c.requires.inside, c.if-run-eq1.true, length-map c.args.columns.now seen))
    ∙ ap (paste (all_seen c.args.columns.now) c.args.from) (sym (narrow_columns c.args.run.negative run (sym c.args.run.measured ∙ c.if-run-eq1.true)))
