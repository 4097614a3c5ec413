use Rattle.std.proofs.Common.{◌≡◌, ◌+◌, ◌-◌, ◌*◌, ◌≤◌, ◌++◌, ◌∙◌, ap, arith, length, refl, replicate, subst, sym, take, take_all}
use Rattle.bx_common.specs.Glyphs.{run_width}
use Rattle.bx_grid.specs.Columns.{blank, run_columns}
use Rattle.bx_grid.specs.Grid.{paste, GridState, HasRoom}
use Rattle.bx_document.proofs.PutOn.{all_put, some_put}
use Rattle.bx_document.proofs.RowGlyphs.{columns_in, glyphs_columns, is_next, length-glyphs, next_put, room, within}
use Rattle.bx_document.proofs.drawing.draw_glyphs.Goals as goal

pub put_counted-requires-clause-inside : goal.put_counted-requires-clause-inside
put_counted-requires-clause-inside c =
    let ds = c.args.glyphs.now in
    within c.args.width ds c.loop-glyph.glyph-index c.loop-glyph.grid c.loop-glyph.column c.glyph-item.result
    (is_next c.args.width ds ds c.loop-glyph.glyph-index c.glyph-item.result c.requires.room
    refl c.loop-glyph-test.true c.glyph-item.is c.requires.glyphs c.requires.widths)
    c.loop-glyph.invariant

pub put_counted-requires-clause-room : goal.put_counted-requires-clause-room
put_counted-requires-clause-room c =
    let ds = c.args.glyphs.now in
    subst (λ t. HasRoom c.loop-glyph.grid 1 c.loop-glyph.column (run_width t)) (sym c.as_str.ensures.value)
    (room c.args.width ds c.loop-glyph.glyph-index c.loop-glyph.grid c.loop-glyph.column c.glyph-item.result
    (is_next c.args.width ds ds c.loop-glyph.glyph-index c.glyph-item.result c.requires.room
    refl c.loop-glyph-test.true c.glyph-item.is c.requires.glyphs c.requires.widths)
    c.loop-glyph.invariant)

pub loop-glyph-preserved : goal.loop-glyph-preserved
loop-glyph-preserved c =
    let ds = c.args.glyphs.now in
    let g = c.loop-glyph.grid in
    next_put c.args.width ds c.loop-glyph.glyph-index g c.loop-glyph.column c.glyph-item.result
    (is_next c.args.width ds ds c.loop-glyph.glyph-index c.glyph-item.result c.requires.room
    refl c.loop-glyph-test.true c.glyph-item.is c.requires.glyphs c.requires.widths)
    c.loop-glyph.invariant c.put_counted.new.self
    (subst (λ t. c.put_counted.new.self ≡ record g {
      columns = paste g.columns ((1 - 1) * g.width + (c.loop-glyph.column - 1)) (run_columns c.glyph-item.result.negative t);
    }) c.as_str.ensures.value c.in_ok-put_counted.ensures.ok)

pub returns-clause-row : goal.returns-clause-row
returns-clause-row c =
    let ds = c.args.glyphs.now in
    let i = c.loop-glyph.glyph-index in
    let past : length ds ≤ i = omega (arith, c.loop-glyph-test.false) in
    let whole : take i ds ≡ ds = take_all i ds past in
    let wide : length (glyphs_columns (take i ds)) ≡ columns_in ds = ap (λ xs. length (glyphs_columns xs)) whole ∙ length-glyphs ds in
    some_put c.args.width (columns_in ds) (glyphs_columns (take i ds)) c.loop-glyph.grid c.loop-glyph.invariant.grid wide
    ∙ ap (λ xs. glyphs_columns xs ++ replicate (c.args.width - columns_in ds) blank) whole

pub returns-clause-full : goal.returns-clause-full
returns-clause-full c = λ full.
    returns-clause-row c ∙ all_put c.args.width (columns_in c.args.glyphs.now) (glyphs_columns c.args.glyphs.now) full

pub returns-clause-one : goal.returns-clause-one
returns-clause-one c = ap (λ (g : GridState). g.height) c.loop-glyph.invariant.grid

pub returns-clause-wide : goal.returns-clause-wide
returns-clause-wide c = ap (λ (g : GridState). g.width) c.loop-glyph.invariant.grid
