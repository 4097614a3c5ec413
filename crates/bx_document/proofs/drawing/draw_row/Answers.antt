use Rattle.std.proofs.Common.{◌≡◌, ◌∙◌, List, ap, length, subst, sym}
use Rattle.std.specs.Prelude.{IfOk}
use Rattle.std.proofs.lemmas.Result.{IfOk-weaker}
use Rattle.bx_rows.specs.declared.drawn.Drawn.{Drawn}
use Rattle.bx_document.proofs.RowGlyphs.{columns_in, glyphs_columns, length-glyphs}
use Rattle.bx_document.proofs.drawing.draw_row.Goals as goal

pub returns-clause-filled : goal.returns-clause-filled
returns-clause-filled g c =
    let ds = c.deref.result.now in
    let wide : columns_in ds ≡ c.args.view.now.w =
    subst (λ (xs : List Drawn). columns_in xs ≡ c.args.view.now.w) (sym c.deref.ensures.value) c.in_ok-picture.ensures.columns in
    IfOk-weaker c.draw_glyphs.result (λ row. row.columns ≡ glyphs_columns ds) (λ row. length row.columns ≡ c.args.view.now.w)
    (λ row is. ap length is ∙ length-glyphs ds ∙ wide) (c.draw_glyphs.ensures.full (wide ∙ sym c.width.ensures.width))

pub returns-clause-wide : goal.returns-clause-wide
returns-clause-wide g c = subst (λ n. IfOk c.draw_glyphs.result (λ row. row.width ≡ n)) c.width.ensures.width c.draw_glyphs.ensures.wide
