use Rattle.std.proofs.Common.{◌∙◌, ap, subst, sym}
use Rattle.bx_paragraph.specs.Lent.{IsLent}
use Rattle.bx_paragraph.proofs.LayoutRowRefs.{row_layout, laid_side}
use Rattle.bx_paragraph.proofs.layout_row_ref.LayoutRowRef.laid.Goals as goal

pub returns-clause-row : goal.returns-clause-row
returns-clause-row g c =
    let s = c.args.self.now in
    row_layout s.paragraph.now s.tables.now c.lines-lines.result s.number c.lines-lines.ensures s.by s.within c.in_ok-row.row c.in_ok-row.ensures.lines
    c.in_ok-row.ensures.number

pub returns-clause-w : goal.returns-clause-w
returns-clause-w g c = ap (λ l. l.w) c.in_ok-row.ensures.lines ∙ c.lines-lines.ensures.w_is

pub returns-clause-side : goal.returns-clause-side
returns-clause-side g c =
    let s = c.args.self.now in
    laid_side s.paragraph.now s.tables.now c.in_ok-row.row.lines
    (subst (IsLent s.paragraph.now s.tables.now) (sym c.in_ok-row.ensures.lines) c.lines-lines.ensures)
