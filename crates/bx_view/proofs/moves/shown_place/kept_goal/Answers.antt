use Rattle.std.proofs.Common.{◌∙◌, true, false, ap, eq-eqb, ne_eqb, sym}
use Rattle.bx_view.specs.declared.moves.Goal.TheVariants.{Column, Start}
use Rattle.bx_view.specs.FoundRow.{rows_by}
use Rattle.bx_view.specs.Moves.{row_home}
use Rattle.bx_view.specs.TextRows.{cell_of}
use Rattle.bx_view.proofs.Beyond.{kept}
use Rattle.bx_view.proofs.CachedRows.{rows-kept}
use Rattle.bx_view.proofs.moves.shown_place.kept_goal.Goals as goal

pub returns-then-first_in-place-clause-goal : goal.returns-then-first_in-place-clause-goal
returns-then-first_in-place-clause-goal g c =
    let ucd = g.D.BidiData.data c.args.text_ref.now.tables.now in
    let text = c.args.text_ref.now.text.now.edited.text in
    let old = c.args.view.now in
    let place = c.args.place in
    let home = sym (ap (λ rs. row_home rs place) (rows-kept ucd old c.row_at.new.self text c.row_at.ensures.keeps))
    ∙ sym (c.first_in.ensures _ c.in_ok-at.ensures.row) ∙ c.if-first_in-place.true in
    sym (ap (λ b. elim b [ true ↦ Start | false ↦ Column (cell_of old.w (rows_by ucd old text) place) ])
    (eq-eqb (row_home (rows_by ucd old text) place) place home))

pub returns-clause-goal : goal.returns-clause-goal
returns-clause-goal g c =
    let ucd = g.D.BidiData.data c.args.text_ref.now.tables.now in
    let text = c.args.text_ref.now.text.now.edited.text in
    let old = c.args.view.now in
    let place = c.args.place in
    let kept-home = ap (λ rs. row_home rs place) (rows-kept ucd old c.row_at.new.self text c.row_at.ensures.keeps) in
    ap Column (c.in_ok-position.ensures.column ∙ kept ucd old c.row_at.new.self text c.row_at.ensures.keeps (λ w rs. cell_of w rs place))
    ∙ sym (ap (λ b. elim b [ true ↦ Start | false ↦ Column (cell_of old.w (rows_by ucd old text) place) ])
    (ne_eqb (row_home (rows_by ucd old text) place) place
    (λ same. c.if-first_in-place.false (c.first_in.ensures _ c.in_ok-at.ensures.row ∙ kept-home ∙ same))))
