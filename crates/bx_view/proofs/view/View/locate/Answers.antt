use Rattle.std.proofs.Common.{◌+◌, ◌≡◌, ◌≤◌, ◌∙◌, ap, subst, sym}
use Rattle.bx_common.specs.Characters.{is_side}
use Rattle.bx_paragraph.proofs.Starts.{side-some}
use Rattle.bx_view.specs.FoundRow.{StandsOn, rows_by}
use Rattle.bx_view.specs.TextRows.{cell_of, row_of}
use Rattle.bx_view.specs.Top.{nearest_top}
use Rattle.bx_view.proofs.Beyond.{kept, keeps-then}
use Rattle.bx_view.proofs.CellColumns.{cell-inside}
use Rattle.bx_view.proofs.KeptRows.{begins-kept}
use Rattle.bx_view.proofs.CachedRows.{rows-kept}
use Rattle.bx_view.proofs.view.View.locate.Goals as goal

pub returns-clause-top : goal.returns-clause-top
returns-clause-top g c =
    let ucd = g.D.BidiData.data c.args.text_ref.now.tables.now in
    let text = c.args.text_ref.now.text.now.edited.text in
    let old = c.args.self.now in
    let v = c.row_at.new.self in
    let near = c.row_near.new.self in
    let both = keeps-then ucd old v near c.row_at.ensures.keeps c.row_near.ensures.keeps in
    let shown = c.in_ok-shown.ensures.row in
    let begins = begins-kept ucd old v text c.args.top c.in_ok-shown.shown c.args.text_ref.now.utf8 c.row_at.ensures.keeps shown near both
    c.first_in-old.result (c.first_in-old.ensures _ shown) in
    subst (λ rs. StandsOn ucd c.top_above.new.self text c.in_ok-top.top
    (nearest_top (row_of (rows_by ucd old text) c.args.top) (row_of rs c.args.place) c.args.t)) (rows-kept ucd old near text both)
    (c.in_ok-top.ensures.top _ _ c.in_ok-own.ensures.row begins)

pub returns-clause-above : goal.returns-clause-above
returns-clause-above g c =
    let ucd = g.D.BidiData.data c.args.text_ref.now.tables.now in
    let text = c.args.text_ref.now.text.now.edited.text in
    let old = c.args.self.now in
    let v = c.row_at.new.self in
    let near = c.row_near.new.self in
    let both = keeps-then ucd old v near c.row_at.ensures.keeps c.row_near.ensures.keeps in
    let shown = c.in_ok-shown.ensures.row in
    let begins = begins-kept ucd old v text c.args.top c.in_ok-shown.shown c.args.text_ref.now.utf8 c.row_at.ensures.keeps shown near both
    c.first_in-old.result (c.first_in-old.ensures _ shown) in
    subst (λ rs. nearest_top (row_of (rows_by ucd old text) c.args.top) (row_of rs c.args.place) c.args.t + c.in_ok-top.above
    ≡ row_of rs c.args.place) (rows-kept ucd old near text both) (c.in_ok-top.ensures.above _ _ c.in_ok-own.ensures.row begins)

pub returns-clause-inside : goal.returns-clause-inside
returns-clause-inside g c =
    let ucd = g.D.BidiData.data c.args.text_ref.now.tables.now in
    let text = c.args.text_ref.now.text.now.edited.text in
    let old = c.args.self.now in
    let near = c.row_near.new.self in
    let some = side-some old.w (sym (ap is_side c.row_at.ensures.keeps.w) ∙ c.in_ok-shown.ensures.row.side) in
    let cell = c.in_ok-position.ensures.column
    ∙ kept ucd old near text (keeps-then ucd old c.row_at.new.self near c.row_at.ensures.keeps c.row_near.ensures.keeps)
    (λ w rs. cell_of w rs c.args.place) in
    subst (λ n. (1 ≤ n) × (n ≤ old.w)) (sym cell) (cell-inside ucd old.base old.w text c.args.place some c.args.text_ref.now.utf8)
