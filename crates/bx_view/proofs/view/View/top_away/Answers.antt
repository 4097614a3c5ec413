use Rattle.std.proofs.Common.{◌+◌, ◌-◌, ◌<◌, ◌∙◌, ap, ap₂, length, max, min, sym, arith}
use Rattle.bx_view.specs.FoundRow.{rows_by}
use Rattle.bx_view.specs.TextRows.{first, row_at, row_of}
use Rattle.bx_view.specs.Top.{last_top, top_away}
use Rattle.bx_view.proofs.Beyond.{keeps-then}
use Rattle.bx_view.proofs.CachedRows.{rows-kept}
use Rattle.bx_view.proofs.KeptRows.{far-row, own-first, own-within, rise-kept}
use Rattle.bx_view.proofs.MovedTops.{filled-below, later-begin}
use Rattle.bx_view.proofs.view.View.top_away.Goals as goal

pub first_in-requires : goal.first_in-requires
first_in-requires g c = record { row = (_, c.in_ok-there-in-Up.ensures.row _ c.in_ok-at.ensures.row) }

pub row_to_fill-requires-clause-row : goal.row_to_fill-requires-clause-row
row_to_fill-requires-clause-row g c = (_, c.in_ok-below-in-Down.ensures.row _ c.in_ok-at.ensures.row)

pub first_in-requires-in-Down : goal.first_in-requires-in-Down
first_in-requires-in-Down g c =
    record { row = (_, c.in_ok-there-in-Down.ensures.row _ (c.in_ok-below-in-Down.ensures.row _ c.in_ok-at.ensures.row)) }

pub returns-in_ok-there-in-Down-clause-top : goal.returns-in_ok-there-in-Down-clause-top
returns-in_ok-there-in-Down-clause-top g c =
    let ucd = g.D.BidiData.data c.args.text_ref.now.tables.now in
    let text = c.args.text_ref.now.text.now.edited.text in
    let utf8 = c.args.text_ref.now.utf8 in
    let old = c.args.self.now in
    let v = c.row_at.new.self in
    let below = c.rows_down.new.view in
    let later = c.row_to_fill.new.self in
    let keeps = c.row_at.ensures.keeps in
    let on = c.in_ok-at.ensures.row in
    let rows = rows_by ucd old text in
    let top = c.args.top in
    let n = c.args.n in
    let t = c.args.t in
    let k = row_of rows top in
    let some = c.requires.some in
    let within : k < length rows = own-within ucd old v text top c.in_ok-at.at utf8 keeps on in
    let own = own-first ucd old v text top c.in_ok-at.at utf8 keeps on c.first_in-own.result (c.first_in-own.ensures _ on) in
    let further = keeps-then ucd old v later keeps (keeps-then ucd v below later c.rows_down.ensures.keeps c.row_to_fill.ensures.keeps) in
    let there = c.first_in-in-Down.ensures _ (c.in_ok-there-in-Down.ensures.row _ (c.in_ok-below-in-Down.ensures.row _ on))
    ∙ ap (λ rs. first (row_at (rows_by ucd later text) (min (min (row_of (rows_by ucd v text) top + n) (length (rows_by ucd v text) - 1)) (last_top (length rs) t))))
    (rows-kept ucd v below text c.rows_down.ensures.keeps)
    ∙ far-row ucd old v text top c.in_ok-at.at utf8 keeps on later further first
    (λ rs. min (min (row_of rs top + n) (length rs - 1)) (last_top (length rs) t))
    ∙ ap (λ m. first (row_at rows m)) (filled-below (length rows) t k n some) in
    c.max.ensures ∙ ap₂ max own there
    ∙ later-begin rows (rise-kept ucd old v text top c.in_ok-at.at utf8 keeps on) k (min (k + n) (last_top (length rows) t)) within
    (omega (arith, within, some))
    ∙ ap (λ way. top_away rows way n top t) (sym c.in-Down.is)
