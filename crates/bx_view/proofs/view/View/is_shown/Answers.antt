use Rattle.std.proofs.Common.{◌<◌, ◌∙◌, ap, ap₂, length, nat_eq, subst, arith}
use Rattle.bx_view.specs.FoundRow.{StandsOn, rows_by}
use Rattle.bx_view.specs.TextRows.{first, row_at, row_of}
use Rattle.bx_view.specs.Top.{nearest_top}
use Rattle.bx_view.proofs.Beyond.{keeps-then}
use Rattle.bx_view.proofs.CachedRows.{rows-kept}
use Rattle.bx_view.proofs.KeptRows.{begins-kept, own-first, own-within, rise-kept}
use Rattle.bx_view.proofs.MovedTops.{same-begin, stays-among}
use Rattle.bx_view.proofs.Nearest.{falls-within}
use Rattle.bx_view.proofs.view.View.is_shown.Goals as goal
use Rattle.bx_view.proofs.view.View.is_shown.Goals.{In_ok-nearest}

-- the nearest top row
near : (g : _) (c : In_ok-nearest g)
    → StandsOn (g.D.BidiData.data c.args.text_ref.now.tables.now) c.top_above.new.self c.args.text_ref.now.text.now.edited.text c.in_ok-nearest.nearest
    (nearest_top (row_of (rows_by (g.D.BidiData.data c.args.text_ref.now.tables.now) c.args.self.now c.args.text_ref.now.text.now.edited.text) c.args.top)
    (row_of (rows_by (g.D.BidiData.data c.args.text_ref.now.tables.now) c.args.self.now c.args.text_ref.now.text.now.edited.text) c.args.place) c.args.t)
near g c =
    let ucd = g.D.BidiData.data c.args.text_ref.now.tables.now in
    let text = c.args.text_ref.now.text.now.edited.text in
    let old = c.args.self.now in
    let v = c.row_at.new.self in
    let w = c.row_near.new.self in
    let both = keeps-then ucd old v w c.row_at.ensures.keeps c.row_near.ensures.keeps in
    let shown = c.in_ok-shown.ensures.row in
    let begins = begins-kept ucd old v text c.args.top c.in_ok-shown.shown c.args.text_ref.now.utf8 c.row_at.ensures.keeps shown w both
    c.first_in-old.result (c.first_in-old.ensures _ shown) in
    subst (λ rs. StandsOn ucd c.top_above.new.self text c.in_ok-nearest.nearest
    (nearest_top (row_of (rows_by ucd old text) c.args.top) (row_of rs c.args.place) c.args.t)) (rows-kept ucd old w text both)
    (c.in_ok-nearest.ensures.top _ _ c.in_ok-own.ensures.row begins)

pub first_in-requires : goal.first_in-requires
first_in-requires g c = record { row = (_, near g (goal.at.first_in-requires g c).In_ok-nearest) }

pub returns-clause-shown : goal.returns-clause-shown
returns-clause-shown g c =
    let ucd = g.D.BidiData.data c.args.text_ref.now.tables.now in
    let text = c.args.text_ref.now.text.now.edited.text in
    let utf8 = c.args.text_ref.now.utf8 in
    let old = c.args.self.now in
    let v = c.row_at.new.self in
    let later = c.top_above.new.self in
    let keeps = c.row_at.ensures.keeps in
    let shown = c.in_ok-shown.ensures.row in
    let rows = rows_by ucd old text in
    let k = row_of rows c.args.top in
    let n = row_of rows c.args.place in
    let all = keeps-then ucd old v later keeps (keeps-then ucd v c.row_near.new.self later c.row_near.ensures.keeps c.top_above.ensures.keeps) in
    let top : k < length rows = own-within ucd old v text c.args.top c.in_ok-shown.shown utf8 keeps shown in
    let there : n < length rows = falls-within rows c.args.place (omega (arith, top)) in
    let begins = own-first ucd old v text c.args.top c.in_ok-shown.shown utf8 keeps shown c.first_in-old.result (c.first_in-old.ensures _ shown) in
    let found = c.first_in.ensures _ (near g (goal.at.returns-clause-shown g c).In_ok-nearest)
    ∙ ap (λ rs. first (row_at rs (nearest_top k n c.args.t))) (rows-kept ucd old later text all) in
    ap₂ nat_eq found begins
    ∙ same-begin rows (rise-kept ucd old v text c.args.top c.in_ok-shown.shown utf8 keeps shown) (nearest_top k n c.args.t) k
    (omega (arith, top, there, c.requires.some)) top
    ∙ stays-among k n c.args.t c.requires.some
