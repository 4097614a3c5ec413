use Rattle.std.proofs.Common.{◌≡◌, ◌+◌, ◌-◌, ◌∙◌, IsCharBoundary, ap, length, min, subst, sym, arith}
use Rattle.bx_paragraph.proofs.Starts.{side-some}
use Rattle.bx_view.specs.FoundRow.{rows_by}
use Rattle.bx_view.specs.Moves.{to_row}
use Rattle.bx_view.specs.Places.{IsTextPlace}
use Rattle.bx_view.specs.TextRows.{first, row_at, row_of}
use Rattle.bx_view.proofs.Beyond.{keeps-then, kept}
use Rattle.bx_view.proofs.Boundaries.{bounds-kept}
use Rattle.bx_view.proofs.CachedRows.{rows-kept}
use Rattle.bx_view.proofs.KeptPlaces.{text-places-kept}
use Rattle.bx_view.proofs.KeptRows.{far-row, own-first, own-within, rise-kept}
use Rattle.bx_view.proofs.MovedTops.{row-above, row-among, row-below, stays-in}
use Rattle.bx_view.proofs.Nearest.{falls-within}
use Rattle.bx_view.proofs.moves.shown_place.to_shown.Goals as goal
use Rattle.bx_view.proofs.moves.shown_place.to_shown.Goals.{After-first_in, After-first_in-2}

-- where the place's row and the top row begin
own-begins : (g : _) (c : After-first_in g) → c.first_in-own.result
    ≡ first (row_at (rows_by (g.D.BidiData.data c.args.text_ref.now.tables.now) c.args.view.now c.args.text_ref.now.text.now.edited.text)
    (row_of (rows_by (g.D.BidiData.data c.args.text_ref.now.tables.now) c.args.view.now c.args.text_ref.now.text.now.edited.text) c.args.place))
own-begins g c =
    let s = c.args.text_ref.now in
    own-first (g.D.BidiData.data s.tables.now) c.args.view.now c.row_at.new.self s.text.now.edited.text c.args.place c.in_ok-at.at s.utf8 c.row_at.ensures.keeps
    c.in_ok-at.ensures.row c.first_in-own.result (c.first_in-own.ensures _ c.in_ok-at.ensures.row)

top-begins : (g : _) (c : After-first_in g) → c.first_in.result
    ≡ first (row_at (rows_by (g.D.BidiData.data c.args.text_ref.now.tables.now) c.args.view.now c.args.text_ref.now.text.now.edited.text)
    (row_of (rows_by (g.D.BidiData.data c.args.text_ref.now.tables.now) c.args.view.now c.args.text_ref.now.text.now.edited.text) c.args.top))
top-begins g c =
    let s = c.args.text_ref.now in
    let ucd = g.D.BidiData.data s.tables.now in
    let both = keeps-then ucd c.args.view.now c.row_at.new.self c.row_at-2.new.self c.row_at.ensures.keeps c.row_at-2.ensures.keeps in
    own-first ucd c.args.view.now c.row_at-2.new.self s.text.now.edited.text c.args.top c.in_ok-first.first s.utf8 both
    c.in_ok-first.ensures.row c.first_in.result (c.first_in.ensures _ c.in_ok-first.ensures.row)

-- the last visible row, and where it begins
last-begins : (g : _) (c : After-first_in-2 g) → c.first_in-2.result
    ≡ first (row_at (rows_by (g.D.BidiData.data c.args.text_ref.now.tables.now) c.args.view.now c.args.text_ref.now.text.now.edited.text)
    (min (row_of (rows_by (g.D.BidiData.data c.args.text_ref.now.tables.now) c.args.view.now c.args.text_ref.now.text.now.edited.text) c.args.top + (c.args.count - 1))
    (length (rows_by (g.D.BidiData.data c.args.text_ref.now.tables.now) c.args.view.now c.args.text_ref.now.text.now.edited.text) - 1)))
last-begins g c =
    let s = c.args.text_ref.now in
    let ucd = g.D.BidiData.data s.tables.now in
    let old = c.args.view.now in
    let v = c.row_at-2.new.self in
    let both = keeps-then ucd old c.row_at.new.self v c.row_at.ensures.keeps c.row_at-2.ensures.keeps in
    let on = c.in_ok-first.ensures.row in
    c.first_in-2.ensures _ (c.in_ok-last.ensures.row _ on)
    ∙ far-row ucd old v s.text.now.edited.text c.args.top c.in_ok-first.first s.utf8 both on c.rows_down.new.view
    (keeps-then ucd old v c.rows_down.new.view both c.rows_down.ensures.keeps) first
    (λ rs. min (row_of rs c.args.top + (c.args.count - 1)) (length rs - 1))

pub returns-then-own-first_in-clause-place : goal.returns-then-own-first_in-clause-place
returns-then-own-first_in-clause-place g c =
    let s = c.args.text_ref.now in
    let ucd = g.D.BidiData.data s.tables.now in
    let text = s.text.now.edited.text in
    let old = c.args.view.now in
    let v = c.row_at.new.self in
    let shown = c.row_at-2.new.self in
    let place = c.args.place in
    let top = c.args.top in
    let both = keeps-then ucd old v shown c.row_at.ensures.keeps c.row_at-2.ensures.keeps in
    let on = c.in_ok-at.ensures.row in
    let rows = rows_by ucd old text in
    let rise = rise-kept ucd old v text place c.in_ok-at.at s.utf8 c.row_at.ensures.keeps on in
    let own = own-within ucd old v text place c.in_ok-at.at s.utf8 c.row_at.ensures.keeps on in
    let above = falls-within rows top (omega (arith, own)) in
    let before = (goal.at.returns-then-own-first_in-clause-place g c).After-first_in in
    let near = row-above rows rise top place c.args.count c.requires.some above own
    (omega (arith, own-begins g before, top-begins g before, c.if-own-first_in.true)) in
    c.in_ok-place.ensures.place _ c.in_ok-first.ensures.row
    ∙ kept ucd old shown text both (λ w rs. to_row w rs c.args.goal place (row_of rs top))
    ∙ ap (to_row old.w rows c.args.goal place) (sym near)

pub first_in-requires-2 : goal.first_in-requires-2
first_in-requires-2 g c = record { row = (_, c.in_ok-last.ensures.row _ c.in_ok-first.ensures.row) }

pub returns-then-own-first_in-2-clause-place : goal.returns-then-own-first_in-2-clause-place
returns-then-own-first_in-2-clause-place g c =
    let s = c.args.text_ref.now in
    let ucd = g.D.BidiData.data s.tables.now in
    let text = s.text.now.edited.text in
    let old = c.args.view.now in
    let v = c.row_at.new.self in
    let place = c.args.place in
    let top = c.args.top in
    let on = c.in_ok-at.ensures.row in
    let rows = rows_by ucd old text in
    let rise = rise-kept ucd old v text place c.in_ok-at.at s.utf8 c.row_at.ensures.keeps on in
    let own = own-within ucd old v text place c.in_ok-at.at s.utf8 c.row_at.ensures.keeps on in
    let above = falls-within rows top (omega (arith, own)) in
    let before = (goal.at.returns-then-own-first_in-2-clause-place g c).After-first_in in
    let later = (goal.at.returns-then-own-first_in-2-clause-place g c).After-first_in-2 in
    stays-in rows old.w c.args.goal place _ (row-among rows rise top place c.args.count c.requires.some above own
    (λ less. omega (arith, less, own-begins g before, top-begins g before, c.if-own-first_in.false))
    (omega (arith, own-begins g before, last-begins g later, c.if-own-first_in-2.true)))

pub to_row-requires-2-clause-row : goal.to_row-requires-2-clause-row
to_row-requires-2-clause-row g c = (_, c.in_ok-last.ensures.row _ c.in_ok-first.ensures.row)

pub returns-clause-place : goal.returns-clause-place
returns-clause-place g c =
    let s = c.args.text_ref.now in
    let ucd = g.D.BidiData.data s.tables.now in
    let text = s.text.now.edited.text in
    let old = c.args.view.now in
    let v = c.row_at.new.self in
    let shown = c.row_at-2.new.self in
    let down = c.rows_down.new.view in
    let place = c.args.place in
    let top = c.args.top in
    let count = c.args.count in
    let both = keeps-then ucd old v shown c.row_at.ensures.keeps c.row_at-2.ensures.keeps in
    let on = c.in_ok-at.ensures.row in
    let rows = rows_by ucd old text in
    let rise = rise-kept ucd old v text place c.in_ok-at.at s.utf8 c.row_at.ensures.keeps on in
    let own = own-within ucd old v text place c.in_ok-at.at s.utf8 c.row_at.ensures.keeps on in
    let above = falls-within rows top (omega (arith, own)) in
    let before = (goal.at.returns-clause-place g c).After-first_in in
    let later = (goal.at.returns-clause-place g c).After-first_in-2 in
    let near = row-below rows rise top place count c.requires.some above own
    (λ among. omega (arith, among, own-begins g before, last-begins g later, c.if-own-first_in-2.false)) in
    c.in_ok-place-2.ensures.place _ (c.in_ok-last.ensures.row _ c.in_ok-first.ensures.row)
    ∙ ap (λ rs. to_row down.w (rows_by ucd down text) c.args.goal place (min (row_of rs top + (count - 1)) (length rs - 1))) (rows-kept ucd old shown text both)
    ∙ kept ucd old down text (keeps-then ucd old shown down both c.rows_down.ensures.keeps)
    (λ w rs. to_row w rs c.args.goal place (min (row_of rows top + (count - 1)) (length rows - 1)))
    ∙ ap (to_row old.w rows c.args.goal place) (sym near)

-- ---- places and boundaries are kept

pub returns-then-own-first_in-clause-text_place : goal.returns-then-own-first_in-clause-text_place
returns-then-own-first_in-clause-text_place g c = λ is.
    let s = c.args.text_ref.now in
    let v = c.args.view.now in
    let kept-places = text-places-kept (g.D.BidiData.data s.tables.now) v.base v.w (side-some v.w c.width-side.ensures.side) s.text.now.edited.text s.utf8 in
    subst (IsTextPlace (g.D.BidiData.data s.tables.now) s.text.now.edited.text) (sym (returns-then-own-first_in-clause-place g c))
    (kept-places.shown c.args.top c.args.count c.args.goal c.args.place is)

pub returns-then-own-first_in-clause-boundary : goal.returns-then-own-first_in-clause-boundary
returns-then-own-first_in-clause-boundary g c = λ is.
    let s = c.args.text_ref.now in
    let v = c.args.view.now in
    let bounds = bounds-kept (g.D.BidiData.data s.tables.now) v.base v.w (side-some v.w c.width-side.ensures.side) s.text.now.edited.text s.utf8 in
    subst (IsCharBoundary s.text.now.edited.text) (sym (returns-then-own-first_in-clause-place g c))
    (bounds.shown c.args.top c.args.count c.args.goal c.args.place is)

pub returns-clause-text_place : goal.returns-clause-text_place
returns-clause-text_place g c = λ is.
    let s = c.args.text_ref.now in
    let v = c.args.view.now in
    let kept-places = text-places-kept (g.D.BidiData.data s.tables.now) v.base v.w (side-some v.w c.width-side.ensures.side) s.text.now.edited.text s.utf8 in
    subst (IsTextPlace (g.D.BidiData.data s.tables.now) s.text.now.edited.text) (sym (returns-clause-place g c))
    (kept-places.shown c.args.top c.args.count c.args.goal c.args.place is)

pub returns-clause-boundary : goal.returns-clause-boundary
returns-clause-boundary g c = λ is.
    let s = c.args.text_ref.now in
    let v = c.args.view.now in
    let bounds = bounds-kept (g.D.BidiData.data s.tables.now) v.base v.w (side-some v.w c.width-side.ensures.side) s.text.now.edited.text s.utf8 in
    subst (IsCharBoundary s.text.now.edited.text) (sym (returns-clause-place g c)) (bounds.shown c.args.top c.args.count c.args.goal c.args.place is)
