use Rattle.std.proofs.Common.{◌∙◌, ◌-◌, ap, find, nat_lt, reverse}
use Rattle.bx_paragraph.specs.BodyRows.{offsets_of}
use Rattle.bx_paragraph.specs.LayoutRowRef.{row}
use Rattle.bx_view.proofs.FindPlaces.{moved-before}
use Rattle.bx_view.proofs.PlacedRows.{found_back_placed}
use Rattle.bx_view.proofs.moves.placed.last_place_before.Goals as goal

pub place_of-requires : goal.place_of-requires
place_of-requires g c =
    found_back_placed c.args.row.now (λ k. nat_lt k (c.args.place - c.args.row.now.start)) c.deref.result.now c.last_before-found.result
    (c.deref.ensures.value ∙ c.in_ok-offsets.ensures) c.last_before-found.ensures

pub returns : goal.returns
returns g c =
    let s = c.args.row.now in
    c.place_of.ensures
    ∙ moved-before s.start c.args.place c.requires (offsets_of (row s)) c.last_before-found.result
    (c.last_before-found.ensures ∙ ap (λ qs. find (λ k. nat_lt k (c.args.place - c.args.row.now.start)) (reverse qs)) (c.deref.ensures.value ∙ c.in_ok-offsets.ensures))
