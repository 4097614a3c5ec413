use Rattle.std.proofs.Common.{◌∙◌, ◌-◌, ap, find, nat_le, reverse}
use Rattle.bx_paragraph.specs.BodyRows.{offsets_of}
use Rattle.bx_paragraph.specs.LayoutRowRef.{row}
use Rattle.bx_view.proofs.FindPlaces.{moved-at-most}
use Rattle.bx_view.proofs.PlacedRows.{found_back_placed}
use Rattle.bx_view.proofs.placed.last_place_at.Goals as goal

pub place_of-requires : goal.place_of-requires
place_of-requires g c =
    found_back_placed c.args.row.now (λ k. nat_le k (c.args.offset - c.args.row.now.start)) c.deref.result.now c.last_at-found.result
    (c.deref.ensures.value ∙ c.in_ok-offsets.ensures) c.last_at-found.ensures

pub returns : goal.returns
returns g c =
    let s = c.args.row.now in
    c.place_of.ensures
    ∙ moved-at-most s.start c.args.offset c.requires (offsets_of (row s)) c.last_at-found.result
    (c.last_at-found.ensures ∙ ap (λ qs. find (λ k. nat_le k (c.args.offset - c.args.row.now.start)) (reverse qs)) (c.deref.ensures.value ∙ c.in_ok-offsets.ensures))
