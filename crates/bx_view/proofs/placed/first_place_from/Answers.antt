use Rattle.std.proofs.Common.{◌∙◌, ◌-◌, ap, find, nat_le}
use Rattle.bx_paragraph.specs.BodyRows.{offsets_of}
use Rattle.bx_paragraph.specs.LayoutRowRef.{row}
use Rattle.bx_view.proofs.FindPlaces.{moved-from}
use Rattle.bx_view.proofs.PlacedRows.{found_placed}
use Rattle.bx_view.proofs.placed.first_place_from.Goals as goal

pub place_of-requires : goal.place_of-requires
place_of-requires g c =
    found_placed c.args.row.now (nat_le (c.args.offset - c.args.row.now.start)) c.deref.result.now c.first_from-found.result
    (c.deref.ensures.value ∙ c.in_ok-offsets.ensures) c.first_from-found.ensures

pub returns : goal.returns
returns g c =
    let s = c.args.row.now in
    c.place_of.ensures
    ∙ moved-from s.start c.args.offset c.requires (offsets_of (row s)) c.first_from-found.result
    (c.first_from-found.ensures ∙ ap (λ qs. find (nat_le (c.args.offset - c.args.row.now.start)) qs) (c.deref.ensures.value ∙ c.in_ok-offsets.ensures))
