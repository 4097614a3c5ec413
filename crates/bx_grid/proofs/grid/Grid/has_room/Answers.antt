use Rattle.std.proofs.Common.{◌↔◌, IsTrue, refl, subst, sym, arith}
use Rattle.bx_grid.specs.Grid.{GridState, HasRoom, IsWithin}
use Rattle.bx_grid.specs.Seen.{all_seen}
use Rattle.bx_grid.proofs.Blanks.{room_told}
use Rattle.bx_grid.proofs.grid.Grid.has_room.Goals as goal

pub returns : goal.returns
returns c =
    let g : GridState = record { height = c.self.inside.height; width = c.self.inside.width; columns = all_seen c.self.inside.columns.items } in
    let cell = c.args.cell in
    let inside : IsWithin g.height g.width cell.line cell.column =
    subst (λ (x : GridState). IsWithin x.height x.width cell.line cell.column) (sym c.self.view_is) c.requires.inside in
    subst (λ (x : GridState). IsTrue c.are_blank.result ↔ HasRoom x cell.line cell.column c.args.count) c.self.view_is
    (room_told c.are_blank.result g c.self.inside.columns.items cell.line cell.column c.args.count refl c.self.invariant.0 inside
    (omega (arith, c.if-count-width.false, inside))
    (rw (c.deref.ensures.value) at c.are_blank.ensures))
