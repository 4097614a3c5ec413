use Rattle.std.proofs.Common.{◌≡◌, ◌∙◌, ◌+◌, ◌-◌, ◌*◌, ◌<◌, ◌≤◌, List, ap, arith, drop, length, map, subst, sym, take}
use Rattle.std.proofs.lemmas.List.{length-drop, length-take-le, take_at}
use Rattle.bx_grid.specs.Codes.{codes_of}
use Rattle.bx_grid.specs.Columns.{Col, turned}
use Rattle.bx_grid.specs.Grid.{paste, GridState, IsGrid, IsBorder, turned_in}
use Rattle.bx_grid.specs.Seen.{all_seen}
use Rattle.bx_grid.proofs.Coded.{noted}
use Rattle.bx_grid.proofs.RowsPut.{one_row, rows_inside, rows_kept, whole_row}
use Rattle.bx_grid.proofs.TurnedWhole.{length-inside, length-turned, row-turned, whole-turned_in}
use Rattle.bx_grid.proofs.grid.Grid.turn.Goals as goal

pub invariant_of-self : goal.invariant_of-self
invariant_of-self c =
    let g : GridState = record { height = c.self.inside.height; width = c.self.inside.width; columns = all_seen c.self.inside.columns.items } in
    let w = g.width in
    let row = c.args.row in
    let k = c.args.column in
    let n = c.args.count in
    let mine = take w (drop (row * w) g.columns) in
    let is = c.self.invariant.0 in
    let one : 1 * w ≡ w = omega arith in
    let below : row < g.height = subst (λ (x : GridState). row < x.height) (sym c.self.view_is) c.requires.inside in
    let fits : k + n ≤ w = subst (λ (x : GridState). k + n ≤ x.width) (sym c.self.view_is) c.requires.fits in
    let begins : IsBorder mine k = subst (λ (x : GridState). IsBorder (take x.width (drop (row * x.width) x.columns)) k) (sym c.self.view_is) c.requires.begins in
    let ends : IsBorder mine (k + n) =
    subst (λ (x : GridState). IsBorder (take x.width (drop (row * x.width) x.columns)) (k + n)) (sym c.self.view_is) c.requires.ends in
    let room : row * w + w ≤ length g.columns = omega (arith, rows_inside g row 1 is (omega (arith, below)), one) in
    let wide : length mine ≡ w = length-take-le w (drop (row * w) g.columns) (omega (arith, room, length-drop (row * w) g.columns)) in
    let start = row * w + k in
    let count : start + n - start ≡ n = omega arith in
    let columns = take_at c.turn_columns.new.columns _ c.self.inside.columns.len (c.turn_columns.auto.columns ∙ c.as_mut_slice.ensures.len) in
    let flat = ap all_seen columns ∙ c.turn_columns.ensures
    ∙ ap (λ cs. turned_in (all_seen cs) start (start + n - start)) c.as_mut_slice.ensures.value
    ∙ ap (turned_in g.columns start) count in
    let now = flat ∙ row-turned g.columns row w k n room fits in
    let news = turned_in mine k n in
    let size : length news ≡ w = length-turned mine k n (omega (arith, wide, fits)) ∙ wide in
    let whole = whole-turned_in mine k n (omega (arith, wide, fits)) (whole_row g row is below) begins ends in
    let fit : start + n ≤ length g.columns = omega (arith, room, fits) in (
      subst (λ (cs : List Col). IsGrid g.height g.width cs) (sym now)
          (rows_kept g row 1 news is (omega (arith, below)) (size ∙ sym one) (one_row w news size whole)),
      take_at c.note_codes.new.codes _ c.self.inside.codes.len (c.note_codes.auto.codes ∙ c.as_mut_slice-2.ensures.len)
          ∙ noted g.columns (all_seen c.deref.result.now) (map turned (take n (drop start g.columns))) c.as_mut_slice-2.result.now c.note_codes.new.codes
          start (start + n) n
          (c.as_mut_slice-2.ensures.value ∙ c.self.invariant.1) (ap all_seen c.deref.ensures.value ∙ flat) (length-inside g.columns start n fit) (omega arith)
          fit c.note_codes.ensures
          ∙ ap (λ cs. codes_of (all_seen cs)) c.deref.ensures.value,
    )

pub returns-clause-turned : goal.returns-clause-turned
returns-clause-turned c =
    let g : GridState = record { height = c.self.inside.height; width = c.self.inside.width; columns = all_seen c.self.inside.columns.items } in
    let w = g.width in
    let row = c.args.row in
    let k = c.args.column in
    let n = c.args.count in
    let one : 1 * w ≡ w = omega arith in
    let below : row < g.height = subst (λ (x : GridState). row < x.height) (sym c.self.view_is) c.requires.inside in
    let fits : k + n ≤ w = subst (λ (x : GridState). k + n ≤ x.width) (sym c.self.view_is) c.requires.fits in
    let room : row * w + w ≤ length g.columns = omega (arith, rows_inside g row 1 c.self.invariant.0 (omega (arith, below)), one) in
    let start = row * w + k in
    let count : start + n - start ≡ n = omega arith in
    let columns = take_at c.turn_columns.new.columns _ c.self.inside.columns.len (c.turn_columns.auto.columns ∙ c.as_mut_slice.ensures.len) in
    ap (λ (cs : List Col). record { height = g.height; width = g.width; columns = cs })
    (ap all_seen columns ∙ c.turn_columns.ensures
    ∙ ap (λ cs. turned_in (all_seen cs) start (start + n - start)) c.as_mut_slice.ensures.value
    ∙ ap (turned_in g.columns start) count
    ∙ row-turned g.columns row w k n room fits)
    ∙ ap (λ (x : GridState). record {
      height = x.height;
      width = x.width;
      columns = paste x.columns (row * x.width) (turned_in (take x.width (drop (row * x.width) x.columns)) k n);
    }) c.self.view_is

pub returns-clause-sized : goal.returns-clause-sized
returns-clause-sized c = subst (λ (x : GridState). length x.columns ≡ x.height * x.width) c.self.view_is c.self.invariant.0.sized.each
