use Rattle.std.proofs.Common.{◌≡◌, ◌∙◌, ◌+◌, ◌*◌, ◌<◌, List, ap, sym, subst, length, replicate, arith}
use Rattle.std.proofs.lemmas.List.{length-map, length-replicate, take_at}
use Rattle.bx_grid.specs.Columns.{Col, blank}
use Rattle.bx_grid.specs.Grid.{paste, GridState, IsGrid}
use Rattle.bx_grid.specs.Codes.{codes_of}
use Rattle.bx_grid.specs.Seen.{seen, all_seen}
use Rattle.bx_grid.proofs.Equal.{lists_are}
use Rattle.bx_grid.proofs.RowsPut.{codes_pasted, noted_rows, one_row, whole_of_one, put_same, rows_kept}
use Rattle.bx_grid.proofs.Whole.{whole_blanks}
use Rattle.bx_grid.proofs.grid.Grid.put_row.Goals as goal

pub returns-then-is_same-clause-ok : goal.returns-then-is_same-clause-ok
returns-then-is_same-clause-ok c =
    let old : GridState = c.args.self.now in
    let new : GridState = c.args.new.now in
    let there = sym c.row.ensures.row ∙ lists_are c.row.result c.only_row.result (sym c.is_same.ensures ∙ c.if-is_same.true) ∙ c.only_row.ensures.row in
    ap (λ (cs : List Col). record old { columns = cs })
    (sym (put_same old.columns new.columns (c.args.row * old.width) old.width there
    (c.only_row.ensures.filled ∙ c.requires.width)))

-- where memory runs out
pub invariant_of-self-in-Err : goal.invariant_of-self-in-Err
invariant_of-self-in-Err c =
    let g : GridState = record { height = c.self.inside.height; width = c.self.inside.width; columns = all_seen c.self.inside.columns.items } in
    let w = g.width in
    let row = c.args.row in
    let below : row < g.height = subst (λ (x : GridState). row < x.height) (sym c.self.view_is) c.requires.inside in
    let wide = sym (length-map c.deref.result.now seen) ∙ ap (λ cs. length (all_seen cs)) c.deref.ensures.value
    ∙ ap (λ (x : GridState). length x.columns) c.new.view_is ∙ c.only_row.ensures.filled ∙ c.requires.width
    ∙ ap (λ (x : GridState). x.width) (sym c.self.view_is) in
    let blanks : List Col = replicate w blank in
    let columns = take_at c.put_copies.new.columns _ c.self.inside.columns.len (c.put_copies.auto.columns ∙ c.as_mut_slice.ensures.len) in
    let new = ap all_seen columns ∙ c.in-Err.ensures.err
    ∙ ap (λ cs. paste (all_seen cs) (row * w) (replicate (length c.deref.result.now) blank)) c.as_mut_slice.ensures.value
    ∙ ap (λ k. paste g.columns (row * w) (replicate k blank)) wide in
    let one : 1 * w ≡ w = omega arith in
    let both = noted_rows g row 1 (row * w + w) blanks _ c.deref-in-Err.result.now c.as_mut_slice-in-Err.result.now c.note_codes.new.codes
    c.self.invariant.0 (omega (arith, below)) (length-replicate w blank ∙ sym one) (one_row w blanks (length-replicate w blank) (whole_blanks w)) new
    c.deref-in-Err.ensures.value (c.as_mut_slice-in-Err.ensures.value ∙ c.self.invariant.1) (omega (arith, one)) c.note_codes.ensures in (
      both.0,
      take_at c.note_codes.new.codes _ c.self.inside.codes.len (c.note_codes.auto.codes ∙ c.as_mut_slice-in-Err.ensures.len) ∙ both.1,
    )

-- where it does not
pub invariant_of-self : goal.invariant_of-self
invariant_of-self c =
    let g : GridState = record { height = c.self.inside.height; width = c.self.inside.width; columns = all_seen c.self.inside.columns.items } in
    let w = g.width in
    let row = c.args.row in
    let below : row < g.height = subst (λ (x : GridState). row < x.height) (sym c.self.view_is) c.requires.inside in
    let news = all_seen c.new.inside.columns.items in
    let same : c.new.inside.width ≡ w =
    ap (λ (x : GridState). x.width) c.new.view_is ∙ c.requires.width ∙ ap (λ (x : GridState). x.width) (sym c.self.view_is) in
    let wide : length news ≡ w = ap (λ (x : GridState). length x.columns) c.new.view_is ∙ c.only_row.ensures.filled
    ∙ c.requires.width ∙ ap (λ (x : GridState). x.width) (sym c.self.view_is) in
    let rows = whole_of_one c.new.inside.height c.new.inside.width w news c.new.invariant.0.rows
    (ap (λ (x : GridState). x.height) c.new.view_is ∙ c.requires.one) same in
    let columns = take_at c.put_copies.new.columns _ c.self.inside.columns.len (c.put_copies.auto.columns ∙ c.as_mut_slice.ensures.len) in
    let now = ap all_seen columns ∙ c.in-Ok.ensures.ok
    ∙ ap (λ cs. paste (all_seen cs) (row * w) (all_seen c.deref.result.now)) c.as_mut_slice.ensures.value
    ∙ ap (λ cs. paste g.columns (row * w) (all_seen cs)) c.deref.ensures.value in
    let one : 1 * w ≡ w = omega arith in (
      subst (λ (cs : List Col). IsGrid g.height g.width cs) (sym now)
          (rows_kept g row 1 news c.self.invariant.0 (omega (arith, below)) (wide ∙ sym one) rows),
      take_at c.put_codes.new.codes _ c.self.inside.codes.len (c.put_codes.auto.codes ∙ c.as_mut_slice-in-Ok.ensures.len)
          ∙ c.put_codes.ensures
          ∙ codes_pasted g.columns news c.as_mut_slice-in-Ok.result.now c.deref-in-Ok.result.now (row * w)
          (c.as_mut_slice-in-Ok.ensures.value ∙ c.self.invariant.1) (c.deref-in-Ok.ensures.value ∙ c.new.invariant.1)
          ∙ ap codes_of (sym now),
    )
