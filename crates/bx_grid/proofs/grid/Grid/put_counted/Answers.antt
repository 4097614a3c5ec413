use Rattle.std.proofs.Common.{◌≡◌, ◌∙◌, ◌*◌, ◌+◌, ◌-◌, ◌≤◌, List, ap, sym, subst, refl, length, arith}
use Rattle.std.proofs.lemmas.List.{take_at}
use Rattle.bx_grid.specs.Columns.{Col, run_columns}
use Rattle.bx_grid.specs.Grid.{paste, GridState, IsGrid}
use Rattle.bx_grid.specs.Codes.{codes_of}
use Rattle.bx_grid.specs.Seen.{seen, all_seen}
use Rattle.bx_grid.proofs.Grids.{CanPut, can_along, code_set, narrow_seen, put_kept, put_fits}
use Rattle.bx_grid.proofs.Coded.{noted}
use Rattle.bx_grid.proofs.Puts.{run_length}
use Rattle.bx_grid.proofs.grid.Grid.put_counted.Goals as goal

-- ---- a short text in one column

pub invariant_of-self : goal.invariant_of-self
invariant_of-self c =
    let g : GridState = record { height = c.self.inside.height; width = c.self.inside.width; columns = all_seen c.self.inside.columns.items } in
    let cell = c.args.cell in
    let text = c.args.text.now in
    let can : CanPut g cell.line cell.column text = can_along g c.args.self.now cell.line cell.column text c.self.view_is
    (record { inside = c.requires.inside; glyph = c.requires.glyph; utf8 = c.utf8.text; room = c.requires.room }) in
    let index = (cell.line - 1) * g.width + (cell.column - 1) in
    let new : all_seen c.set_column.new.columns.items ≡ paste g.columns index (run_columns c.args.negative text) =
    ap all_seen c.set_column.ensures.columns
    ∙ narrow_seen g c.self.inside.columns.items c.narrow-column.result cell.line cell.column text c.args.negative refl c.narrow-column.ensures
    (sym c.requires.counted ∙ c.if-count-eq1.true) c.self.invariant.0 can in (
      subst (λ (cs : List Col). IsGrid g.height g.width cs) (sym new) (put_kept g cell.line cell.column text c.args.negative c.self.invariant.0 can),
      c.set_column.ensures.codes
          ∙ code_set c.self.inside.columns.items c.self.inside.codes.items c.narrow-column.result
          (seen c.narrow-column.result) index _ refl refl c.self.invariant.1
          ∙ ap (λ cs. codes_of (all_seen cs)) (sym c.set_column.ensures.columns),
    )

pub returns-then-text-le-SHORT-clause-ok : goal.returns-then-text-le-SHORT-clause-ok
returns-then-text-le-SHORT-clause-ok c =
    let g : GridState = record { height = c.self.inside.height; width = c.self.inside.width; columns = all_seen c.self.inside.columns.items } in
    let cell = c.args.cell in
    let text = c.args.text.now in
    let can : CanPut g cell.line cell.column text = can_along g c.args.self.now cell.line cell.column text c.self.view_is
    (record { inside = c.requires.inside; glyph = c.requires.glyph; utf8 = c.utf8.text; room = c.requires.room }) in
    ap (λ (cs : List Col). record { height = g.height; width = g.width; columns = cs })
    (ap all_seen c.set_column.ensures.columns
    ∙ narrow_seen g c.self.inside.columns.items c.narrow-column.result cell.line cell.column text c.args.negative refl c.narrow-column.ensures
    (sym c.requires.counted ∙ c.if-count-eq1.true) c.self.invariant.0 can)
    ∙ ap (λ (x : GridState). record {
      height = x.height;
      width = x.width;
      columns = paste x.columns ((cell.line - 1) * x.width + (cell.column - 1)) (run_columns c.args.negative text);
    }) c.self.view_is

-- ---- any other glyph

pub invariant_of-self-2 : goal.invariant_of-self-2
invariant_of-self-2 c =
    let g : GridState = record { height = c.self.inside.height; width = c.self.inside.width; columns = all_seen c.self.inside.columns.items } in
    let cell = c.args.cell in
    let text = c.args.text.now in
    let news = run_columns c.args.negative text in
    let can : CanPut g cell.line cell.column text = can_along g c.args.self.now cell.line cell.column text c.self.view_is
    (record { inside = c.requires.inside; glyph = c.requires.glyph; utf8 = c.utf8.text; room = c.requires.room }) in
    let index = (cell.line - 1) * g.width + (cell.column - 1) in
    let new : all_seen c.put_over_blanks.new.columns ≡ paste g.columns index news =
    c.in_ok-put_over_blanks.ensures.ok ∙ ap (λ xs. paste (all_seen xs) index news) c.as_mut_slice.ensures.value in
    let columns = take_at c.put_over_blanks.new.columns _ c.self.inside.columns.len (c.put_over_blanks.auto.columns ∙ c.as_mut_slice.ensures.len) in
    let now = ap all_seen columns ∙ new in
    let count : length news ≡ c.args.count = run_length c.args.negative text ∙ sym c.requires.counted in
    let fits : index + c.args.count ≤ length g.columns =
    put_fits g cell.line cell.column text c.args.count c.self.invariant.0 can c.requires.counted in (
      subst (λ (cs : List Col). IsGrid g.height g.width cs) (sym now) (put_kept g cell.line cell.column text c.args.negative c.self.invariant.0 can),
      take_at c.note_codes.new.codes _ c.self.inside.codes.len (c.note_codes.auto.codes ∙ c.as_mut_slice-2.ensures.len)
          ∙ noted g.columns (all_seen c.deref.result.now) news c.as_mut_slice-2.result.now c.note_codes.new.codes index (index + c.args.count)
          c.args.count
          (c.as_mut_slice-2.ensures.value ∙ c.self.invariant.1) (ap all_seen c.deref.ensures.value ∙ now) count (omega arith) fits c.note_codes.ensures
          ∙ ap (λ cs. codes_of (all_seen cs)) c.deref.ensures.value,
    )
