use Rattle.std.proofs.Common.{◌≡◌, ◌∙◌, ◌+◌, ◌-◌, ◌*◌, ◌≤◌, List, ap, sym, subst, replicate, arith}
use Rattle.std.proofs.lemmas.List.{length-replicate, take_at}
use Rattle.bx_grid.specs.Columns.{Col, blank}
use Rattle.bx_grid.specs.Grid.{paste, GridState}
use Rattle.bx_grid.specs.Seen.{all_seen}
use Rattle.bx_grid.proofs.RowsPut.{noted_rows}
use Rattle.bx_grid.proofs.Whole.{rows-blank}
use Rattle.bx_grid.proofs.grid.Grid.blank_rows.Goals as goal

pub invariant_of-self : goal.invariant_of-self
invariant_of-self c =
    let g : GridState = record { height = c.self.inside.height; width = c.self.inside.width; columns = all_seen c.self.inside.columns.items } in
    let w = g.width in
    let from = c.args.from in
    let n = c.args.to - from in
    let high : c.args.to ≤ g.height = subst (λ (x : GridState). c.args.to ≤ x.height) (sym c.self.view_is) c.requires.inside in
    let last : c.args.to ≡ from + n = omega (arith, c.requires.order) in
    let sum : (from + n) * w ≡ from * w + n * w = omega arith in
    let end : c.args.to * w ≡ from * w + n * w = ap (λ k. k * w) last ∙ sum in
    let count : c.args.to * w - from * w ≡ n * w = omega (arith, end) in
    let columns = take_at c.fill_blank.new.columns _ c.self.inside.columns.len (c.fill_blank.auto.columns ∙ c.as_mut_slice.ensures.len) in
    let new = ap all_seen columns ∙ c.fill_blank.ensures
    ∙ ap (λ cs. paste (all_seen cs) (from * w) (replicate (c.args.to * w - from * w) blank)) c.as_mut_slice.ensures.value
    ∙ ap (λ k. paste g.columns (from * w) (replicate k blank)) count in
    let both = noted_rows g from n (c.args.to * w) (replicate (n * w) blank) _ c.deref.result.now c.as_mut_slice-2.result.now c.note_codes.new.codes
    c.self.invariant.0 (omega (arith, last, high)) (length-replicate (n * w) blank) (rows-blank n w) new c.deref.ensures.value
    (c.as_mut_slice-2.ensures.value ∙ c.self.invariant.1) end c.note_codes.ensures in (
      both.0,
      take_at c.note_codes.new.codes _ c.self.inside.codes.len (c.note_codes.auto.codes ∙ c.as_mut_slice-2.ensures.len) ∙ both.1,
    )

pub returns : goal.returns
returns c =
    let g : GridState = record { height = c.self.inside.height; width = c.self.inside.width; columns = all_seen c.self.inside.columns.items } in
    let w = g.width in
    let from = c.args.from in
    let n = c.args.to - from in
    let last : c.args.to ≡ from + n = omega (arith, c.requires.order) in
    let sum : (from + n) * w ≡ from * w + n * w = omega arith in
    let end : c.args.to * w ≡ from * w + n * w = ap (λ k. k * w) last ∙ sum in
    let count : c.args.to * w - from * w ≡ n * w = omega (arith, end) in
    let columns = take_at c.fill_blank.new.columns _ c.self.inside.columns.len (c.fill_blank.auto.columns ∙ c.as_mut_slice.ensures.len) in
    ap (λ (cs : List Col). record { height = g.height; width = g.width; columns = cs })
    (ap all_seen columns ∙ c.fill_blank.ensures
    ∙ ap (λ cs. paste (all_seen cs) (from * w) (replicate (c.args.to * w - from * w) blank)) c.as_mut_slice.ensures.value
    ∙ ap (λ k. paste g.columns (from * w) (replicate k blank)) count)
    ∙ ap (λ (x : GridState). record {
      height = x.height;
      width = x.width;
      columns = paste x.columns (from * x.width) (replicate (n * x.width) blank);
    }) c.self.view_is
