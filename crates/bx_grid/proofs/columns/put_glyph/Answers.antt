use Rattle.std.proofs.Common.{ap, sym, List, ℕ, arith, ◌≤◌, length, subst}
use Rattle.std.proofs.lemmas.List.{length-map}
use Rattle.bx_grid.specs.Columns as spec
use Rattle.bx_grid.specs.Grid.{AreSameAround}
use Rattle.bx_grid.specs.Seen.{seen, all_seen}
use Rattle.bx_grid.specs.declared.column.Column.TheVariants.{Glyph}
use Rattle.bx_grid.proofs.Puts.{glyph_put, length-glyph}
use Rattle.bx_grid.proofs.Pasted.{paste_around, err_always}
use Rattle.bx_grid.proofs.columns.put_glyph.Goals as goal

pub loop-offset-preserved : goal.loop-offset-preserved
loop-offset-preserved c =
    glyph_put c.loop-offset.columns (all_seen c.args.columns.now) c.args.from c.loop-offset.offset c.args.glyph.width c.args.glyph.text.now c.args.glyph.negative
    (Glyph c.in_ok-from_str.field-0 c.args.glyph.width c.loop-offset.offset c.args.glyph.negative)
    (omega (arith, length-map c.args.columns.now seen)) c.loop-offset.invariant
    (ap (λ (bytes : List ℕ). spec.Glyph bytes c.args.glyph.width c.loop-offset.offset c.args.glyph.negative) c.in_ok-from_str.ensures.ok)

pub returns-in_err-from_str-clause-err : goal.returns-in_err-from_str-clause-err
returns-in_err-from_str-clause-err c =
    let old = all_seen c.args.columns.now in
    let some = spec.glyph_columns_from c.args.glyph.text.now c.args.glyph.width c.args.glyph.negative 0 c.loop-offset.offset in
    let few : length some ≤ c.args.glyph.width = omega (arith, length-glyph c.args.glyph.text.now c.args.glyph.width 0 c.loop-offset.offset c.args.glyph.negative) in
    err_always _ _ (subst (λ (cs : List spec.Col). AreSameAround c.args.from c.args.glyph.width old cs) (sym c.loop-offset.invariant)
    (paste_around old some c.args.from c.args.glyph.width few (omega (arith, length-map c.args.columns.now seen))))
