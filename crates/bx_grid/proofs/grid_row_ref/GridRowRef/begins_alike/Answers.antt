use Rattle.std.proofs.Common.{◌≡◌, ◌+◌, ◌<◌, length, ap, sym, ◌∙◌, arith}
use Rattle.std.proofs.lemmas.List.{length-map}
use Rattle.bx_grid.specs.Codes.{code_of}
use Rattle.bx_grid.specs.Seen.{all_seen}
use Rattle.bx_grid.proofs.Coded.{code_at, inside_told, narrow_told, wide_told}
use Rattle.bx_grid.proofs.grid_row_ref.GridRowRef.begins_alike.Goals as goal

pub returns-then-offset_in-gt0 : goal.returns-then-offset_in-gt0
returns-then-offset_in-gt0 c test =
    let columns = c.self.inside.columns.now in
    let others = c.other.inside.columns.now in
    let i = c.args.index in
    let inside : i < length (all_seen columns) = omega (arith, c.requires.inside, ap length c.self.view_is) in
    let also : i < length (all_seen others) = omega (arith, c.requires.also, ap length c.other.view_is) in
    rw (← c.self.view_is, ← c.other.view_is)
    (inside_told (all_seen columns) (all_seen others) i _ _ inside also
    (code_at columns c.self.inside.codes.now i _ c.self.invariant inside) (code_at others c.other.inside.codes.now i _ c.other.invariant also)
    (sym c.is_same_code.ensures ∙ c.if-not-is_same_code.false) (rw (← c.offset_in.ensures) c.if-offset_in-gt0.true))

pub returns-then-count-eq1 : goal.returns-then-count-eq1
returns-then-count-eq1 c test =
    let columns = c.self.inside.columns.now in
    let others = c.other.inside.columns.now in
    let i = c.args.index in
    let inside : i < length (all_seen columns) = omega (arith, c.requires.inside, ap length c.self.view_is) in
    let also : i < length (all_seen others) = omega (arith, c.requires.also, ap length c.other.view_is) in
    rw (← c.self.view_is, ← c.other.view_is)
    (narrow_told (all_seen columns) (all_seen others) i _ _ inside also
    (code_at columns c.self.inside.codes.now i _ c.self.invariant inside) (code_at others c.other.inside.codes.now i _ c.other.invariant also)
    (sym c.is_same_code.ensures ∙ c.if-not-is_same_code.false) (sym c.columns_in-count.ensures ∙ c.if-count-eq1.true))

pub returns : goal.returns
returns c test =
    let columns = c.self.inside.columns.now in
    let others = c.other.inside.columns.now in
    let codes = c.self.inside.codes.now in
    let other_codes = c.other.inside.codes.now in
    let i = c.args.index in
    let many : length codes ≡ length (all_seen columns) = ap length c.self.invariant ∙ length-map (all_seen columns) code_of in
    let few : length other_codes ≡ length (all_seen others) = ap length c.other.invariant ∙ length-map (all_seen others) code_of in
    let inside : i + 1 < length (all_seen columns) = omega (arith, many, c.if-next-codes.false) in
    let here : i < length (all_seen columns) = omega (arith, inside) in
    let also : i + 1 < length (all_seen others) = omega (arith, few, c.if-next-others.false) in
    let there : i < length (all_seen others) = omega (arith, also) in
    rw (← c.self.view_is, ← c.other.view_is)
    (wide_told (all_seen columns) (all_seen others) i _ _ _ _ inside also
    (code_at columns codes i _ c.self.invariant here) (code_at others other_codes i _ c.other.invariant there)
    (code_at columns codes (i + 1) _ c.self.invariant inside) (code_at others other_codes (i + 1) _ c.other.invariant also)
    (sym c.is_same_code.ensures ∙ c.if-not-is_same_code.false) (sym c.is_same_code-2.ensures ∙ test) (sym c.columns_in-count.ensures ∙ c.if-count-ne2.false))
