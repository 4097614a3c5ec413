use Rattle.std.proofs.Common.{◌≡◌, ◌+◌, [], ◌∷◌, false, ◌&&◌, cond, take, drop, None, refl, sym, ap, ◌∙◌}
use Rattle.std.specs.Str.Parse.{digits_value}
use Rattle.std.proofs.lemmas.List.{take_rest}
use Rattle.std.proofs.lemmas.Bool.{and_left, and_right}
use Rattle.bx_keys.specs.Keys.{is_side_in_digits, key_by_kind}
use Rattle.bx_keys.proofs.Sides.{none_without_semicolon, key_by_sides, side_read, side_refused}
use Rattle.bx_keys.proofs.meaning.key_after_kind.Goals as goal

pub returns-in_err-first-clause-value : goal.returns-in_err-first-clause-value
returns-in_err-first-clause-value c =
    c.from_residual.ensures ∙ sym (none_without_semicolon (c.args.kind ∷ []) c.args.sides.now (sym c.in_err-first.ensures))

pub returns-in_err-side-clause-value : goal.returns-in_err-side-clause-value
returns-in_err-side-clause-value c =
    let h = take c.in_ok-first.first c.args.sides.now in
    let w = drop (c.in_ok-first.first + 1) c.args.sides.now in
    let no : is_side_in_digits h ≡ false = side_refused (is_side_in_digits h) (digits_value 10 h) c.in_err-side.ensures.value in
    let none : is_side_in_digits h && is_side_in_digits w ≡ false = and_left (is_side_in_digits h) (is_side_in_digits w) no in
    c.from_residual-in_err-side.ensures
    ∙ sym (key_by_sides (c.args.kind ∷ []) c.args.sides.now c.in_ok-first.first (sym c.in_ok-first.ensures)
    ∙ ap (λ t. cond t (key_by_kind (c.args.kind ∷ []) (digits_value 10 h) (digits_value 10 w)) None) none)

pub returns-in_err-side-2-clause-value : goal.returns-in_err-side-2-clause-value
returns-in_err-side-2-clause-value c =
    let h = take c.in_ok-first.first c.args.sides.now in
    let w = drop (c.in_ok-first.first + 1) c.args.sides.now in
    let no : is_side_in_digits w ≡ false = side_refused (is_side_in_digits w) (digits_value 10 w)
    (rw (take_rest c.args.sides.now (c.in_ok-first.first + 1)) at c.in_err-side-2.ensures.value) in
    let none : is_side_in_digits h && is_side_in_digits w ≡ false = and_right (is_side_in_digits h) (is_side_in_digits w) no in
    c.from_residual-in_err-side-2.ensures
    ∙ sym (key_by_sides (c.args.kind ∷ []) c.args.sides.now c.in_ok-first.first (sym c.in_ok-first.ensures)
    ∙ ap (λ t. cond t (key_by_kind (c.args.kind ∷ []) (digits_value 10 h) (digits_value 10 w)) None) none)

pub returns-clause-value : goal.returns-clause-value
returns-clause-value c =
    let h = take c.in_ok-first.first c.args.sides.now in
    let w = drop (c.in_ok-first.first + 1) c.args.sides.now in
    let first = side_read (is_side_in_digits h) (digits_value 10 h) c.in_ok-side.field-0 c.in_ok-side.ensures.value in
    let second = side_read (is_side_in_digits w) (digits_value 10 w) c.in_ok-side-2.field-0
    (rw (take_rest c.args.sides.now (c.in_ok-first.first + 1)) at c.in_ok-side-2.ensures.value) in
    c.key_by_kind.ensures.value
    ∙ sym (key_by_sides (c.args.kind ∷ []) c.args.sides.now c.in_ok-first.first (sym c.in_ok-first.ensures) ∙ rw (first.0, second.0, first.1, second.1) refl)
