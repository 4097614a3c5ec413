use Rattle.std.proofs.Common.{◌≡◌, ℕ, ◌-◌, ◌∙◌, sym, ap, true, length, take, drop, chars, List, [], arith}
use Rattle.std.proofs.lemmas.List.{drop_min, take_min, take_rest}
use Rattle.unicode_segmentation.specs.Grapheme.{graphemes}
use Rattle.bx_rows.specs.RowLevels.{first_level}
use Rattle.bx_document.proofs.UnitLevels.{left, level_first, unit-at}
use Rattle.bx_document.proofs.place_level.unit_level.Goals as goal

pub returns-in_default : goal.returns-in_default
returns-in_default c =
    let body = c.args.body.now in
    let ls = left body c.utf8.body c.args.each.now c.args.at in
    let clusters = c.graphemes.ensures.left ∙ ap (graphemes true) c.range_from.ensures.value in
    let none : graphemes true (drop c.args.at body) ≡ [] = sym clusters ∙ c.in_default.ensures.steps.0 in
    sym (unit-at body c.utf8.body c.args.each.now c.args.at c.requires.place
    ∙ ap (λ gs. level_first body c.utf8.body c.args.each.now gs ls) none)

pub returns : goal.returns
returns c =
    let body = c.args.body.now in
    let each = c.args.each.now in
    let k = c.char_count-ahead.result in
    let n = c.char_count.result in
    let ls = left body c.utf8.body each c.args.at in
    let clusters = c.graphemes.ensures.left ∙ ap (graphemes true) c.range_from.ensures.value in
    let first = sym clusters ∙ c.in-Some.ensures.steps in
    let cut : take (length each - c.min.result) (drop c.min.result each) ≡ drop k each =
    take_rest each c.min.result ∙ ap (λ i. drop i each) c.min.ensures ∙ drop_min k each in
    let ahead : drop k each ≡ ls =
    let whole : c.args.at - 0 ≡ c.args.at = omega arith in
    ap (λ i. drop i each) (c.char_count-ahead.ensures ∙ ap (λ (x : List ℕ). length (chars x)) c.range.ensures.value
    ∙ ap (λ i. length (chars (take i body))) whole) in
    let taken : take c.min-2.result (take (length each - c.min.result) (drop c.min.result each)) ≡ take n ls =
    ap (λ i. take i (take (length each - c.min.result) (drop c.min.result each))) c.min-2.ensures
    ∙ take_min n (take (length each - c.min.result) (drop c.min.result each)) ∙ ap (take n) (cut ∙ ahead) in
    c.first_level.ensures ∙ ap first_level (taken ∙ ap (λ i. take i ls) c.char_count.ensures)
    ∙ sym (unit-at body c.utf8.body each c.args.at c.requires.place ∙ ap (λ gs. level_first body c.utf8.body each gs ls) first)
