use Rattle.std.proofs.Common.{◌≡◌, ℕ, zero, suc, ◌+◌, ◌-◌, ◌<◌, ◌≤◌, List, [], ◌∷◌, ◌++◌, length, take, refl, sym, ap, ◌∙◌, arith, append_assoc, append-nil}
use Rattle.std.proofs.lemmas.List.{length_push}
use Rattle.bx_rows.specs.declared.cells.unit.Unit.{Unit}
use Rattle.bx_rows.proofs.cells_lemmas.Rest.{none-behind}
use Rattle.bx_rows.proofs.cells.first_units.listed_from.Goals as goal
use Rattle.bx_rows.proofs.cells.first_units.listed_from.Goals.{then-loop-range-test+else-next-body, else-loop-range-test}

one_more : (count : ℕ) (done new all rest left : List Unit) (u : Unit) → length done < count → left ≡ u ∷ rest → new ≡ done ++ u ∷ []
    → done ++ take (count - length done) left ≡ all → new ++ take (count - length new) rest ≡ all
one_more count done new all rest left u less first pushed inv =
    let size : length new ≡ length done + 1 = ap length pushed ∙ length_push done u in
    let n = count - length new in
    let more : suc n ≡ count - length done = omega (arith, size, less) in
    ap (λ xs. xs ++ take n rest) pushed ∙ append_assoc done (u ∷ []) (take n rest)
    ∙ ap (λ m. done ++ take m (u ∷ rest)) more ∙ ap (λ xs. done ++ take (count - length done) xs) (sym first) ∙ inv

one_longer : (count : ℕ) (done new : List Unit) (u : Unit) → length done < count → new ≡ done ++ u ∷ [] → length new ≤ count
one_longer count done new u less pushed = omega (arith, less, ap length pushed, length_push done u)

take_none : (n : ℕ) → take {A = Unit} n [] ≡ []
take_none zero = refl
take_none (suc n) = refl

none_more : (count : ℕ) (done all left : List Unit) → count ≤ length done → done ++ take (count - length done) left ≡ all → done ≡ all
none_more count done all left full inv =
    let none : count - length done ≡ 0 = omega (arith, full) in
    sym (append-nil done) ∙ ap (λ m. done ++ take m left) (sym none) ∙ inv

none_left : (n : ℕ) (done all left : List Unit) → left ≡ [] → done ++ take n left ≡ all → done ≡ all
none_left n done all left e inv =
    sym (append-nil done) ∙ ap (λ xs. done ++ xs) (sym (take_none n)) ∙ ap (λ xs. done ++ take n xs) (sym e) ∙ inv

pub loop-range-preserved : goal.loop-range-preserved
loop-range-preserved g c =
    let test = c.loop-range-test.true in
    let read = c.len.ensures in
    let less : length c.loop-range.units.items < c.args.range.count = omega (arith, test, read) in
    let pushed = c.in_ok-push.ensures.items in
    record {
      boundary = c.unit_at-unit.ensures.stop.1;
      within = one_longer c.args.range.count c.loop-range.units.items c.push.new.self.items c.unit_at-unit.result less pushed;
      all = one_more c.args.range.count c.loop-range.units.items c.push.new.self.items _ _ _ c.unit_at-unit.result less c.unit_at-unit.ensures.units pushed
          c.loop-range.invariant.all;
    }

pub returns : goal.returns
returns g c = elim c.loop-range-test.branch [
  | then-loop-range-test+else-next-body w ↦ none_left (c.args.range.count - length c.loop-range.units.items) c.loop-range.units.items _ _
      (none-behind (g.D.BidiData.data c.args.tables.now) c.args.w c.args.body.now c.loop-range.next w.if-next-body.false) c.loop-range.invariant.all
  | else-loop-range-test w ↦ none_more c.args.range.count c.loop-range.units.items _ _ (let test = w.loop-range-test.false in let read = c.len.ensures in omega (arith, test, read))
      c.loop-range.invariant.all
]
