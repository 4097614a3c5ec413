use Rattle.std.proofs.Common.{◌≡◌, ℕ, ◌+◌, ◌-◌, max, ◌<◌, ◌≤◌, Bool, List, [], ◌∷◌, ◌++◌, length, drop, take, sym, ap, ap₂, ◌∙◌, arith, append_assoc}
use Rattle.std.proofs.Common.{length-drop}
use Rattle.std.proofs.lemmas.List.{drop-drop, take_rest}
use Rattle.bx_rows.specs.declared.cells.unit.Unit.{Unit}
use Rattle.bx_rows.specs.declared.wrapping.Row.{Row}
use Rattle.bx_rows.specs.Wrapping.{is_break, row_len, rows_from}
use Rattle.bx_rows.proofs.Wraps.{rows_turn}
use Rattle.bx_rows_laws.proofs.library.all_rows.Goals as goal

-- one more row is done
row-more : (p : Unit → Bool) (w i n m : ℕ) (us : List Unit) (done new all : List Row) → i < length us → n ≡ row_len p w (drop i us) → m ≡ max n 1
    → new ≡ done ++ record { start = i; stop = i + n } ∷ [] → done ++ rows_from p w i 0 (drop i us) ≡ all
    → new ++ rows_from p w (i + m) 0 (drop (i + m) us) ≡ all
row-more p w i n m us done new all h len most pushed inv =
    let some : 0 < length (drop i us) = omega (arith, length-drop i us) in
    let turn = rows_turn p w i (drop i us) some in
    let rest : rows_from p w (i + m) 0 (drop (i + m) us)
    ≡ rows_from p w (i + max (row_len p w (drop i us)) 1) 0 (drop (max (row_len p w (drop i us)) 1) (drop i us)) =
    ap (λ k. rows_from p w (i + k) 0 (drop (i + k) us)) most ∙ ap (rows_from p w (i + max n 1) 0) (sym (drop-drop (max n 1) i us))
    ∙ ap (λ k. rows_from p w (i + max k 1) 0 (drop (max k 1) (drop i us))) len in
    let same : new ≡ done ++ record { start = i; stop = i + row_len p w (drop i us) } ∷ [] = pushed
    ∙ ap (λ k. done ++ record { start = i; stop = i + k } ∷ []) len in
    ap₂ (λ xs ys. xs ++ ys) same rest
    ∙ append_assoc done (record { start = i; stop = i + row_len p w (drop i us) } ∷ []) _
    ∙ ap (λ ys. done ++ ys) (sym turn) ∙ inv

pub loop-start-preserved : goal.loop-start-preserved
loop-start-preserved g c =
    let us = c.args.units.now in
    let i = c.loop-start.start in
    let p = is_break (g.D.BidiData.data c.args.tables.now) c.args.body.now in
    let n = c.row_len-len.result in
    let left : n ≤ length (take (length us - i) (drop i us)) = c.row_len-len.ensures.within in
    let len : n ≡ row_len p c.args.w (drop i us) = c.row_len-len.ensures.row ∙ ap (row_len p c.args.w) (take_rest us i) in
    record {
      within = omega (arith, left, ap length (take_rest us i), length-drop i us);
      all = row-more p c.args.w i n _ us c.loop-start.rows.items _ _ c.loop-start-test.true len c.max-start.ensures c.in_ok-push-2.ensures.items
          c.loop-start.invariant.all;
    }
