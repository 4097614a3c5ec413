use Rattle.std.proofs.Common.{Option, ℕ, List, ◌≡◌, ◌≢◌, ◌≤◌, ◌<◌, ◌∷◌, ◌∙◌, ap, sym, arith, length, length-drop, get_or, drop, ◌-◌}
use Rattle.bx_find.specs.Prefix.{offsets_of, matches_after}
use Rattle.bx_find.proofs.Fallen.{fallen}
use Rattle.bx_find.proofs.prefix.fall_back.Goals as goal

pub loop-prefix-preserved : goal.loop-prefix-preserved
loop-prefix-preserved c =
    let query : List ℕ = c.args.query.now in
    let prefix : List (Option ℕ) = c.loop-prefix.prefix in
    let k : ℕ = c.len-in-loop-prefix-2.result in
    let all : k ≡ length prefix = c.len-in-loop-prefix-2.ensures in
    let same : c.len-in-loop-prefix.result ≡ k = c.len-in-loop-prefix.ensures ∙ sym all in
    let some : 0 < k = omega (arith, c.len.ensures, all, c.loop-prefix-test.true) in
    let other : get_or query k 0 ≢ c.args.letter =
    λ e. c.if-letter.true (c.letter.ensures ∙ ap (λ i. get_or query i 0) same ∙ e) in
    let now : c.keep_newest.new.self ≡ drop (k - c.border.result) prefix = c.keep_newest.ensures ∙ ap (λ n. drop (n - c.border.result) prefix) (sym all) in
    let fewer : length c.keep_newest.new.self ≤ length prefix = omega (arith, ap length now, length-drop (k - c.border.result) prefix) in
    record {
      fewer = omega (arith, fewer, c.loop-prefix.invariant.fewer);
      found = λ at ps. c.loop-prefix.invariant.found at ps
          ∙ ap offsets_of (fallen query prefix at c.args.letter k c.border.result ps (sym all) some (omega (arith, all, c.loop-prefix.invariant.fewer)) other c.border.ensures)
          ∙ ap (λ (os : List (Option ℕ)). matches_after query os ((at, c.args.letter) ∷ ps)) (sym now);
    }
