use Rattle.std.proofs.Common.{◌≡◌, ◌+◌, ◌<◌, ◌⊎◌, true, length, take, chars, sum_by, sym, subst, ap, arith, take_all, inl, inr, ⊎_elim, refl, IfSome}
use Rattle.std.proofs.lemmas.Iterator.{YieldsList-from_chars}
use Rattle.std.proofs.lemmas.Iterator.Consumers.{YieldsList-turn, YieldsList-end}
use Rattle.std.proofs.lemmas.List.{length_push}
use Rattle.bx_rows.specs.cells.Simple.{begins, is_simple, is_simple_text, simple_columns}
use Rattle.bx_rows.proofs.cells_lemmas.SimplePush.{simple-more, columns-more, some-taken}
use Rattle.bx_rows.proofs.cells.fitting.is_simple_within.Goals as goal

pub loop-c-init : goal.loop-c-init
loop-c-init c = record { simple = refl; columns = omega arith }

pub loop-c-preserved : goal.loop-c-preserved
loop-c-preserved c =
    let cs = chars c.args.body.now in
    let k = length c.loop-c.yielded in
    let t = YieldsList-turn (YieldsList-from_chars c.args.body.now c.utf8.body cc) c.loop-c.yielded _ c.loop-c.yielded_by _ _ c.in-Some.c c.in-Some.is
    c.next.ensures.steps in
    let n = length_push c.loop-c.yielded c.in-Some.c in
    let is = c.in-Some-left_after.is in
    let simple : is_simple c.in-Some.c ≡ true = subst (λ o. IfSome o (λ rest. is_simple c.in-Some.c ≡ true)) is c.left_after.ensures.simple in
    let columns : simple_columns c.in-Some.c + c.in-Some-left_after.rest ≡ c.loop-c.left =
    subst (λ o. IfSome o (λ rest. simple_columns c.in-Some.c + rest ≡ c.loop-c.left)) is c.left_after.ensures.columns in
    let starts : (begins c.in-Some.c ≡ true) ⊎ (c.loop-c.left < c.args.w) =
    subst (λ o. IfSome o (λ rest. (begins c.in-Some.c ≡ true) ⊎ (c.loop-c.left < c.args.w))) is c.left_after.ensures.starts in
    let begun : (begins c.in-Some.c ≡ true) ⊎ (0 < k) = ⊎_elim inl (λ less. inr (some-taken cs k (omega (arith, less, c.loop-c.invariant.columns)))) starts in
    record {
      simple = subst (λ m. is_simple_text (take m cs) ≡ true) (sym n) (simple-more cs k c.in-Some.c t c.loop-c.invariant.simple simple begun);
      columns = omega (arith, ap (λ m. sum_by simple_columns (take m cs)) n, columns-more cs k c.in-Some.c t, columns, c.loop-c.invariant.columns);
    }

pub returns : goal.returns
returns c =
    let cs = chars c.args.body.now in
    let t = YieldsList-end (YieldsList-from_chars c.args.body.now c.utf8.body cc) c.loop-c.yielded _ c.loop-c.yielded_by _ _ c.in-None.is
    c.next.ensures.steps in
    let all = take_all (length c.loop-c.yielded) cs (omega (arith, t.1)) in
    λ _. (subst (λ xs. is_simple_text xs ≡ true) all c.loop-c.invariant.simple, omega (arith, ap (sum_by simple_columns) all, c.loop-c.invariant.columns))
