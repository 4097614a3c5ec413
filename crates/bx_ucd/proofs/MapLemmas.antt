-- Lemmas on maps in which a later entry replaces an earlier one.
use Rattle.std.proofs.Common.{◌≡◌, ◌<◌, ◌+◌, ℕ, Bool, true, false, cond, List, length, get_or, drop, Option, Some, None, refl, ap, ◌∙◌, sym, suc, ltb, arith}
use Rattle.std.proofs.Common.{Less, Equal, Greater}
use Rattle.std.specs.Prelude.{option_map, if◌then◌else◌, ◌==◌}
use Rattle.std.specs.Option.{option_or}
use Rattle.std.specs.Ordering.{nat_cmp, is_eq}
use Rattle.std.proofs.lemmas.List.{at_drop_more}
use Rattle.std.proofs.lemmas.Bool.{lt-leb, eqb-true}
use Rattle.bx_ucd.specs.Answers.{find_last}
use Rattle.bx_ucd.proofs.AnswerLemmas.{find_last-cons}

tie_is : (less same : Bool) → (same ≡ true → less ≡ false) → is_eq (cond less Less (cond same Equal Greater)) ≡ same
tie_is true true exclusive = cc (exclusive refl)
tie_is true false exclusive = refl
tie_is false true exclusive = refl
tie_is false false exclusive = refl

-- the order's tie is equality
pub is_eq-nat_cmp : (a b : ℕ) → is_eq (nat_cmp a b) ≡ (a == b)
is_eq-nat_cmp a b = tie_is (ltb a b) (a == b) (λ same. let e : a ≡ b = eqb-true a b same in lt-leb (suc a) b (omega arith))

-- an inserted value replaces the key's earlier one
put_over : {E V : Type 0} (value : E → V) (later : Option E) (same : Bool) (e : E) (old : Option V)
    → option_or (option_map value (option_or later (if same then Some e else None))) old ≡ option_or (option_map value later) (cond same (Some (value e)) old)
put_over value (Some l) same e old = refl
put_over value None true e old = refl
put_over value None false e old = refl

-- one more entry replaces what it passes the test for
pub put_more_if : {E V : Type 0} (test : E → Bool) (value : E → V) (es : List E) (i : ℕ) (d : E) (old new : Option V) → i < length es
    → new ≡ cond (test (get_or es i d)) (Some (value (get_or es i d))) old
    → option_or (option_map value (find_last test (drop i es))) old ≡ option_or (option_map value (find_last test (drop (i + 1) es))) new
put_more_if test value es i d old new lt put =
    at_drop_more (λ xs. option_or (option_map value (find_last test xs)) old) es i d lt
    ∙ ap (λ o. option_or (option_map value o) old) (find_last-cons test (get_or es i d) (drop (i + 1) es))
    ∙ put_over value (find_last test (drop (i + 1) es)) (test (get_or es i d)) (get_or es i d) old
    ∙ ap (option_or (option_map value (find_last test (drop (i + 1) es)))) (sym put)

-- one more entry is inserted
pub put_more : {E V : Type 0} (key : E → ℕ) (value : E → V) (es : List E) (i : ℕ) (d : E) (code : ℕ) (old new : Option V) → i < length es
    → new ≡ cond (is_eq (nat_cmp (key (get_or es i d)) code)) (Some (value (get_or es i d))) old
    → option_or (option_map value (find_last (λ e. key e == code) (drop i es))) old
    ≡ option_or (option_map value (find_last (λ e. key e == code) (drop (i + 1) es))) new
put_more key value es i d code old new lt put =
    put_more_if (λ e. key e == code) value es i d old new lt
    (put ∙ ap (λ b. cond b (Some (value (get_or es i d))) old) (is_eq-nat_cmp (key (get_or es i d)) code))
