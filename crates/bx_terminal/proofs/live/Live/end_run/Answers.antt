use Rattle.std.proofs.Common.{◌≡◌, ◌<◌, ℕ, List, [], ◌∷◌, Some, None, false, nat_eq, length, refl, ap, sym, ◌∙◌, arith}
use Rattle.std.proofs.lemmas.Bool.Decides.{nat_tests}
use Rattle.std.proofs.lemmas.Result.{on_ok_weaker}
use Rattle.bx_grid.specs.Terminal.{Terminal, all_unknown, run_ended, run_put}
use Rattle.bx_terminal.specs.Live.{terminal_of}
use Rattle.bx_terminal.proofs.RunEnds.{ends_put, ends_nowhere}
use Rattle.bx_terminal.proofs.live.Live.end_run.Goals as goal

some : (u t : Terminal) (bytes : List ℕ) → u ≡ t → bytes ≡ u.run → false ≡ nat_eq (length bytes) 0 → 0 < length t.run
some u t bytes e is h =
    let len : length bytes ≡ length t.run = ap length (is ∙ ap (λ (x : Terminal). x.run) e) in
    let test : nat_eq (length bytes) 0 ≡ false = sym h in
    let not : 0 < length bytes = grind (arith, nat_tests) in
    omega (arith, len, not)

put_unrendered : (t : Terminal) (p : ℕ × ℕ) (run : List ℕ) → 0 < length run → run_put t (Some p) None run ≡ all_unknown t
put_unrendered t p [] h = absurd (omega arith)
put_unrendered t p (b ∷ bs) h = refl

ends_unrendered : (t : Terminal) (p : ℕ × ℕ) → t.position ≡ Some p → t.negative ≡ None → 0 < length t.run → run_ended t ≡ all_unknown t
ends_unrendered t p ep en some =
    ap (λ q. run_put t q t.negative t.run) ep ∙ ap (λ n. run_put t (Some p) n t.run) en ∙ put_unrendered t p t.run some

pub returns-in-None : goal.returns-in-None
returns-in-None c =
    let t = c.args.self.now in
    c.forget.ensures ∙ sym (ends_nowhere t (sym (ap (λ (x : Terminal). x.position) c.self.view_is) ∙ c.in-None.is)
    (some (terminal_of c.self.inside) t c.as_bytes.result.now c.self.view_is c.as_bytes.ensures.value c.if-is_empty.ensures))

pub returns-in-Some-negative : goal.returns-in-Some-negative
returns-in-Some-negative c =
    let t = c.args.self.now in
    on_ok_weaker c.put_run.result
    (λ e. e ∙ sym (ends_put t (c.in-Some.row, c.in-Some.column) c.in-Some-negative.negative
    (sym (ap (λ (x : Terminal). x.position) c.self.view_is) ∙ c.in-Some.is)
    (sym (ap (λ (x : Terminal). x.negative) c.self.view_is) ∙ c.in-Some-negative.is)
    (some (terminal_of c.self.inside) t c.as_bytes.result.now c.self.view_is c.as_bytes.ensures.value c.if-is_empty.ensures)))
    c.put_run.ensures

pub returns-in-None-negative : goal.returns-in-None-negative
returns-in-None-negative c =
    let t = c.args.self.now in
    c.forget-in-None-negative.ensures
    ∙ sym (ends_unrendered t (c.in-Some.row, c.in-Some.column)
    (sym (ap (λ (x : Terminal). x.position) c.self.view_is) ∙ c.in-Some.is)
    (sym (ap (λ (x : Terminal). x.negative) c.self.view_is) ∙ c.in-None-negative.is)
    (some (terminal_of c.self.inside) t c.as_bytes.result.now c.self.view_is c.as_bytes.ensures.value c.if-is_empty.ensures))
