-- Runs of printable ASCII, a unit of one column a byte.
use Rattle.std.proofs.Common.{◌≡◌, ℕ, zero, suc, ◌+◌, ◌-◌, ◌<◌, ◌≤◌, Bool, true, false, List, length, drop, get_or}
use Rattle.std.proofs.Common.{refl, sym, ap, subst, ◌∙◌, arith, length-drop}
use Rattle.bx_ucd.specs.Data.{Data}
use Rattle.bx_common.specs.Characters.{is_ascii_printable}
use Rattle.std.specs.Str.{IsCharBoundary, IsUtf8}
use Rattle.bx_rows.proofs.cells_lemmas.Printable.{begins_ascii, left_at}
use Rattle.bx_rows.specs.declared.narrow_run.NarrowRun.{NarrowRun}
use Rattle.bx_rows.specs.NarrowRuns.{grown}
use Rattle.bx_rows.specs.Wrapping.{is_blank}
use Rattle.bx_rows.proofs.NarrowSteps.{IsLonger, open-narrow, longer-next, grown-stop, run-none, run-in-none, grown-count}

abbrev run : ℕ → ℕ → ℕ → ℕ → NarrowRun
run stop count last next = record { stop = stop; count = count; last = last; next = next }

same_run : (a b c d e f g h : ℕ) → a ≡ e → b ≡ f → c ≡ g → d ≡ h → run a b c d ≡ run e f g h
same_run a b c d e f g h i j k l =
    ap (λ x. run x b c d) i ∙ ap (λ x. run e x c d) j ∙ ap (λ x. run e f x d) k ∙ ap (λ x. run e f g x) l

module _ (ucd : Data) (body : List ℕ) (at : ℕ) (u : IsUtf8 body) (boundary : IsCharBoundary body at) where
  -- one more byte, before another one
  one_more : (r : NarrowRun) (b : Bool) → IsLonger ucd body at r → r.stop + 1 < length body → is_ascii_printable (get_or body r.stop 0) ≡ true
      → is_ascii_printable (get_or body (r.stop + 1) 0) ≡ true → b ≡ is_blank (ucd.class (get_or body r.stop 0))
      → IsLonger ucd body at (grown r (r.stop + 1) b)
  one_more r b h less here next blank =
      let within : r.stop < length body = omega (arith, less) in
      let rest = drop (r.stop + 1) body in
      let size : (r.stop + 1) + length rest ≡ length body = omega (arith, less, length-drop (r.stop + 1) body) in
      longer-next ucd body at r (grown r (r.stop + 1) b) b rest (drop ((r.stop + 1) + 1) body) (r.stop + 1) (get_or body (r.stop + 1) 0) u h.bounds h.units
      (open-narrow ucd body r.stop (get_or body r.stop 0) b rest (left_at body r.stop within here) (begins_ascii (get_or body r.stop 0) here) blank)
      size (left_at body (r.stop + 1) less next) (begins_ascii (get_or body (r.stop + 1) 0) next).0 refl

  -- bytes after which no row may end
  no_break : (d : ℕ) (r : NarrowRun) → IsLonger ucd body at r → r.stop + d < length body
      → ((i : ℕ) → r.stop ≤ i → i ≤ r.stop + d → is_ascii_printable (get_or body i 0) ≡ true)
      → ((i : ℕ) → r.stop ≤ i → i < r.stop + d → is_blank (ucd.class (get_or body i 0)) ≡ false)
      → IsLonger ucd body at (run (r.stop + d) (r.count + d) r.last r.next)
  no_break zero r h less printable none =
      subst (IsLonger ucd body at) (same_run r.stop r.count r.last r.next (r.stop + 0) (r.count + 0) r.last r.next (omega arith) (omega arith) refl refl) h
  no_break (suc d) r h less printable none =
      let more = one_more r false h (omega (arith, less)) (printable r.stop (omega arith) (omega arith)) (printable (r.stop + 1) (omega arith) (omega arith))
      (sym (none r.stop (omega arith) (omega arith))) in
      subst (IsLonger ucd body at)
      (same_run ((r.stop + 1) + d) ((r.count + 1) + d) r.last r.next (r.stop + suc d) (r.count + suc d) r.last r.next (omega arith) (omega arith) refl refl)
      (no_break d (grown r (r.stop + 1) false) more (omega (arith, less)) (λ i from to. printable i (omega (arith, from)) (omega (arith, to)))
      (λ i from to. none i (omega (arith, from)) (omega (arith, to))))

  -- the run of the first `k` bytes
  record Reached (k : ℕ) : Type 0 where
    reached : NarrowRun
    is : IsLonger ucd body at reached
    stop_is : reached.stop ≡ at + k
    count_is : reached.count ≡ k

  reach : (k : ℕ) → at + k < length body → ((i : ℕ) → at ≤ i → i ≤ at + k → is_ascii_printable (get_or body i 0) ≡ true) → Reached k
  reach zero less printable = record {
    reached = run at 0 0 at;
    is = record { bounds = run-in-none body at boundary; units = λ w. run-none ucd w body at };
    stop_is = omega arith;
    count_is = refl;
  }
  reach (suc k) less printable =
      let p = reach k (omega (arith, less)) (λ i from to. printable i from (omega (arith, to))) in
      let r = p.reached in
      let at_k = p.stop_is in
      let b = is_blank (ucd.class (get_or body r.stop 0)) in
      record {
        reached = grown r (r.stop + 1) b;
        is = one_more r b p.is (omega (arith, less, at_k)) (printable r.stop (omega (arith, at_k)) (omega (arith, at_k)))
            (printable (r.stop + 1) (omega (arith, at_k)) (omega (arith, at_k))) refl;
        stop_is = grown-stop r (grown r (r.stop + 1) b) (r.stop + 1) b refl ∙ omega (arith, at_k);
        count_is = grown-count r (r.stop + 1) b ∙ ap (λ n. n + 1) p.count_is ∙ omega arith;
      }

  by_break : (m stop next : ℕ) → m ≡ next - at → at ≤ next → next ≤ stop → stop < length body
      → ((i : ℕ) → at ≤ i → i ≤ stop → is_ascii_printable (get_or body i 0) ≡ true)
      → ((i : ℕ) → at ≤ i → i + 1 ≡ next → is_blank (ucd.class (get_or body i 0)) ≡ true)
      → ((i : ℕ) → next ≤ i → i < stop → is_blank (ucd.class (get_or body i 0)) ≡ false)
      → IsLonger ucd body at (run stop (stop - at) (next - at) next)
  by_break zero stop next e from to less printable last none =
      let first : next ≡ at = omega (arith, e, from) in
      let r = run at 0 0 at in
      subst (IsLonger ucd body at) {x = run (at + (stop - at)) (0 + (stop - at)) 0 at}
      (same_run (at + (stop - at)) (0 + (stop - at)) 0 at stop (stop - at) (next - at) next (omega (arith, first, to)) (omega arith) (omega (arith, e))
      (sym first))
      (no_break (stop - at) r (record { bounds = run-in-none body at boundary; units = λ w. run-none ucd w body at }) (omega (arith, first, to, less))
      (λ i f t. printable i f (omega (arith, t, first, to))) (λ i f t. none i (omega (arith, f, first)) (omega (arith, t, first, to))))
  by_break (suc m) stop next e from to less printable last none =
      let p = reach m (omega (arith, e, from, to, less)) (λ i f t. printable i f (omega (arith, t, e, from, to))) in
      let r = p.reached in
      let at_m = p.stop_is in
      let count = p.count_is in
      let here : r.stop + 1 ≡ next = omega (arith, at_m, e, from) in
      let blank = last r.stop (omega (arith, at_m)) here in
      let more = one_more r true p.is (omega (arith, here, to, less)) (printable r.stop (omega (arith, at_m)) (omega (arith, here, to)))
      (printable (r.stop + 1) (omega (arith, at_m)) (omega (arith, here, to))) (sym blank) in
      let d = stop - next in
      subst (IsLonger ucd body at)
      (same_run ((r.stop + 1) + d) ((r.count + 1) + d) (r.count + 1) (r.stop + 1) stop (stop - at) (next - at) next (omega (arith, here, to))
      (omega (arith, count, e, from, to)) (omega (arith, count, e)) here)
      (no_break d (grown r (r.stop + 1) true) more (omega (arith, here, to, less))
      (λ i f t. printable i (omega (arith, f, at_m)) (omega (arith, t, here, to)))
      (λ i f t. none i (omega (arith, f, here)) (omega (arith, t, here, to))))

  pub ascii-longer : (stop next : ℕ) → at ≤ next → next ≤ stop → stop < length body
      → ((i : ℕ) → at ≤ i → i ≤ stop → is_ascii_printable (get_or body i 0) ≡ true)
      → ((i : ℕ) → at ≤ i → i + 1 ≡ next → is_blank (ucd.class (get_or body i 0)) ≡ true)
      → ((i : ℕ) → next ≤ i → i < stop → is_blank (ucd.class (get_or body i 0)) ≡ false)
      → IsLonger ucd body at (run stop (stop - at) (next - at) next)
  ascii-longer stop next = by_break (next - at) stop next refl
