-- One change in place of two leads from the first text to the last.
use Rattle.std.proofs.Common.{◌≡◌, ℕ, ◌+◌, ◌-◌, ◌<◌, ◌≤◌, List, length, take, drop, get_or, ap, sym, subst, ◌∙◌, arith, inl, inr}
use Rattle.std.proofs.lemmas.Bool.{cases_lt}
use Rattle.std.proofs.lemmas.List.{drop-drop, get_or-drop, get_or-take, take-take}
use Rattle.std.specs.Str.{IsCharBoundary}
use Rattle.bx_text.specs.declared.change.Change.{Change}
use Rattle.bx_text.specs.Edits.{both_start, both_stop, merged}
use Rattle.bx_text.specs.Changes.{IsChange}

-- ---- boundaries outside a change

same_bounds : (xs ys : List ℕ) (j k : ℕ) → j ≤ length xs → (j < length xs → k < length ys) → get_or xs j 0 ≡ get_or ys k 0
    → IsCharBoundary ys k → IsCharBoundary xs j
same_bounds xs ys j k short inside e b = (short, λ inner high. omega (arith, e, inside inner, b.1))

module _ (old : List ℕ) (c : Change) (new : List ℕ) (h : IsChange old c new) where
  byte_before : (k : ℕ) → k < c.start → get_or new k 0 ≡ get_or old k 0
  byte_before k low =
      sym (get_or-take c.start new k 0 low) ∙ ap (λ xs. get_or xs k 0) h.same_before ∙ get_or-take c.start old k 0 low

  byte_after : (d : ℕ) → get_or new (c.start + c.added + d) 0 ≡ get_or old (c.start + c.removed + d) 0
  byte_after d =
      sym (get_or-drop (c.start + c.added) new d 0) ∙ ap (λ xs. get_or xs d 0) h.same_after ∙ get_or-drop (c.start + c.removed) old d 0

  pub old_bounds_before : (k : ℕ) → k ≤ c.start → IsCharBoundary new k → IsCharBoundary old k
  old_bounds_before k low b = elim (cases_lt k c.start) [
    | inl less ↦ same_bounds old new k k (omega (arith, h.old_range.stop_bounds.0)) (λ inner. omega (arith, h.new_range.stop_bounds.0))
        (sym (byte_before k less)) b
    | inr most ↦ (let e : c.start ≡ k = omega arith in subst (IsCharBoundary old) e h.old_range.start_bounds)
  ]

  pub new_bounds_before : (k : ℕ) → k ≤ c.start → IsCharBoundary old k → IsCharBoundary new k
  new_bounds_before k low b = elim (cases_lt k c.start) [
    | inl less ↦ same_bounds new old k k (omega (arith, h.new_range.stop_bounds.0)) (λ inner. omega (arith, h.old_range.stop_bounds.0))
        (byte_before k less) b
    | inr most ↦ (let e : c.start ≡ k = omega arith in subst (IsCharBoundary new) e h.new_range.start_bounds)
  ]

  pub old_bounds_after : (d : ℕ) → IsCharBoundary new (c.start + c.added + d) → IsCharBoundary old (c.start + c.removed + d)
  old_bounds_after d b =
      same_bounds old new (c.start + c.removed + d) (c.start + c.added + d) (omega (arith, h.grown, b.0)) (λ inner. omega (arith, h.grown))
      (sym (byte_after d)) b

  pub new_bounds_after : (d : ℕ) → IsCharBoundary old (c.start + c.removed + d) → IsCharBoundary new (c.start + c.added + d)
  new_bounds_after d b =
      same_bounds new old (c.start + c.added + d) (c.start + c.removed + d) (omega (arith, h.grown, b.0)) (λ inner. omega (arith, h.grown))
      (byte_after d) b

  same_take : (k : ℕ) → k ≤ c.start → take k new ≡ take k old
  same_take k low = sym (take-take k c.start new low) ∙ ap (take k) h.same_before ∙ take-take k c.start old low

  same_drop : (d : ℕ) → drop (c.start + c.added + d) new ≡ drop (c.start + c.removed + d) old
  same_drop d = sym (drop-drop d (c.start + c.added) new) ∙ ap (drop d) h.same_after ∙ drop-drop d (c.start + c.removed) old

-- ---- two changes

module _ (old mid new : List ℕ) (a b : Change) (first : IsChange old a mid) (next : IsChange mid b new) where
  -- the bytes of the text between that lie after a change and not after both
  abbrev past_first : ℕ
  past_first = both_stop a b - (a.start + a.added)

  abbrev past_next : ℕ
  past_next = both_stop a b - (b.start + b.removed)

  stop_mid : IsCharBoundary mid (both_stop a b)
  stop_mid = elim (cases_lt (a.start + a.added) (b.start + b.removed)) [
    | inl less ↦ (let e : b.start + b.removed ≡ both_stop a b = omega arith in subst (IsCharBoundary mid) e next.old_range.stop_bounds)
    | inr most ↦ (let e : a.start + a.added ≡ both_stop a b = omega arith in subst (IsCharBoundary mid) e first.new_range.stop_bounds)
  ]

  start_mid : IsCharBoundary mid (both_start a b)
  start_mid = elim (cases_lt a.start b.start) [
    | inl less ↦ (let e : a.start ≡ both_start a b = omega arith in subst (IsCharBoundary mid) e first.new_range.start_bounds)
    | inr most ↦ (let e : b.start ≡ both_start a b = omega arith in subst (IsCharBoundary mid) e next.old_range.start_bounds)
  ]

  from_first : a.start + a.added + past_first ≡ both_stop a b
  from_first = omega arith

  from_next : b.start + b.removed + past_next ≡ both_stop a b
  from_next = omega arith

  old_stop : a.start + a.removed + past_first ≡ both_start a b + (merged a b).removed
  old_stop = omega arith

  new_stop : b.start + b.added + past_next ≡ both_start a b + (merged a b).added
  new_stop = omega arith

  pub merged_leads : IsChange old (merged a b) new
  merged_leads = record {
    old_range = record {
      start_bounds = old_bounds_before old a mid first (both_start a b) (omega arith) start_mid;
      stop_bounds = subst (IsCharBoundary old) old_stop
          (old_bounds_after old a mid first past_first (subst (IsCharBoundary mid) (sym from_first) stop_mid));
      in_order = omega arith;
    };
    new_range = record {
      start_bounds = new_bounds_before mid b new next (both_start a b) (omega arith) start_mid;
      stop_bounds = subst (IsCharBoundary new) new_stop
          (new_bounds_after mid b new next past_next (subst (IsCharBoundary mid) (sym from_next) stop_mid));
      in_order = omega arith;
    };
    same_before = same_take mid b new next (both_start a b) (omega arith) ∙ same_take old a mid first (both_start a b) (omega arith);
    same_after =
        ap (λ n. drop n new) (sym new_stop) ∙ same_drop mid b new next past_next ∙ ap (λ n. drop n mid) (from_next ∙ sym from_first)
        ∙ same_drop old a mid first past_first ∙ ap (λ n. drop n old) old_stop;
    grown = omega (arith, first.grown, next.grown);
  }
