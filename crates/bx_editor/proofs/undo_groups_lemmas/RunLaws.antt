-- The laws of groups.
use Rattle.std.proofs.Common.{◌≡◌, ℕ, zero, suc, ◌+◌, ◌<◌, ◌≤◌, ◌==◌, ◌&&◌, ◌⊎◌, true, false, nat_lt, List, [], ◌∷◌, ◌++◌, refl, ap, ◌∙◌, sym, arith, inl, inr, subst}
use Rattle.std.specs.Prelude.{if◌then◌else◌, Contains}
use Rattle.std.proofs.lemmas.Bool.Decides.{nat_tests, leb_tells}
use Rattle.std.proofs.lemmas.List.Elements.{Contains-append_left, Contains-push, Contains-push_cases}
use Rattle.std.proofs.lemmas.List.Folds.{list_any_at, Any-from_list_any}
use Rattle.bx_editor.specs.undo_groups.Groups.{below, edited, run_start, run_end}
use Rattle.bx_editor.specs.undo_groups.Laws.{begins_at, EndsAt, BeginsAt, UndoThenRedo, BeginWhereEditsBegin, EditIsOfItsRun, UndoEndsWithARun, RedoEndsWithARun}
use Rattle.bx_editor.proofs.undo_groups_lemmas.Steps.{start-bound, start-step, start-upper, end-bound, end-last, end-same, end-step, end-upper, end-lower, start-lower, start-of-below}

-- ---- membership

is-there : (numbers : List ℕ) (r : ℕ) → Contains numbers r → begins_at numbers r ≡ true
is-there numbers r in-it = list_any_at (λ s. s == r) numbers in-it.0 r in-it.1 (grind (arith, nat_tests, in-it.2))

there-is : (numbers : List ℕ) (r : ℕ) → begins_at numbers r ≡ true → Contains numbers r
there-is numbers r there =
    let any = Any-from_list_any (λ s. s == r) numbers there in
    let same : any.1 ≡ r = grind (arith, nat_tests, any.4) in
    subst (λ s. Contains numbers s) same (any.0, any.2, any.3)

in-below : (numbers : List ℕ) (n r : ℕ) → begins_at (below n numbers) r ≡ (begins_at numbers r && nat_lt r n)
in-below [] n r = refl
in-below (s ∷ ss) n r = grind (arith, nat_tests, in-below ss n r)

below-has : (numbers : List ℕ) (n r : ℕ) → Contains (below n numbers) r → Contains numbers r × (r < n)
below-has numbers n r there =
    let both = sym (in-below numbers n r) ∙ is-there (below n numbers) r there in
    (there-is numbers r (grind (arith, nat_tests, both)), grind (arith, nat_tests, both))

has-below : (numbers : List ℕ) (n r : ℕ) → Contains numbers r → r < n → Contains (below n numbers) r
has-below numbers n r there before = there-is (below n numbers) r (in-below numbers n r ∙ grind (arith, nat_tests, is-there numbers r there))

-- ---- one edit

pub edit-is-of-its-run : EditIsOfItsRun
edit-is-of-its-run numbers n true = start-of-below numbers n
edit-is-of-its-run numbers n false =
    let more = edited numbers n false in
    let there = is-there more n (Contains-push (below n numbers) n) in
    start-step more n ∙ ap (λ b. if b then n else run_start more n) there

pub begin-where-edits-begin : BeginWhereEditsBegin
begin-where-edits-begin numbers n true r = (
  λ there. inl (below-has numbers n r there),
  λ either. elim either as (λ _. Contains (below n numbers) r) [
    | inl h ↦ has-below numbers n r h.0 h.1
    | inr h ↦ let never = h.0 in absurd (cc)
  ],
)
begin-where-edits-begin numbers n false r = (
  λ there. elim (Contains-push_cases (below n numbers) n r there) as (λ _. (Contains numbers r × (r < n)) ⊎ ((false ≡ false) × (r ≡ n))) [
    | inl h ↦ inl (below-has numbers n r h)
    | inr h ↦ inr (refl, sym h)
  ],
  λ either. elim either as (λ _. Contains (below n numbers ++ n ∷ []) r) [
    | inl h ↦ Contains-append_left (below n numbers) (n ∷ []) r (has-below numbers n r h.0 h.1)
    | inr h ↦ subst (λ m. Contains (below n numbers ++ n ∷ []) m) (sym h.1) (Contains-push (below n numbers) n)
  ],
)

-- ---- edit by edit

pub undo-ends : UndoEndsWithARun
undo-ends numbers zero = grind (arith, start-bound numbers 0)
undo-ends numbers (suc n) =
    let next : suc n ≡ n + 1 = omega arith in
    ap (run_start numbers) next ∙ start-step numbers n ∙ ap (λ m. if begins_at numbers n then n else m) (undo-ends numbers n)

pub redo-ends : RedoEndsWithARun
redo-ends numbers n zero = let none : n + 0 ≡ n = omega arith in ap (run_end numbers n) none ∙ end-same numbers n
redo-ends numbers n (suc left) =
    let more : n + suc left ≡ n + 1 + left = omega arith in
    end-step numbers n (n + suc left) (omega arith)
    ∙ ap (λ m. if begins_at numbers (n + 1) then n + 1 else m) (ap (run_end numbers (n + 1)) more ∙ redo-ends numbers (n + 1) left)

-- ---- there and back

again : (numbers : List ℕ) (last n : ℕ) → EndsAt numbers last n → run_end numbers (run_start numbers n) last ≡ n
again numbers last n h =
    let s = run_start numbers n in
    let before : s < n = omega (arith, start-bound numbers n, h.0) in
    let lower = end-lower numbers s n last (λ r there past. elim (leb_tells n r) as (λ _. n ≤ r) [
      | inl later ↦ later.1
      | inr sooner ↦ absurd (omega (arith, start-upper numbers n r there sooner.1, past))
    ]) h.1 in
    let upper : run_end numbers s last ≤ n = elim h.2 as (λ _. run_end numbers s last ≤ n) [
      | inl next ↦ end-upper numbers s last n (is-there numbers n next) before
      | inr all ↦ omega (arith, end-last numbers s last, all)
    ] in
    omega (arith, lower, upper)

back : (numbers : List ℕ) (last n : ℕ) → BeginsAt numbers last n → run_start numbers (run_end numbers n last) ≡ n
back numbers last n h =
    let e = run_end numbers n last in
    let behind : n < e = end-bound numbers n last h.0 in
    let upper = start-lower numbers e n (λ r there before. elim (leb_tells r n) as (λ _. r ≤ n) [
      | inl sooner ↦ sooner.1
      | inr past ↦ absurd (omega (arith, end-upper numbers n last r there past.1, before))
    ]) in
    let lower : n ≤ run_start numbers e = elim h.1 as (λ _. n ≤ run_start numbers e) [
      | inl begins ↦ start-upper numbers e n (is-there numbers n begins) behind
      | inr none ↦ omega (arith, none)
    ] in
    omega (arith, lower, upper)

pub undo-then-redo : UndoThenRedo
undo-then-redo = record { redone = again; undone = back }
