-- The first kept character, and the first run, that is not above a level.
use Rattle.std.proofs.Common.{◌≡◌, ◌<◌, ◌≤◌, ◌+◌, ◌∙◌, ℕ, List, [], ◌∷◌, ◌++◌, refl, ap, sym, arith, Bool, true, false, Option, Some, None}
use Rattle.std.specs.Prelude.{All, ◌==◌, ◌&&◌, nat_lt}
use Rattle.std.proofs.lemmas.Bool.Decides.{nat_tests}
use Rattle.std.proofs.lemmas.List.Elements.{All-head, All-tail}
use Rattle.bx_levels.specs.declared.embedding.entry.ExplicitChar.{ExplicitChar}
use Rattle.bx_levels.specs.declared.embedding.runs.Run.{Run}
use Rattle.bx_levels.specs.embedding.ParagraphLevel.{one_more}
use Rattle.bx_levels.specs.embedding.Sequences.{run, join_run, runs_from}
use Rattle.bx_levels.proofs.embedding_lemmas.LevelRuns.{AreRising}
use Rattle.bx_levels.specs.embedding.OpenChains.{ends_in_initiator}
use Rattle.bx_levels.proofs.embedding_lemmas.Scan.{further, further_more}
use Rattle.bx_ucd.specs.declared.class.Class.{Class}

-- all runs are above the level
abbrev pub all_above : ℕ → List Run → Bool
all_above level [] = true
all_above level (r ∷ rs) = nat_lt level r.level && all_above level rs

-- `r` ends in an initiator, and `q`, the first run after `r` that is not above it, has its level; `between` are the runs between them
abbrev pub is_resumed : List Class → Run → List Run → Run → Bool
is_resumed cs r between q = ends_in_initiator cs r && (q.level == r.level) && all_above r.level between

-- by whether a level is above another, and whether it is the same
abbrev pub pick : Bool → Bool → Option ℕ → Option ℕ → Option ℕ
pick true same a h = a
pick false true a h = h
pick false false a h = None

-- the number of characters before the first kept one that is not above a level, if that one has the level
abbrev pub resumes_at : ℕ → List (Option ExplicitChar) → Option ℕ
resumes_at l [] = None
resumes_at l (None ∷ ks) = one_more (resumes_at l ks)
resumes_at l (Some c ∷ ks) = pick (nat_lt l c.level) (c.level == l) (one_more (resumes_at l ks)) (Some 0)

-- where the first run begins that is not above a level, if it has the level
abbrev pub resumed_run : ℕ → List Run → Option ℕ
resumed_run l [] = None
resumed_run l (r ∷ rs) = pick (nat_lt l r.level) (r.level == l) (resumed_run l rs) (Some r.first)

pub pick_above : (l level : ℕ) (a h : Option ℕ) → l < level → pick (nat_lt l level) (level == l) a h ≡ a
pick_above l level a h lt = let e : nat_lt l level ≡ true = grind (arith, nat_tests) in ap (λ b. pick b (level == l) a h) e

pub pick_same : (l level : ℕ) (a h : Option ℕ) → level ≡ l → pick (nat_lt l level) (level == l) a h ≡ h
pick_same l level a h same =
    let e : nat_lt l level ≡ false = grind (arith, nat_tests) in
    let f : (level == l) ≡ true = grind (arith, nat_tests) in
    ap (λ b. pick b (level == l) a h) e ∙ ap (λ b. pick false b a h) f

pick_twice : (b s : Bool) (a h i : Option ℕ) → pick b s (pick b s a i) h ≡ pick b s a h
pick_twice true s a h i = refl
pick_twice false true a h i = refl
pick_twice false false a h i = refl

further_pick : (k : ℕ) (b s : Bool) (a h : Option ℕ) → further k (pick b s a h) ≡ pick b s (further k a) (further k h)
further_pick k true s a h = refl
further_pick k false true a h = refl
further_pick k false false a h = refl

-- a kept character that joins a run, or begins one
resumed_by : (l k level : ℕ) (r : Run) (rs : List Run) (b : Bool) → (r.level == level) ≡ b
    → resumed_run l (elim b as (λ x. List Run) [ true ↦ run level k r.last ∷ rs | false ↦ run level k k ∷ r ∷ rs ])
    ≡ pick (nat_lt l level) (level == l) (resumed_run l (r ∷ rs)) (Some k)
resumed_by l k level r rs true e =
    let s : r.level ≡ level = grind (arith, nat_tests) in
    sym (ap (λ n. pick (nat_lt l level) (level == l) (pick (nat_lt l n) (n == l) (resumed_run l rs) (Some r.first)) (Some k)) s
    ∙ pick_twice (nat_lt l level) (level == l) (resumed_run l rs) (Some k) (Some r.first))
resumed_by l k level r rs false e = refl

resumed_join : (l k level : ℕ) (rs : List Run) → resumed_run l (join_run k level rs) ≡ pick (nat_lt l level) (level == l) (resumed_run l rs) (Some k)
resumed_join l k level [] = refl
resumed_join l k level (r ∷ rs) = resumed_by l k level r rs (r.level == level) refl

-- the first such run begins at the first such character
pub resumed_runs : (l k : ℕ) (ks : List (Option ExplicitChar)) → resumed_run l (runs_from k ks) ≡ further k (resumes_at l ks)
resumed_runs l k [] = refl
resumed_runs l k (None ∷ ks) = resumed_runs l (k + 1) ks ∙ sym (further_more k (resumes_at l ks))
resumed_runs l k (Some c ∷ ks) =
    let later : resumed_run l (runs_from (k + 1) ks) ≡ further k (one_more (resumes_at l ks)) = resumed_runs l (k + 1) ks
    ∙ sym (further_more k (resumes_at l ks)) in
    let z : k ≡ k + 0 = omega arith in
    let here : Some k ≡ further k (Some 0) = ap (λ n. Some n) z in
    resumed_join l k c.level (runs_from (k + 1) ks) ∙ ap (λ o. pick (nat_lt l c.level) (c.level == l) o (Some k)) later
    ∙ ap (pick (nat_lt l c.level) (c.level == l) (further k (one_more (resumes_at l ks)))) here
    ∙ sym (further_pick k (nat_lt l c.level) (c.level == l) (one_more (resumes_at l ks)) (Some 0))

-- an index, if any, is the index `f`
abbrev pub begins_at : Option ℕ → ℕ → Bool
begins_at o f = elim o [ None ↦ false | Some p ↦ p == f ]

pick_elsewhere : (b s : Bool) (a h : Option ℕ) (f : ℕ) → begins_at a f ≡ false → begins_at h f ≡ false → begins_at (pick b s a h) f ≡ false
pick_elsewhere true s a h f x y = x
pick_elsewhere false true a h f x y = y
pick_elsewhere false false a h f x y = refl

abbrev IsAfter : ℕ → Run → Type 0
IsAfter p r = p < r.first

later_elsewhere : (l p f : ℕ) (rs : List Run) → f ≤ p → All (IsAfter p) rs → begins_at (resumed_run l rs) f ≡ false
later_elsewhere l p f [] h a = refl
later_elsewhere l p f (r ∷ rs) h a =
    let lt : p < r.first = All-head (IsAfter p) r rs a in
    let e : (r.first == f) ≡ false = grind (arith, nat_tests) in
    pick_elsewhere (nat_lt l r.level) (r.level == l) (resumed_run l rs) (Some r.first) f (later_elsewhere l p f rs h (All-tail (IsAfter p) r rs a)) e

middle : (P : Run → Type 0) (bs : List Run) (q : Run) (after : List Run) → All P (bs ++ q ∷ after) → P q
middle P [] q after a = All-head P q after a
middle P (b ∷ bs) q after a = middle P bs q after (All-tail P b (bs ++ q ∷ after) a)

and_false : (b : Bool) → false ≡ (b && false)
and_false true = refl
and_false false = refl

here_by : (l : ℕ) (q : Run) (after : List Run) (b s : Bool) → AreRising (q ∷ after) → nat_lt l q.level ≡ b → (q.level == l) ≡ s
    → begins_at (pick b s (resumed_run l after) (Some q.first)) q.first ≡ (s && true)
here_by l q after true true h e f = let a : l < q.level = grind (arith, nat_tests) in let b : q.level ≡ l = grind (arith, nat_tests) in absurd (omega arith)
here_by l q after true false h e f = later_elsewhere l q.last q.first after h.0 h.1
here_by l q after false true h e f = grind (arith, nat_tests)
here_by l q after false false h e f = refl

before_by : (b s t : Bool) (p f : ℕ) (o : Option ℕ) (c : Bool) → p < f → begins_at o f ≡ (t && c) → begins_at (pick b s o (Some p)) f ≡ (t && (b && c))
before_by true s t p f o c h e = e
before_by false true t p f o c h e = let n : (p == f) ≡ false = grind (arith, nat_tests) in n ∙ and_false t
before_by false false t p f o c h e = and_false t

-- a run is the first one that is not above a level, and has it
pub first_is : (l : ℕ) (between : List Run) (q : Run) (after : List Run) → AreRising (between ++ q ∷ after)
    → begins_at (resumed_run l (between ++ q ∷ after)) q.first ≡ ((q.level == l) && all_above l between)
first_is l [] q after h = here_by l q after (nat_lt l q.level) (q.level == l) h refl refl
first_is l (b ∷ bs) q after h =
    let x : b.first ≤ b.last = h.0 in
    let y : b.last < q.first = middle (IsAfter b.last) bs q after h.1 in
    before_by (nat_lt l b.level) (b.level == l) (q.level == l) b.first q.first (resumed_run l (bs ++ q ∷ after)) (all_above l bs) (omega arith)
    (first_is l bs q after h.2)
