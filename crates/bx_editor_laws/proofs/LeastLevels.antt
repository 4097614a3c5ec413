-- No level of a paragraph is below its character's explicit level.
use Rattle.std.proofs.Common.{◌≡◌, ◌<◌, ◌≤◌, ◌+◌, ◌-◌, ◌∙◌, ℕ, zero, suc, List, [], ◌∷◌, ◌++◌, get_or, length, map, replicate, reverse, set, refl, ap}
use Rattle.std.proofs.Common.{sym, subst, arith, true, false, ◌==◌, Option, Some, None, ⊎_elim}
use Rattle.std.specs.Prelude.{◌%◌, All}
use Rattle.std.proofs.lemmas.Bool.{cases_lt}
use Rattle.std.proofs.lemmas.Bool.Decides.{nat_tests}
use Rattle.std.proofs.lemmas.List.{reverse-append}
use Rattle.std.proofs.lemmas.List.Elements.{All-cons, All-nil, All-head, All-tail}
use Rattle.bx_ucd.specs.Data.{Data}
use Rattle.bx_ucd.specs.declared.class.Class.{Class}
use Rattle.bx_levels.specs.declared.embedding.entry.ExplicitChar.{ExplicitChar}
use Rattle.bx_levels.specs.declared.embedding.runs.Run.{Run}
use Rattle.bx_levels.specs.embedding.Explicit.{explicit_levels}
use Rattle.bx_levels.specs.embedding.OpenChains.{is_over, sequence_of_runs, with_run}
use Rattle.bx_levels.specs.embedding.Sequences.{join_run, run, runs_from, RunSequence, chain_indexes, sequences}
use Rattle.bx_levels.specs.embedding.Walk.{IsRunWithin, AreGiven, ending, over_before, sequences_of, still_open}
use Rattle.bx_levels.proofs.embedding_lemmas.LevelRuns.{all_within}
use Rattle.bx_levels.proofs.embedding_lemmas.SequenceOrder.{given_by_levels}
use Rattle.bx_levels.proofs.embedding_lemmas.Spans.{Spans, each_of_chain}
use Rattle.bx_levels.specs.resolve.Levels.{chars_at, levels_in, paragraph_levels, sequence_types, types_at, with_levels, with_sequences}
use Rattle.bx_levels.specs.resolve.Neutral.{implicit, implicit_at, rise_even, rise_odd}

-- ---- the runs

-- a character has the level, if it is kept
abbrev Fits : ℕ → Option ExplicitChar → Type 0
Fits level None = Unit {0}
Fits level (Some k) = k.level ≡ level

module _ (at : ℕ → Option ExplicitChar) where
  -- the characters of a run have its level
  abbrev IsFlat : Run → Type 0
  IsFlat r = (p : ℕ) → r.first ≤ p → p ≤ r.last → Fits r.level (at p)

  -- so have those before the first run, from `k` on
  abbrev IsFlatFrom : ℕ → List Run → Type 0
  IsFlatFrom k [] = (p : ℕ) → k ≤ p → at p ≡ None
  IsFlatFrom k (r ∷ rs) = (p : ℕ) → k ≤ p → p ≤ r.last → Fits r.level (at p)

  abbrev AreFlat : List Run → Type 0
  AreFlat [] = Unit {0}
  AreFlat (r ∷ rs) = IsFlat r × AreFlat rs

  abbrev AreAt : ℕ → List (Option ExplicitChar) → Type 0
  AreAt k g = (j : ℕ) → get_or g j None ≡ at (k + j)

  later : (k : ℕ) (o : Option ExplicitChar) (g : List (Option ExplicitChar)) → AreAt k (o ∷ g) → AreAt (k + 1) g
  later k o g h j = let same : k + suc j ≡ k + 1 + j = omega arith in subst (λ n. get_or g j None ≡ at n) same (h (suc j))

  here : (k : ℕ) (o : Option ExplicitChar) (g : List (Option ExplicitChar)) → AreAt k (o ∷ g) → (p : ℕ) → k ≤ p → p < k + 1 → o ≡ at p
  here k o g h p low high = let same : k + 0 ≡ p = omega (arith, low, high) in subst (λ n. o ≡ at n) same (h 0)

  none-more : (k : ℕ) (g : List (Option ExplicitChar)) (rs : List Run) → AreAt k (None ∷ g) → IsFlatFrom (k + 1) rs → IsFlatFrom k rs
  none-more k g [] h all = λ p low. ⊎_elim (λ first. sym (here k None g h p low first)) (λ more. all p more) (cases_lt p (k + 1))
  none-more k g (r ∷ rs) h all = λ p low high.
      ⊎_elim (λ first. subst (Fits r.level) (here k None g h p low first) tt) (λ more. all p more high) (cases_lt p (k + 1))

  some-more : (k : ℕ) (c : ExplicitChar) (g : List (Option ExplicitChar)) (rs : List Run) → AreAt k (Some c ∷ g)
      → IsFlatFrom (k + 1) rs × AreFlat rs → IsFlatFrom k (join_run k c.level rs) × AreFlat (join_run k c.level rs)
  some-more k c g [] h all =
      let one : (p : ℕ) → k ≤ p → p ≤ k → Fits c.level (at p) = λ p low high. subst (Fits c.level) (here k (Some c) g h p low (omega (arith, high))) refl in
      (one, (one, tt))
  some-more k c g (r ∷ rs) h all =
      let one : (p : ℕ) → k ≤ p → p ≤ k → Fits c.level (at p) = λ p low high. subst (Fits c.level) (here k (Some c) g h p low (omega (arith, high))) refl in
      elim (r.level == c.level) as (λ b. (r.level == c.level) ≡ b
      → IsFlatFrom k (elim b as (λ x. List Run) [ true ↦ run c.level k r.last ∷ rs | false ↦ run c.level k k ∷ r ∷ rs ])
      × AreFlat (elim b as (λ x. List Run) [ true ↦ run c.level k r.last ∷ rs | false ↦ run c.level k k ∷ r ∷ rs ])) [
        | true ↦ λ e.
            let same : r.level ≡ c.level = grind (arith, nat_tests, e) in
            let whole : (p : ℕ) → k ≤ p → p ≤ r.last → Fits c.level (at p) = λ p low high.
            ⊎_elim (λ first. subst (Fits c.level) (here k (Some c) g h p low first) refl) (λ more. subst (λ n. Fits n (at p)) same (all.0 p more high))
            (cases_lt p (k + 1)) in
            (whole, (whole, all.1.1))
        | false ↦ λ e. (one, (one, all.1))
      ] refl

  flat : (k : ℕ) (g : List (Option ExplicitChar)) → AreAt k g → IsFlatFrom k (runs_from k g) × AreFlat (runs_from k g)
  flat k [] h = (λ p low. let same : k + (p - k) ≡ p = omega (arith, low) in subst (λ n. at n ≡ None) same (sym (h (p - k))), tt)
  flat k (None ∷ g) h =
      let all = flat (k + 1) g (later k None g h) in (none-more k g (runs_from (k + 1) g) h all.0, all.1)
  flat k (Some c ∷ g) h = some-more k c g (runs_from (k + 1) g) h (flat (k + 1) g (later k (Some c) g h))

-- ---- the sequences

module _ (paragraph : ℕ) (cs : List Class) (kept : List (Option ExplicitChar)) where
  abbrev at : ℕ → Option ExplicitChar
  at p = get_or kept p None

  -- a sequence of characters of its level
  abbrev IsLevel : RunSequence → Type 0
  IsLevel s = All (λ p. Fits s.level (at p)) s.indexes

  abbrev AreLevel : List RunSequence → Type 0
  AreLevel [] = Unit {0}
  AreLevel (s ∷ ss) = IsLevel s × AreLevel ss

  level-append : (ss ts : List RunSequence) → AreLevel ss → AreLevel ts → AreLevel (ss ++ ts)
  level-append [] ts a b = b
  level-append (s ∷ ss) ts a b = (a.0, level-append ss ts a.1 b)

  abbrev IsRight : Run → Type 0
  IsRight r = (r.first ≤ r.last) × IsFlat at r

  abbrev AreRight : List Run → Type 0
  AreRight [] = Unit {0}
  AreRight (r ∷ rs) = IsRight r × AreRight rs

  -- runs of one level
  abbrev AreOf : ℕ → List Run → Type 0
  AreOf level [] = Unit {0}
  AreOf level (r ∷ rs) = (r.level ≡ level) × IsRight r × AreOf level rs

  of-append : (level : ℕ) (rs qs : List Run) → AreOf level rs → AreOf level qs → AreOf level (rs ++ qs)
  of-append level [] qs a b = b
  of-append level (r ∷ rs) qs a b = (a.0, a.1, of-append level rs qs a.2 b)

  of-reverse : (level : ℕ) (rs : List Run) → AreOf level rs → AreOf level (reverse rs)
  of-reverse level [] a = tt
  of-reverse level (r ∷ rs) a =
      subst (AreOf level) (sym (reverse-append (r ∷ []) rs)) (of-append level (reverse rs) (r ∷ []) (of-reverse level rs a.2) (a.0, a.1, tt))

  of-spans : (level : ℕ) (rs : List Run) → AreOf level rs → All (Spans (λ p. Fits level (at p))) rs
  of-spans level [] a = All-nil (Spans (λ p. Fits level (at p)))
  of-spans level (r ∷ rs) a =
      All-cons (Spans (λ p. Fits level (at p))) r rs (a.1.0, λ p low high. subst (λ n. Fits n (at p)) a.0 (a.1.1 p low high)) (of-spans level rs a.2)

  runs-level : (level : ℕ) (rs : List Run) → AreOf level rs → IsLevel (sequence_of_runs paragraph cs kept rs)
  runs-level level [] a = All-nil (λ p. Fits 0 (at p))
  runs-level level (r ∷ rs) a =
      subst (λ n. All (λ p. Fits n (at p)) (chain_indexes kept (r ∷ rs))) (sym a.0)
      (each_of_chain (λ p. Fits level (at p)) kept (r ∷ rs) (of-spans level (r ∷ rs) a))

  abbrev IsChain : List Run → Type 0
  IsChain c = (level : ℕ) × AreOf level c

  abbrev AreChains : List (List Run) → Type 0
  AreChains [] = Unit {0}
  AreChains (c ∷ chains) = IsChain c × AreChains chains

  chains-level : (chains : List (List Run)) → AreChains chains → AreLevel (sequences_of paragraph cs kept chains)
  chains-level [] a = tt
  chains-level (c ∷ chains) a = (runs-level a.0.0 (reverse c) (of-reverse a.0.0 c a.0.1), chains-level chains a.1)

  over-chains : (chains : List (List Run)) (q : Run) → AreChains chains → AreChains (over_before cs chains q)
  over-chains [] q a = tt
  over-chains (c ∷ chains) q a =
      let ih = over-chains chains q a.1 in
      elim (is_over cs (c ∷ chains) q) as (λ b. AreChains (elim b as (λ x. List (List Run)) [ true ↦ c ∷ over_before cs chains q | false ↦ [] ])) [
        | true ↦ (a.0, ih)
        | false ↦ tt
      ]

  open-chains : (chains : List (List Run)) (q : Run) → AreChains chains → AreChains (still_open cs chains q)
  open-chains [] q a = tt
  open-chains (c ∷ chains) q a =
      let ih = open-chains chains q a.1 in
      elim (is_over cs (c ∷ chains) q) as (λ b. AreChains (elim b as (λ x. List (List Run)) [ true ↦ still_open cs chains q | false ↦ c ∷ chains ])) [
        | true ↦ ih
        | false ↦ a
      ]

  one-chain : (q : Run) → IsRight q → IsChain (q ∷ [])
  one-chain q h = (q.level, (refl, h, tt))

  run-chains : (chains : List (List Run)) (q : Run) → IsRight q → AreChains chains → AreChains (with_run chains q)
  run-chains [] q h a = (one-chain q h, tt)
  run-chains ([] ∷ chains) q h a = (one-chain q h, a)
  run-chains ((r ∷ rs) ∷ chains) q h a =
      elim (q.level == r.level) as (λ b. (q.level == r.level) ≡ b
      → AreChains (elim b as (λ x. List (List Run)) [ true ↦ (q ∷ r ∷ rs) ∷ chains | false ↦ (q ∷ []) ∷ (r ∷ rs) ∷ chains ])) [
        | true ↦ λ e. let same : q.level ≡ r.level = grind (arith, nat_tests, e) in ((a.0.0, (same ∙ a.0.1.0, h, a.0.1)), a.1)
        | false ↦ λ e. (one-chain q h, a)
      ] refl

  ending-level : (rest : List Run) (chains : List (List Run)) → AreRight rest → AreChains chains → AreLevel (ending paragraph cs kept chains rest)
  ending-level [] chains h a = chains-level chains a
  ending-level (q ∷ rest) chains h a =
      level-append (sequences_of paragraph cs kept (over_before cs chains q)) (ending paragraph cs kept (with_run (still_open cs chains q) q) rest)
      (chains-level (over_before cs chains q) (over-chains chains q a))
      (ending-level rest (with_run (still_open cs chains q) q) h.1 (run-chains (still_open cs chains q) q h.0 (open-chains chains q a)))

  level-with : (before : List RunSequence) (s : RunSequence) (after : List RunSequence) → IsLevel s → AreLevel (before ++ after) → AreLevel (before ++ s ∷ after)
  level-with [] s after h a = (h, a)
  level-with (b ∷ before) s after h a = (a.0, level-with before s after h a.1)

  given-level : (given all : List RunSequence) → AreGiven given all → AreLevel given → AreLevel all
  given-level [] all g a = subst AreLevel (sym g) tt
  given-level (s ∷ given) all g a = subst AreLevel (sym g.2) (level-with g.0 s g.1 a.0 (given-level given (g.0 ++ g.1) g.4 a.1))

  right : (n : ℕ) (rs : List Run) → All (IsRunWithin 0 n) rs → AreFlat at rs → AreRight rs
  right n [] w a = tt
  right n (r ∷ rs) w a = let one = All-head (IsRunWithin 0 n) r rs w in ((one.ordered, a.0), right n rs (All-tail (IsRunWithin 0 n) r rs w) a.1)

  all-right : AreRight (runs_from 0 kept)
  all-right = right (length kept) (runs_from 0 kept) (all_within kept) ((flat at 0 kept (λ j. let same : j ≡ 0 + j = omega arith in ap at same)).1)

sequences-level : (paragraph : ℕ) (cs : List Class) → paragraph ≤ 1
    → let kept = explicit_levels paragraph cs in AreLevel paragraph cs kept (sequences paragraph cs kept)
sequences-level paragraph cs low =
    let kept = explicit_levels paragraph cs in
    given-level paragraph cs kept (ending paragraph cs kept [] (runs_from 0 kept)) (sequences paragraph cs kept) (given_by_levels paragraph cs low)
    (ending-level paragraph cs kept (runs_from 0 kept) [] (all-right paragraph cs kept) tt)

-- ---- the levels

-- a level is not below an explicit one
abbrev pub IsLeast : Option ExplicitChar → Option ℕ → Type 0
IsLeast None level = Unit {0}
IsLeast (Some k) None = Unit {0}
IsLeast (Some k) (Some level) = k.level ≤ level

abbrev AreLeast : List (Option ExplicitChar) → List (Option ℕ) → Type 0
AreLeast [] each = Unit {0}
AreLeast (k ∷ ks) [] = Unit {0}
AreLeast (k ∷ ks) (l ∷ ls) = IsLeast k l × AreLeast ks ls

raised : (level : ℕ) (t : Class) → level ≤ implicit_at level t
raised level t =
    elim (level % 2) as (λ n. level ≤ elim n as (λ x. ℕ) [ zero ↦ level + rise_even t | suc n ↦ level + rise_odd t ]) [ zero ↦ omega arith | suc n ↦ omega arith ]

fits-least : (k : Option ExplicitChar) (level l : ℕ) → Fits level k → level ≤ l → IsLeast k (Some l)
fits-least None level l h low = tt
fits-least (Some k) level l h low = omega (arith, h, low)

least-set : (kept : List (Option ExplicitChar)) (each : List (Option ℕ)) (p l : ℕ) → IsLeast (get_or kept p None) (Some l)
    → AreLeast kept each → AreLeast kept (set each p (Some l))
least-set [] each p l d h = tt
least-set (k ∷ ks) [] p l d h = tt
least-set (k ∷ ks) (x ∷ ls) zero l d h = (d, h.1)
least-set (k ∷ ks) (x ∷ ls) (suc p) l d h = (h.0, least-set ks ls p l d h.1)

least-with : (kept : List (Option ExplicitChar)) (level : ℕ) (ts : List Class) (ps : List ℕ) (each : List (Option ℕ)) → All (λ p. Fits level (get_or kept p None)) ps
    → AreLeast kept each → AreLeast kept (with_levels ps (implicit level ts) each)
least-with kept level ts [] each d h = h
least-with kept level [] (p ∷ ps) each d h = h
least-with kept level (t ∷ ts) (p ∷ ps) each d h =
    let P = λ (p : ℕ). Fits level (get_or kept p None) in
    let l = implicit_at level t in
    least-with kept level ts ps (set each p (Some l)) (All-tail P p ps d)
    (least-set kept each p l (fits-least (get_or kept p None) level l (All-head P p ps d) (raised level t)) h)

least-none : (kept : List (Option ExplicitChar)) (n : ℕ) → AreLeast kept (replicate n None)
least-none [] n = tt
least-none (None ∷ ks) zero = tt
least-none (None ∷ ks) (suc n) = (tt, least-none ks n)
least-none (Some k ∷ ks) zero = tt
least-none (Some k ∷ ks) (suc n) = (tt, least-none ks n)

least-after : (ucd : Data) (chars : List ℕ) (paragraph : ℕ) (cs : List Class) (kept : List (Option ExplicitChar)) (ss : List RunSequence) (each : List (Option ℕ))
    → AreLevel paragraph cs kept ss → AreLeast kept each → AreLeast kept (with_sequences ucd chars kept ss each)
least-after ucd chars paragraph cs kept [] each a h = h
least-after ucd chars paragraph cs kept (s ∷ ss) each a h =
    least-after ucd chars paragraph cs kept ss (with_levels s.indexes (levels_in ucd chars kept s) each) a.1
    (least-with kept s.level (sequence_types ucd s.level s.sos s.eos (chars_at chars s.indexes) (types_at kept s.indexes)) s.indexes each a.0 h)

least-none-at : (k : Option ExplicitChar) → IsLeast k None
least-none-at None = tt
least-none-at (Some k) = tt

least-at : (kept : List (Option ExplicitChar)) (each : List (Option ℕ)) (i : ℕ) → AreLeast kept each → IsLeast (get_or kept i None) (get_or each i None)
least-at [] each i h = tt
least-at (k ∷ ks) [] i h = least-none-at (get_or (k ∷ ks) i None)
least-at (k ∷ ks) (l ∷ ls) zero h = h.0
least-at (k ∷ ks) (l ∷ ls) (suc i) h = least-at ks ls i h.1

pub levels-are-least : (ucd : Data) (level : ℕ) (chars : List ℕ) (i : ℕ) → level ≤ 1
    → IsLeast (get_or (explicit_levels level (map ucd.class chars)) i None) (get_or (paragraph_levels ucd level chars) i None)
levels-are-least ucd level chars i low =
    let cs : List Class = map ucd.class chars in
    let kept : List (Option ExplicitChar) = explicit_levels level cs in
    least-at kept (paragraph_levels ucd level chars) i
    (least-after ucd chars level cs kept (sequences level cs kept) (replicate (length chars) None) (sequences-level level cs low) (least-none kept (length chars)))
