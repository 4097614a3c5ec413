-- The stored open chains, when they take one more run.
use Rattle.std.proofs.Common.{◌≡◌, ◌<◌, ◌≤◌, ◌-◌, ◌∙◌, ℕ, suc, List, [], ◌∷◌, ◌++◌, length, drop, take, map, reverse, refl, ap, sym, subst, arith, Bool, true}
use Rattle.std.proofs.Common.{false, Option}
use Rattle.std.specs.Prelude.{All, ◌==◌}
use Rattle.std.proofs.lemmas.Bool.Decides.{nat_tests}
use Rattle.std.proofs.lemmas.List.{drop_at, take_at, drop-append-le, take-append-le, map_push, reverse-append, get_or_push, length_push}
use Rattle.std.proofs.lemmas.List.Elements.{All-cons, All-nil, All-append}
use Rattle.bx_levels.specs.declared.embedding.entry.ExplicitChar.{ExplicitChar}
use Rattle.bx_levels.specs.declared.embedding.open_chains.OpenChain.{OpenChain}
use Rattle.bx_levels.specs.declared.embedding.runs.Run.{Run}
use Rattle.bx_levels.specs.embedding.OpenChains.{run_at, with_run}
use Rattle.bx_levels.specs.embedding.StoredChains.{open_chain, open_with, BeginsRun, IsOpenChain, AreOpen, chains_of}
use Rattle.bx_levels.proofs.embedding_lemmas.Newest.{newest_index, newest_first, older, last_begins}

pub chains_length : (kept : List (Option ExplicitChar)) (os : List OpenChain) (ps : List ℕ) → length (chains_of kept os ps) ≡ length os
chains_length kept [] ps = refl
chains_length kept (o ∷ os) ps = ap (λ n. suc n) (chains_length kept os (take o.begin ps))

with_run_at : (r : Run) (rs : List Run) (chains : List (List Run)) (q : Run) (b : Bool) → (q.level == r.level) ≡ b
    → with_run ((r ∷ rs) ∷ chains) q ≡ elim b [ true ↦ (q ∷ r ∷ rs) ∷ chains | false ↦ (q ∷ []) ∷ (r ∷ rs) ∷ chains ]
with_run_at r rs chains q true e = rw (e, with_run)
with_run_at r rs chains q false e = rw (e, with_run)

open_with_at : (q : Run) (begin : ℕ) (o : OpenChain) (os : List OpenChain) (b : Bool) → (q.level == o.level) ≡ b
    → open_with q begin (o ∷ os) ≡ elim b [ true ↦ open_chain q.level q.last o.begin ∷ os | false ↦ open_chain q.level q.last begin ∷ o ∷ os ]
open_with_at q begin o os true e = rw (e, open_with)
open_with_at q begin o os false e = rw (e, open_with)

module _ (kept : List (Option ExplicitChar)) (ps : List ℕ) (q : Run) (own : q ≡ run_at kept q.first) where
  abbrev more : List ℕ
  more = ps ++ q.first ∷ []

  -- a chain of that run alone, and one that goes on with it
  alone : reverse (map (run_at kept) (drop (length ps) more)) ≡ q ∷ []
  alone = ap (λ xs. reverse (map (run_at kept) xs)) (drop_at ps (q.first ∷ []) (length ps) refl) ∙ ap (λ r. r ∷ []) (sym own)

  longer : (b : ℕ) → b ≤ length ps → reverse (map (run_at kept) (drop b more)) ≡ q ∷ reverse (map (run_at kept) (drop b ps))
  longer b h = ap (λ xs. reverse (map (run_at kept) xs)) (drop-append-le b ps (q.first ∷ []) h) ∙ ap reverse (map_push (run_at kept) (drop b ps) q.first)
      ∙ reverse-append (map (run_at kept) (drop b ps)) (run_at kept q.first ∷ []) ∙ ap (λ r. r ∷ reverse (map (run_at kept) (drop b ps))) (sym own)

  begun_alone : (os : List OpenChain) → chains_of kept (open_chain q.level q.last (length ps) ∷ os) more ≡ (q ∷ []) ∷ chains_of kept os ps
  begun_alone os = ap (λ c. c ∷ chains_of kept os (take (length ps) more)) alone
      ∙ ap (λ xs. (q ∷ []) ∷ chains_of kept os xs) (take_at ps (q.first ∷ []) (length ps) refl)

  went_on : (o : OpenChain) (os : List OpenChain) → o.begin ≤ length ps
      → chains_of kept (open_chain q.level q.last o.begin ∷ os) more ≡ (q ∷ reverse (map (run_at kept) (drop o.begin ps))) ∷ chains_of kept os (take o.begin ps)
  went_on o os h = ap (λ c. c ∷ chains_of kept os (take o.begin more)) (longer o.begin h)
      ∙ ap (λ xs. (q ∷ reverse (map (run_at kept) (drop o.begin ps))) ∷ chains_of kept os xs) (take-append-le o.begin ps (q.first ∷ []) h)

  pub taken_chains : (os : List OpenChain) → AreOpen kept os ps → chains_of kept (open_with q (length ps) os) more ≡ with_run (chains_of kept os ps) q
  taken_chains [] a = begun_alone []
  taken_chains (o ∷ os) a =
      let w : IsOpenChain kept o ps = a.0 in
      let r : Run = run_at kept (newest_index ps) in
      let c : List (List Run) = chains_of kept os (take o.begin ps) in
      let n : reverse (map (run_at kept) (drop o.begin ps)) ≡ r ∷ older kept o.begin ps = newest_first kept o.begin ps w.begin_within in
      let l : r.level ≡ o.level = (last_begins kept o ps w).of_level in
      let right : (b : Bool) → (q.level == o.level) ≡ b → with_run (chains_of kept (o ∷ os) ps) q
      ≡ elim b as (λ x. List (List Run)) [ true ↦ (q ∷ r ∷ older kept o.begin ps) ∷ c | false ↦ (q ∷ []) ∷ (r ∷ older kept o.begin ps) ∷ c ] =
      λ b t. ap (λ x. with_run (x ∷ c) q) n ∙ with_run_at r (older kept o.begin ps) c q b (ap (λ k. q.level == k) l ∙ t) in
      elim (q.level == o.level) as (λ b. (q.level == o.level) ≡ b
      → chains_of kept (open_with q (length ps) (o ∷ os)) more ≡ with_run (chains_of kept (o ∷ os) ps) q) [
        | true ↦ λ t. let h : o.begin ≤ length ps = omega (arith, w.begin_within) in ap (λ xs. chains_of kept xs more) (open_with_at q (length ps) o os true t)
            ∙ went_on o os h ∙ ap (λ x. (q ∷ x) ∷ c) n ∙ sym (right true t)
        | false ↦ λ t. ap (λ xs. chains_of kept xs more) (open_with_at q (length ps) o os false t) ∙ begun_alone (o ∷ os) ∙ ap (λ x. (q ∷ []) ∷ x ∷ c) n
            ∙ sym (right false t)
      ] refl

  newest_is : newest_index more ≡ q.first
  newest_is = let k : length ps ≡ length more - 1 = omega (arith, length_push ps q.first) in get_or_push ps q.first 0 (length more - 1) k

  module _ (within : q.first < length kept) where
    begins : BeginsRun kept q.level q.first
    begins = record { within = within; here = ap (λ (r : Run). r.first) (sym own); of_level = ap (λ (r : Run). r.level) (sym own) }

    ends_there : (run_at kept (newest_index more)).last ≡ q.last
    ends_there = ap (λ p. (run_at kept p).last) newest_is ∙ ap (λ (r : Run). r.last) (sym own)

    open_alone : (os : List OpenChain) → AreOpen kept os ps → AreOpen kept (open_chain q.level q.last (length ps) ∷ os) more
    open_alone os a = (
      record {
        begin_within = omega (arith, length_push ps q.first);
        runs = subst (All (BeginsRun kept q.level)) (sym (drop_at ps (q.first ∷ []) (length ps) refl))
            (All-cons (BeginsRun kept q.level) q.first [] begins (All-nil (BeginsRun kept q.level)));
        ends = ends_there;
      },
      subst (AreOpen kept os) (sym (take_at ps (q.first ∷ []) (length ps) refl)) a,
    )

    open_on : (o : OpenChain) (os : List OpenChain) → q.level ≡ o.level → IsOpenChain kept o ps → AreOpen kept os (take o.begin ps)
        → AreOpen kept (open_chain q.level q.last o.begin ∷ os) more
    open_on o os l w a =
        let h : o.begin < length ps = w.begin_within in
        let g : o.begin ≤ length ps = omega arith in
        let before : All (BeginsRun kept q.level) (drop o.begin ps) = subst (λ k. All (BeginsRun kept k) (drop o.begin ps)) (sym l) w.runs in (
          record {
            begin_within = omega (arith, length_push ps q.first);
            runs = subst (All (BeginsRun kept q.level)) (sym (drop-append-le o.begin ps (q.first ∷ []) g))
                (All-append (BeginsRun kept q.level) (drop o.begin ps) (q.first ∷ []) before
                (All-cons (BeginsRun kept q.level) q.first [] begins (All-nil (BeginsRun kept q.level))));
            ends = ends_there;
          },
          subst (AreOpen kept os) (sym (take-append-le o.begin ps (q.first ∷ []) g)) a,
        )

    pub taken_open : (os : List OpenChain) → AreOpen kept os ps → AreOpen kept (open_with q (length ps) os) more
    taken_open [] a = open_alone [] a
    taken_open (o ∷ os) a =
        elim (q.level == o.level) as (λ b. (q.level == o.level) ≡ b
        → AreOpen kept (elim b as (λ x. List OpenChain)
        [ true ↦ open_chain q.level q.last o.begin ∷ os | false ↦ open_chain q.level q.last (length ps) ∷ o ∷ os ]) more) [
          | true ↦ λ t. let l : q.level ≡ o.level = grind (arith, nat_tests) in open_on o os l a.0 a.1
          | false ↦ λ t. open_alone (o ∷ os) a
        ] refl
