-- Open chains that wait for a later run: their conditions, kept when a run is met, and the sequences that they will form.
use Rattle.std.proofs.Common.{◌≡◌, ◌<◌, ◌≤◌, ◌∙◌, ℕ, List, [], ◌∷◌, ◌++◌, append_assoc, get_or, reverse, refl, ap, subst, arith, true, false, Option}
use Rattle.std.specs.Prelude.{All}
use Rattle.std.proofs.lemmas.List.Elements.{All-cons, All-nil, All-head, All-tail, All-append}
use Rattle.bx_ucd.specs.declared.class.Class.{Class}
use Rattle.bx_levels.specs.declared.embedding.entry.ExplicitChar.{ExplicitChar}
use Rattle.bx_levels.specs.declared.embedding.runs.Run.{Run}
use Rattle.bx_levels.specs.embedding.Walk.{IsRunWithin, IsOut}
use Rattle.bx_levels.specs.embedding.Sequences.{RunSequence, is_joined, followers, chain_indexes, sequences_from}
use Rattle.bx_levels.specs.embedding.OpenChains.{first_run_of, sequence_of_runs}
use Rattle.bx_levels.proofs.embedding_lemmas.FirstLow.{all_above}
use Rattle.bx_levels.proofs.embedding_lemmas.Spans.{Spans, each_of_chain, all_reverse, spans_before, spans_after}
use Rattle.bx_levels.proofs.embedding_lemmas.JoinedRuns.{AreJoinedByLevel, other_level, above_more, followers_unjoined}

-- the newest run of each chain
abbrev pub heads : List (List Run) → List Run
heads [] = []
heads (c ∷ chains) = first_run_of c ∷ heads chains

-- a chain lies between two indexes, all runs since its newest one are above that, and older chains end lower
pub record IsWaiting (done : List Run) (r : Run) (rs older : List Run) (low high : ℕ) : Type 0 where
  pub before : List Run
  pub between : List Run
  pub split : done ≡ before ++ r ∷ between
  pub above : all_above r.level between ≡ true
  pub lower : All (λ (u : Run). u.level < r.level) older
  pub within : All (IsRunWithin low high) (r ∷ rs)

-- the same for each chain, one after the other before an index
abbrev pub AreWaiting : List Run → List (List Run) → ℕ → Type 0
AreWaiting done [] high = Unit {0}
AreWaiting done ([] ∷ chains) high = ⊥
AreWaiting done ((r ∷ rs) ∷ chains) high = (low : ℕ) × IsWaiting done r rs (heads chains) low high × AreWaiting done chains low

-- the whole sequence of a chain, where `rest` are the runs to come
abbrev pub completed : ℕ → List Class → List (Option ExplicitChar) → List Run → List Run → RunSequence
completed paragraph cs kept c rest = sequence_of_runs paragraph cs kept (reverse c ++ followers cs (first_run_of c) rest)

-- the sequences of the chains, the oldest first
abbrev pub waiting : ℕ → List Class → List (Option ExplicitChar) → List (List Run) → List Run → List RunSequence
waiting paragraph cs kept [] rest = []
waiting paragraph cs kept (c ∷ chains) rest = waiting paragraph cs kept chains rest ++ completed paragraph cs kept c rest ∷ []

-- the sequences that are not given yet
abbrev pub ungiven : ℕ → List Class → List (Option ExplicitChar) → List (List Run) → List Run → List Run → List RunSequence
ungiven paragraph cs kept chains done rest = waiting paragraph cs kept chains rest ++ sequences_from paragraph cs kept done rest

widen : (low high bottom top : ℕ) (r : Run) → bottom ≤ low → high ≤ top → IsRunWithin low high r → IsRunWithin bottom top r
widen low high bottom top r b t w = record { starts = omega (arith, w.starts); ordered = w.ordered; ends = omega (arith, w.ends) }

pub widen_all : (low high bottom top : ℕ) (rs : List Run) → bottom ≤ low → high ≤ top → All (IsRunWithin low high) rs → All (IsRunWithin bottom top) rs
widen_all low high bottom top rs b t a = λ k d h. widen low high bottom top (get_or rs k d) b t (a k d h)

-- a chain begins before it ends
pub begins_low : (low high : ℕ) (r : Run) (rs : List Run) → All (IsRunWithin low high) (r ∷ rs) → low ≤ high
begins_low low high r rs a = let w : IsRunWithin low high r = All-head (IsRunWithin low high) r rs a in omega (arith, w.starts, w.ordered, w.ends)

-- the chains may be looked at from a later index
pub wait_before : (done : List Run) (chains : List (List Run)) (low high : ℕ) → low ≤ high → AreWaiting done chains low → AreWaiting done chains high
wait_before done [] low high h w = tt
wait_before done ([] ∷ chains) low high h w = w
wait_before done ((r ∷ rs) ∷ chains) low high h w =
    let c : IsWaiting done r rs (heads chains) w.0 low = w.1 in (
      w.0,
      record {
        before = c.before;
        between = c.between;
        split = c.split;
        above = c.above;
        lower = c.lower;
        within = widen_all w.0 low w.0 high (r ∷ rs) (omega arith) h c.within;
      },
      w.2,
    )

-- one more run is met, which is above all newest runs
pub wait_over : (done : List Run) (chains : List (List Run)) (high : ℕ) (q : Run) → All (λ (u : Run). u.level < q.level) (heads chains)
    → AreWaiting done chains high → AreWaiting (done ++ q ∷ []) chains high
wait_over done [] high q l w = tt
wait_over done ([] ∷ chains) high q l w = w
wait_over done ((r ∷ rs) ∷ chains) high q l w =
    let c : IsWaiting done r rs (heads chains) w.0 high = w.1 in (
      w.0,
      record {
        before = c.before;
        between = c.between ++ q ∷ [];
        split = ap (λ xs. xs ++ q ∷ []) c.split ∙ append_assoc c.before (r ∷ c.between) (q ∷ []);
        above = above_more r.level c.between q c.above (All-head (λ (u : Run). u.level < q.level) r (heads chains) l);
        lower = c.lower;
        within = c.within;
      },
      wait_over done chains w.0 q (All-tail (λ (u : Run). u.level < q.level) r (heads chains) l) w.2,
    )

pub lower_all : (m n : ℕ) (us : List Run) → m ≤ n → All (λ (u : Run). u.level < m) us → All (λ (u : Run). u.level < n) us
lower_all m n us h a = λ k d i. let l : (get_or us k d).level < m = a k d i in omega arith

-- a run that is above the newest runs is joined to none of them
pub none_joined : (cs : List Class) (all : List Run) → AreJoinedByLevel cs all → (done : List Run) (chains : List (List Run)) (high : ℕ) (q : Run) (rest : List Run)
    → all ≡ done ++ q ∷ rest → All (λ (u : Run). u.level < q.level) (heads chains) → AreWaiting done chains high
    → All (λ u. is_joined cs u q ≡ false) (heads chains)
none_joined cs all law done [] high q rest e l w = All-nil (λ u. is_joined cs u q ≡ false)
none_joined cs all law done ([] ∷ chains) high q rest e l w = absurd w
none_joined cs all law done ((r ∷ rs) ∷ chains) high q rest e l w =
    let c : IsWaiting done r rs (heads chains) w.0 high = w.1 in
    let here : all ≡ c.before ++ r ∷ c.between ++ q ∷ rest = e ∙ ap (λ xs. xs ++ q ∷ rest) c.split in
    let low : r.level < q.level = All-head (λ (u : Run). u.level < q.level) r (heads chains) l in
    All-cons (λ u. is_joined cs u q ≡ false) r (heads chains)
    (other_level cs all law c.before r c.between q rest here (omega arith))
    (none_joined cs all law done chains w.0 q rest e (All-tail (λ (u : Run). u.level < q.level) r (heads chains) l) w.2)

module _ (paragraph : ℕ) (cs : List Class) (kept : List (Option ExplicitChar)) where
  -- chains that a run is joined to none of wait on
  pub wait_on : (chains : List (List Run)) (q : Run) (rest : List Run) → All (λ u. is_joined cs u q ≡ false) (heads chains)
      → waiting paragraph cs kept chains (q ∷ rest) ≡ waiting paragraph cs kept chains rest
  wait_on [] q rest a = refl
  wait_on (c ∷ chains) q rest a =
      let u : Run = first_run_of c in
      ap (λ ss. ss ++ completed paragraph cs kept c (q ∷ rest) ∷ []) (wait_on chains q rest (All-tail (λ x. is_joined cs x q ≡ false) u (heads chains) a))
      ∙ ap (λ fs. waiting paragraph cs kept chains rest ++ sequence_of_runs paragraph cs kept (reverse c ++ fs) ∷ [])
      (followers_unjoined cs u q rest (All-head (λ x. is_joined cs x q ≡ false) u (heads chains) a))

  pub indexes_of_runs : (rs : List Run) → chain_indexes kept rs ≡ (sequence_of_runs paragraph cs kept rs).indexes
  indexes_of_runs [] = refl
  indexes_of_runs (r ∷ rs) = refl

  followers_each : (Q : Run → Type 0) (r : Run) (rs : List Run) → All Q rs → All Q (followers cs r rs)
  followers_each Q r [] a = All-nil Q
  followers_each Q r (q ∷ qs) a =
      elim (is_joined cs r q) as (λ b. All Q (elim b as (λ x. List Run) [ true ↦ q ∷ followers cs q qs | false ↦ followers cs r qs ])) [
        | true ↦ All-cons Q q (followers cs q qs) (All-head Q q qs a) (followers_each Q q qs (All-tail Q q qs a))
        | false ↦ followers_each Q r qs (All-tail Q q qs a)
      ]

  -- the sequences of chains before an index, which go on after another
  pub waiting_out : (done : List Run) (chains : List (List Run)) (rest : List Run) (index low high top : ℕ) → index ≤ low → AreWaiting done chains index
      → All (IsRunWithin high top) rest → All (λ (s : RunSequence). All (IsOut low high) s.indexes) (waiting paragraph cs kept chains rest)
  waiting_out done [] rest index low high top h w a = All-nil (λ (s : RunSequence). All (IsOut low high) s.indexes)
  waiting_out done ([] ∷ chains) rest index low high top h w a = absurd w
  waiting_out done ((r ∷ rs) ∷ chains) rest index low high top h w a =
      let outs : RunSequence → Type 0 = λ (s : RunSequence). All (IsOut low high) s.indexes in
      let spans : Run → Type 0 = Spans (IsOut low high) in
      let c : IsWaiting done r rs (heads chains) w.0 index = w.1 in
      let own : All (IsRunWithin w.0 low) (r ∷ rs) = widen_all w.0 index w.0 low (r ∷ rs) (omega arith) h c.within in
      let first : All spans (reverse (r ∷ rs)) = all_reverse spans (r ∷ rs) (λ k d i. spans_before low high w.0 (get_or (r ∷ rs) k d) (own k d i)) in
      let later : All spans (followers cs r rest) = followers_each spans r rest (λ k d i. spans_after low high top (get_or rest k d) (a k d i)) in
      let runs : List Run = reverse (r ∷ rs) ++ followers cs r rest in
      let here : outs (completed paragraph cs kept (r ∷ rs) rest) =
      subst (All (IsOut low high)) (indexes_of_runs runs)
      (each_of_chain (IsOut low high) kept runs (All-append spans (reverse (r ∷ rs)) (followers cs r rest) first later)) in
      let begins : w.0 ≤ index = begins_low w.0 index r rs c.within in
      All-append outs (waiting paragraph cs kept chains rest) (completed paragraph cs kept (r ∷ rs) rest ∷ [])
      (waiting_out done chains rest w.0 low high top (omega arith) w.2 a)
      (All-cons outs (completed paragraph cs kept (r ∷ rs) rest) [] here (All-nil outs))
