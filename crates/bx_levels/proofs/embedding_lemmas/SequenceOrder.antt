-- The law of the walk: the sequences come in the order in which their chains end, and one that comes earlier than by the
-- order of first indexes lies apart from the ones that it overtakes.
use Rattle.std.proofs.Common.{◌≡◌, ◌≢◌, ◌<◌, ◌≤◌, ◌+◌, ◌∙◌, ℕ, suc, List, [], ◌∷◌, ◌++◌, append_assoc, append-nil, length, get_or, drop, reverse, refl, ap, sym}
use Rattle.std.proofs.Common.{subst, arith, Bool, true, false, not, ◌==◌, Option, nat_lt, ltb-false, eqb-true}
use Rattle.std.specs.Prelude.{All}
use Rattle.std.proofs.lemmas.Bool.{or_parts, or_left, not-false, eqb-false}
use Rattle.std.proofs.lemmas.List.{reverse-append, drop-drop}
use Rattle.std.proofs.lemmas.List.Folds.{list_any_none}
use Rattle.std.proofs.lemmas.List.Elements.{All-cons, All-nil, All-head, All-tail}
use Rattle.bx_ucd.specs.declared.class.Class.{Class}
use Rattle.bx_levels.specs.declared.embedding.entry.Explicit.{Explicit}
use Rattle.bx_levels.specs.declared.embedding.entry.ExplicitChar.{ExplicitChar}
use Rattle.bx_levels.specs.declared.embedding.runs.Run.{Run}
use Rattle.bx_levels.specs.embedding.Explicit.{explicit_levels}
use Rattle.bx_levels.specs.embedding.Sequences.{runs_from, RunSequence, is_joined, followers, follows, sequence_of, sequences_from, sequences}
use Rattle.bx_levels.specs.embedding.Walk.{IsRunWithin, IsIn, IsOut, AreGiven, ending, sequences_of}
use Rattle.bx_levels.specs.embedding.OpenChains.{ends_in_initiator, is_over, with_run, sequence_of_runs}
use Rattle.bx_levels.proofs.embedding_lemmas.LevelRuns.{runs_within}
use Rattle.bx_levels.proofs.embedding_lemmas.JoinedByLevel.{joined_by_level}
use Rattle.bx_levels.proofs.embedding_lemmas.RunEnd.{EndsAt, run_ends}
use Rattle.bx_levels.proofs.embedding_lemmas.Spans.{Spans, each_of_chain, all_reverse, spans_in}
use Rattle.bx_levels.proofs.embedding_lemmas.JoinedRuns.{AreJoinedByLevel, IsAlone, AreJoinedToHeads, over_alone, resumed_joins, followers_joined, alone, head_over, head_new}
use Rattle.bx_levels.proofs.embedding_lemmas.PendingChains.{heads, IsWaiting, AreWaiting, completed, waiting, ungiven, widen_all, begins_low, wait_before, wait_over, lower_all}
use Rattle.bx_levels.proofs.embedding_lemmas.PendingChains.{none_joined, wait_on, indexes_of_runs, waiting_out}
use Rattle.bx_levels.proofs.embedding_lemmas.Ending.{ending_over, ending_open}

-- the sequences of the runs to come
sequences_at : (paragraph : ℕ) (cs : List Class) (kept : List (Option ExplicitChar)) (done : List Run) (q : Run) (rest : List Run) (b : Bool) → follows cs done q ≡ b
    → sequences_from paragraph cs kept done (q ∷ rest)
    ≡ elim b [
      | true ↦ sequences_from paragraph cs kept (done ++ q ∷ []) rest
      | false ↦ sequence_of paragraph cs kept q (followers cs q rest) ∷ sequences_from
          paragraph cs kept (done ++ q ∷ []) rest
    ]
sequences_at paragraph cs kept done q rest true e = rw (e, sequences_from)
sequences_at paragraph cs kept done q rest false e = rw (e, sequences_from)

-- a run that begins a chain, and one that goes on with the newest
module _ (paragraph : ℕ) (cs : List Class) (kept : List (Option ExplicitChar)) where
  ungiven_begun : (chains : List (List Run)) (done : List Run) (q : Run) (rest : List Run) → All (λ u. is_joined cs u q ≡ false) (heads chains)
      → follows cs done q ≡ false → ungiven paragraph cs kept chains done (q ∷ rest) ≡ ungiven paragraph cs kept ((q ∷ []) ∷ chains) (done ++ q ∷ []) rest
  ungiven_begun chains done q rest a f =
      let later : List RunSequence = sequences_from paragraph cs kept (done ++ q ∷ []) rest in
      ap (λ ss. ss ++ sequences_from paragraph cs kept done (q ∷ rest)) (wait_on paragraph cs kept chains q rest a)
      ∙ ap (λ ss. waiting paragraph cs kept chains rest ++ ss) (sequences_at paragraph cs kept done q rest false f)
      ∙ sym (append_assoc (waiting paragraph cs kept chains rest) (sequence_of paragraph cs kept q (followers cs q rest) ∷ []) later)

  runs_on : (r q : Run) (rs rest : List Run) → is_joined cs r q ≡ true
      → (reverse (r ∷ rs) ++ followers cs r (q ∷ rest)) ≡ (reverse (q ∷ r ∷ rs) ++ followers cs q rest)
  runs_on r q rs rest j =
      ap (λ fs. reverse (r ∷ rs) ++ fs) (followers_joined cs r q rest j)
      ∙ sym (append_assoc (reverse (r ∷ rs)) (q ∷ []) (followers cs q rest))
      ∙ ap (λ xs. xs ++ followers cs q rest) (sym (reverse-append (q ∷ []) (r ∷ rs)))

  ungiven_on : (r : Run) (rs : List Run) (chains : List (List Run)) (done : List Run) (q : Run) (rest : List Run)
      → All (λ u. is_joined cs u q ≡ false) (heads chains) → is_joined cs r q ≡ true → follows cs done q ≡ true
      → ungiven paragraph cs kept ((r ∷ rs) ∷ chains) done (q ∷ rest) ≡ ungiven paragraph cs kept ((q ∷ r ∷ rs) ∷ chains) (done ++ q ∷ []) rest
  ungiven_on r rs chains done q rest a j f =
      ap (λ ss. (ss ++ completed paragraph cs kept (r ∷ rs) (q ∷ rest) ∷ []) ++ sequences_from paragraph cs kept done (q ∷ rest))
      (wait_on paragraph cs kept chains q rest a)
      ∙ ap (λ xs. (waiting paragraph cs kept chains rest ++ sequence_of_runs paragraph cs kept xs ∷ []) ++ sequences_from paragraph cs kept done (q ∷ rest))
      (runs_on r q rs rest j)
      ∙ ap (λ ss. (waiting paragraph cs kept chains rest ++ completed paragraph cs kept (q ∷ r ∷ rs) rest ∷ []) ++ ss)
      (sequences_at paragraph cs kept done q rest true f)

  completed_alone : (r : Run) (rs rest : List Run) → IsAlone cs r rest
      → completed paragraph cs kept (r ∷ rs) rest ≡ sequence_of_runs paragraph cs kept (reverse (r ∷ rs))
  completed_alone r rs rest a = ap (λ fs. sequence_of_runs paragraph cs kept (reverse (r ∷ rs) ++ fs)) (alone cs r rest a)
      ∙ ap (sequence_of_runs paragraph cs kept) (append-nil (reverse (r ∷ rs)))

-- the runs that begin at an index or after it
abbrev pub runs_after : List (Option ExplicitChar) → ℕ → List Run
runs_after kept from = runs_from from (drop from kept)

-- the runs before the index `from` are met, and the chains wait
pub record IsMet (cs : List Class) (kept : List (Option ExplicitChar)) (done : List Run) (chains : List (List Run)) (from : ℕ) : Type 0 where
  pub split : runs_from 0 kept ≡ done ++ runs_after kept from
  pub waits : AreWaiting done chains from
  pub joined : AreJoinedToHeads cs (heads chains) done (runs_after kept from)

-- the next run, and the runs after it
next_runs : (kept : List (Option ExplicitChar)) (from : ℕ) (q : Run) (rest : List Run) → runs_after kept from ≡ q ∷ rest → runs_after kept (q.last + 1) ≡ rest
next_runs kept from q rest e =
    let w : EndsAt from (drop from kept) q rest = run_ends from (drop from kept) [] q rest e in
    let n : from + suc w.skipped ≡ q.last + 1 = omega (arith, w.index) in
    let d : drop (suc w.skipped) (drop from kept) ≡ drop (q.last + 1) kept = drop-drop (suc w.skipped) from kept ∙ ap (λ k. drop k kept) n in
    ap (runs_from (q.last + 1)) (sym d) ∙ ap (λ k. runs_from k (drop (suc w.skipped) (drop from kept))) (sym n) ∙ w.later

module _ (paragraph : ℕ) (cs : List Class) (kept : List (Option ExplicitChar)) (law : AreJoinedByLevel cs (runs_from 0 kept)) where
  abbrev Met : List Run → List (List Run) → ℕ → Type 0
  Met done chains from = IsMet cs kept done chains from

  rest_within : (from : ℕ) → All (IsRunWithin from (from + length (drop from kept))) (runs_after kept from)
  rest_within from = runs_within from (drop from kept)

  -- the newest chain is whole
  without : (r : Run) (rs done : List Run) (chains : List (List Run)) (from : ℕ) → Met done ((r ∷ rs) ∷ chains) from → IsAlone cs r (runs_after kept from)
      → Met done chains from
  without r rs done chains from w a =
      let low : ℕ = w.waits.0 in
      let c : IsWaiting done r rs (heads chains) low from = w.waits.1 in
      record {
        split = w.split;
        waits = wait_before done chains low from (begins_low low from r rs c.within) w.waits.2;
        joined = head_over cs r (heads chains) done (runs_after kept from) w.joined a;
      }

  goes_first : (r : Run) (rs done : List Run) (chains : List (List Run)) (from : ℕ) (given : List RunSequence) → Met done ((r ∷ rs) ∷ chains) from
      → IsAlone cs r (runs_after kept from) → AreGiven given (ungiven paragraph cs kept chains done (runs_after kept from))
      → AreGiven (sequence_of_runs paragraph cs kept (reverse (r ∷ rs)) ∷ given) (ungiven paragraph cs kept ((r ∷ rs) ∷ chains) done (runs_after kept from))
  goes_first r rs done chains from given w a g =
      let rest : List Run = runs_after kept from in
      let low : ℕ = w.waits.0 in
      let c : IsWaiting done r rs (heads chains) low from = w.waits.1 in
      let s : RunSequence = sequence_of_runs paragraph cs kept (reverse (r ∷ rs)) in
      let spans : Run → Type 0 = Spans (IsIn low from) in
      let own : All spans (r ∷ rs) = λ k d h. spans_in low from (get_or (r ∷ rs) k d) (c.within k d h) in
      let each : All (IsIn low from) _ = each_of_chain (IsIn low from) kept (reverse (r ∷ rs)) (all_reverse spans (r ∷ rs) own) in
      let ins : All (IsIn low from) s.indexes = subst (All (IsIn low from)) (indexes_of_runs paragraph cs kept (reverse (r ∷ rs))) each in
      let older : List RunSequence = waiting paragraph cs kept chains rest in
      let later : List RunSequence = sequences_from paragraph cs kept done rest in
      let top : ℕ = from + length (drop from kept) in
      let outs : All (λ (u : RunSequence). All (IsOut low from) u.indexes) older =
      waiting_out paragraph cs kept done chains rest low low from top (omega arith) w.waits.2 (rest_within from) in (
        older,
        later,
        append_assoc older (completed paragraph cs kept (r ∷ rs) rest ∷ []) later
            ∙ ap (λ x. older ++ x ∷ later) (completed_alone paragraph cs kept r rs rest a),
        record { low = low; high = from; inside = ins; outside = outs },
        g,
      )

  split_at : (done : List Run) (chains : List (List Run)) (from : ℕ) (rest before between : List Run) (r : Run) → Met done chains from
      → runs_after kept from ≡ rest → done ≡ before ++ r ∷ between → runs_from 0 kept ≡ before ++ r ∷ between ++ rest
  split_at done chains from rest before between r w e d = w.split ∙ ap (λ xs. xs ++ runs_after kept from) d ∙ ap (λ xs. (before ++ r ∷ between) ++ xs) e

  -- the chains that are left at the end
  last_all : (done : List Run) (chains : List (List Run)) (from : ℕ) → runs_after kept from ≡ [] → Met done chains from
      → AreGiven (sequences_of paragraph cs kept chains) (ungiven paragraph cs kept chains done (runs_after kept from))
  last_all done [] from n w = ap (λ xs. sequences_from paragraph cs kept done xs) n
  last_all done ([] ∷ chains) from n w = absurd w.waits
  last_all done ((r ∷ rs) ∷ chains) from n w =
      let a : IsAlone cs r (runs_after kept from) = subst (IsAlone cs r) (sym n) (All-nil (λ q. is_joined cs r q ≡ false)) in
      goes_first r rs done chains from (sequences_of paragraph cs kept chains) w a (last_all done chains from n (without r rs done chains from w a))

  -- the chains that end before the next run
  module _ (done : List Run) (from : ℕ) (q : Run) (rest : List Run) (next : runs_after kept from ≡ q ∷ rest) where
    abbrev Goes : List (List Run) → Type 0
    Goes chains = is_over cs chains q ≡ false → Met done chains from
        → AreGiven (ending paragraph cs kept (with_run chains q) rest) (ungiven paragraph cs kept chains done (runs_after kept from))

    over_all : ((chains : List (List Run)) → Goes chains) → (chains : List (List Run)) → Met done chains from
        → AreGiven (ending paragraph cs kept chains (q ∷ rest)) (ungiven paragraph cs kept chains done (runs_after kept from))
    over_all go [] w = go [] refl w
    over_all go ([] ∷ chains) w = absurd w.waits
    over_all go ((r ∷ rs) ∷ chains) w =
        let all : List RunSequence = ungiven paragraph cs kept ((r ∷ rs) ∷ chains) done (runs_after kept from) in
        let c : IsWaiting done r rs (heads chains) w.waits.0 from = w.waits.1 in
        let here : runs_from 0 kept ≡ c.before ++ r ∷ c.between ++ q ∷ rest =
        split_at done ((r ∷ rs) ∷ chains) from (q ∷ rest) c.before c.between r w next c.split in
        let by : (b : Bool) → is_over cs ((r ∷ rs) ∷ chains) q ≡ b
        → AreGiven (ending paragraph cs kept ((r ∷ rs) ∷ chains) (q ∷ rest)) all =
        λ b. elim b as (λ v. is_over cs ((r ∷ rs) ∷ chains) q ≡ v → AreGiven (ending paragraph cs kept ((r ∷ rs) ∷ chains) (q ∷ rest)) all) [
          | true ↦ λ o.
              let a : IsAlone cs r (runs_after kept from) =
              subst (IsAlone cs r) (sym next) (over_alone cs (runs_from 0 kept) law c.before r c.between q rest here o) in
              subst (λ g. AreGiven g all) (sym (ending_over paragraph cs kept (r ∷ rs) chains q rest o))
              (goes_first r rs done chains from (ending paragraph cs kept chains (q ∷ rest)) w a (over_all go chains (without r rs done chains from w a)))
          | false ↦ λ o. subst (λ g. AreGiven g all) (sym (ending_open paragraph cs kept ((r ∷ rs) ∷ chains) q rest o)) (go ((r ∷ rs) ∷ chains) o w)
        ] in
        by (is_over cs ((r ∷ rs) ∷ chains) q) refl

  -- the next run is met
  module _ (done : List Run) (from : ℕ) (q : Run) (next : runs_after kept from ≡ q ∷ runs_after kept (q.last + 1)) (top : ℕ) (within : IsRunWithin from top q)
    where
      abbrev rest : List Run
      rest = runs_after kept (q.last + 1)

      abbrev Step : List (List Run) → List (List Run) → Type 0
      Step chains new = Met (done ++ q ∷ []) new (q.last + 1)
          × (ungiven paragraph cs kept chains done (runs_after kept from) ≡ ungiven paragraph cs kept new (done ++ q ∷ []) rest)

      met : (chains : List (List Run)) → Met done chains from → runs_from 0 kept ≡ done ++ q ∷ rest
      met chains w = w.split ∙ ap (λ xs. done ++ xs) next

      met_more : (chains : List (List Run)) → Met done chains from → runs_from 0 kept ≡ done ++ q ∷ [] ++ rest
      met_more chains w = met chains w ∙ sym (append_assoc done (q ∷ []) rest)

      joined_next : (chains : List (List Run)) → Met done chains from → AreJoinedToHeads cs (heads chains) done (q ∷ rest)
      joined_next chains w = subst (AreJoinedToHeads cs (heads chains) done) next w.joined

      joined_rest : (chains : List (List Run)) → Met done chains from → AreJoinedToHeads cs (heads chains) done rest
      joined_rest chains w = All-tail (λ x. follows cs done x ≡ follows cs (heads chains) x) q rest (joined_next chains w)

      joined_here : (chains : List (List Run)) → Met done chains from → follows cs done q ≡ follows cs (heads chains) q
      joined_here chains w = All-head (λ x. follows cs done x ≡ follows cs (heads chains) x) q rest (joined_next chains w)

      begin_within : (chains : List (List Run)) → All (λ (u : Run). u.level < q.level) (heads chains) → Met done chains from → Step chains ((q ∷ []) ∷ chains)
      begin_within chains l w =
          let free : All (λ u. is_joined cs u q ≡ false) (heads chains) =
          none_joined cs (runs_from 0 kept) law done chains from q rest (met chains w) l w.waits in
          let first : follows cs done q ≡ false = joined_here chains w ∙ list_any_none (λ u. is_joined cs u q) (heads chains) free in
          let own : IsRunWithin from (q.last + 1) q = record { starts = within.starts; ordered = within.ordered; ends = omega arith } in (
            record {
              split = met_more chains w;
              waits = (
                from,
                record {
                  before = done;
                  between = [];
                  split = refl;
                  above = refl;
                  lower = l;
                  within = All-cons (IsRunWithin from (q.last + 1)) q [] own (All-nil (IsRunWithin from (q.last + 1)));
                },
                wait_over done chains from q l w.waits,
              );
              joined = head_new cs q (heads chains) done rest (joined_rest chains w);
            },
            ap (ungiven paragraph cs kept chains done) next ∙ ungiven_begun paragraph cs kept chains done q rest free first,
          )

      gone_on : (r : Run) (rs : List Run) (chains : List (List Run)) → q.level ≡ r.level → ends_in_initiator cs r ≡ true → Met done ((r ∷ rs) ∷ chains) from
          → Step ((r ∷ rs) ∷ chains) ((q ∷ r ∷ rs) ∷ chains)
      gone_on r rs chains h i w =
          let old : List (List Run) = (r ∷ rs) ∷ chains in
          let low : ℕ = w.waits.0 in
          let c : IsWaiting done r rs (heads chains) low from = w.waits.1 in
          let here : runs_from 0 kept ≡ c.before ++ r ∷ c.between ++ q ∷ rest = split_at done old from (q ∷ rest) c.before c.between r w next c.split in
          let both : (is_joined cs r q ≡ true) × IsAlone cs r rest = resumed_joins cs (runs_from 0 kept) law c.before r c.between q rest here c.above i h in
          let lower : All (λ (u : Run). u.level < q.level) (heads chains) = lower_all r.level q.level (heads chains) (omega arith) c.lower in
          let free : All (λ u. is_joined cs u q ≡ false) (heads chains) =
          none_joined cs (runs_from 0 kept) law done chains low q rest (met old w) lower w.waits.2 in
          let later : follows cs done q ≡ true = joined_here old w ∙ or_left (is_joined cs r q) (follows cs (heads chains) q) both.0 in
          let begins : low ≤ from = begins_low low from r rs c.within in
          let own : IsRunWithin low (q.last + 1) q = record { starts = omega (arith, within.starts); ordered = within.ordered; ends = omega arith } in
          let longer : from ≤ q.last + 1 = omega (arith, within.starts, within.ordered) in
          let all : All (IsRunWithin low (q.last + 1)) (q ∷ r ∷ rs) =
          All-cons (IsRunWithin low (q.last + 1)) q (r ∷ rs) own (widen_all low from low (q.last + 1) (r ∷ rs) (omega arith) longer c.within) in (
            record {
              split = met_more old w;
              waits = (
                low,
                record { before = done; between = []; split = refl; above = refl; lower = lower; within = all },
                wait_over done chains low q lower w.waits.2,
              );
              joined = head_new cs q (heads chains) done rest (head_over cs r (heads chains) done rest (joined_rest old w) both.1);
            },
            ap (ungiven paragraph cs kept old done) next ∙ ungiven_on paragraph cs kept r rs chains done q rest free both.0 later,
          )

      taken : (chains : List (List Run)) → is_over cs chains q ≡ false → Met done chains from → Step chains (with_run chains q)
      taken [] o w = begin_within [] (All-nil (λ (u : Run). u.level < q.level)) w
      taken ([] ∷ chains) o w = absurd w.waits
      taken ((r ∷ rs) ∷ chains) o w =
          let parts : (nat_lt q.level r.level ≡ false) × (not (ends_in_initiator cs r) ≡ false) =
          or_parts (nat_lt q.level r.level) (not (ends_in_initiator cs r)) o in
          let high : r.level ≤ q.level = ltb-false q.level r.level parts.0 in
          let c : IsWaiting done r rs (heads chains) w.waits.0 from = w.waits.1 in
          elim (q.level == r.level) as (λ b. (q.level == r.level) ≡ b
          → Step ((r ∷ rs) ∷ chains) (elim b as (λ x. List (List Run)) [ true ↦ (q ∷ r ∷ rs) ∷ chains | false ↦ (q ∷ []) ∷ (r ∷ rs) ∷ chains ])) [
            | true ↦ λ s. gone_on r rs chains (eqb-true q.level r.level s) (not-false (ends_in_initiator cs r) parts.1) w
            | false ↦ λ s.
                let other : q.level ≢ r.level = eqb-false q.level r.level s in
                begin_within ((r ∷ rs) ∷ chains) (All-cons (λ (u : Run). u.level < q.level) r (heads chains) (omega arith)
                (lower_all r.level q.level (heads chains) high c.lower)) w
          ] refl

  given_all : (rest done : List Run) (chains : List (List Run)) (from : ℕ) → runs_after kept from ≡ rest → Met done chains from
      → AreGiven (ending paragraph cs kept chains rest) (ungiven paragraph cs kept chains done (runs_after kept from))
  given_all [] done chains from n w = last_all done chains from n w
  given_all (q ∷ rest) done chains from n w =
      let later : runs_after kept (q.last + 1) ≡ rest = next_runs kept from q rest n in
      let next : runs_after kept from ≡ q ∷ runs_after kept (q.last + 1) = n ∙ ap (λ xs. q ∷ xs) (sym later) in
      let top : ℕ = from + length (drop from kept) in
      let within : IsRunWithin from top q = All-head (IsRunWithin from top) q rest (subst (All (IsRunWithin from top)) n (rest_within from)) in
      let go : (stay : List (List Run)) → Goes done from q rest n stay = λ stay o v.
      let t : Step done from q next top within stay (with_run stay q) = taken done from q next top within stay o v in
      subst (AreGiven (ending paragraph cs kept (with_run stay q) rest)) (sym t.1) (given_all rest (done ++ q ∷ []) (with_run stay q) (q.last + 1) later t.0) in
      over_all done from q rest n go chains w

-- the sequences of a text, in the order in which their chains end
pub given_by_levels : (level : ℕ) (cs : List Class) → level ≤ 1
    → AreGiven (ending level cs (explicit_levels level cs) [] (runs_from 0 (explicit_levels level cs))) (sequences level cs (explicit_levels level cs))
given_by_levels level cs low =
    let kept : List (Option ExplicitChar) = explicit_levels level cs in
    let begin_within : IsMet cs kept [] [] 0 = record { split = refl; waits = tt; joined = λ i d h. refl } in
    given_all level cs kept (joined_by_level level cs low) (runs_from 0 kept) [] [] 0 refl begin_within

-- the sequences of a paragraph body, in the order in which their chains end
pub all_given : (e : Explicit) (runs : List Run) → e.kept.items ≡ explicit_levels e.level e.classes.items → e.level ≤ 1 → runs ≡ runs_from 0 e.kept.items
    → AreGiven (ending e.level e.classes.items e.kept.items [] runs) (sequences e.level e.classes.items e.kept.items)
all_given e runs levels low is =
    let kept : List (Option ExplicitChar) = e.kept.items in
    let law : AreJoinedByLevel e.classes.items (runs_from 0 kept) =
    subst (λ g. AreJoinedByLevel e.classes.items (runs_from 0 g)) (sym levels) (joined_by_level e.level e.classes.items low) in
    let begin_within : IsMet e.classes.items kept [] [] 0 = record { split = refl; waits = tt; joined = λ i d h. refl } in
    subst (λ rs. AreGiven (ending e.level e.classes.items kept [] rs) (sequences e.level e.classes.items kept)) (sym is)
    (given_all e.level e.classes.items kept law (runs_from 0 kept) [] [] 0 refl begin_within)
