-- The newest open chain, from its stored values.
use Rattle.std.proofs.Common.{◌≡◌, ◌<◌, ◌≤◌, ◌+◌, ◌-◌, ◌∙◌, ℕ, List, [], ◌∷◌, ◌++◌, length, get_or, drop, take, map, reverse, max, refl, ap, sym, subst, arith}
use Rattle.std.proofs.Common.{Bool, true, false, Option, length-drop}
use Rattle.std.specs.Prelude.{All, ◌||◌, nat_lt, not}
use Rattle.std.proofs.lemmas.Bool.Decides.{nat_tests}
use Rattle.std.proofs.lemmas.List.{drop_more, take_more, take_all, get_or-drop, map_push, reverse-append, reverse-reverse, at_drop_more}
use Rattle.bx_ucd.specs.declared.class.Class.{Class}
use Rattle.bx_ucd.specs.declared.class.Class.TheVariants.{L}
use Rattle.bx_ucd.specs.Class.{is_initiator}
use Rattle.bx_levels.specs.declared.embedding.entry.Explicit.{Explicit}
use Rattle.bx_levels.specs.declared.embedding.entry.ExplicitChar.{ExplicitChar}
use Rattle.bx_levels.specs.declared.embedding.open_chains.OpenChain.{OpenChain}
use Rattle.bx_levels.specs.declared.embedding.runs.Run.{Run}
use Rattle.bx_levels.specs.embedding.LevelIndexes.{level_indexes, indexes_from}
use Rattle.bx_levels.specs.embedding.OpenChains.{OpenRuns, run_at, is_over, newest, newest_sequence, sequence_of_runs}
use Rattle.bx_levels.specs.embedding.Sequences.{RunSequence, chain_indexes, direction, level_of_first, level_after, start_class, end_class, last_run, sequence_of}
use Rattle.bx_levels.specs.embedding.Sequences.{starts_with_initiator}
use Rattle.bx_levels.specs.embedding.StoredChains.{BeginsRun, IsOpenChain, AreOpen, chains_of}
use Rattle.std.proofs.lemmas.List.Elements.{All-head, All-tail}
use Rattle.bx_levels.proofs.embedding_lemmas.RunWalk.{indexes_walked, last_below}

abbrev pub newest_index : List ℕ → ℕ
newest_index ps = get_or ps (length ps - 1) 0

-- a chain, its newest run first
abbrev pub older : List (Option ExplicitChar) → ℕ → List ℕ → List Run
older kept b ps = reverse (map (run_at kept) (take (length ps - b - 1) (drop b ps)))

split_last : (b : ℕ) (ps : List ℕ) → b < length ps → drop b ps ≡ take (length ps - b - 1) (drop b ps) ++ newest_index ps ∷ []
split_last b ps h =
    let n : ℕ = length ps - b - 1 in
    let l : length (drop b ps) ≤ n + 1 = omega (arith, length-drop b ps) in
    let m : n < length (drop b ps) = omega (arith, length-drop b ps) in
    let k : b + n ≡ length ps - 1 = omega arith in
    sym (take_all (n + 1) (drop b ps) l) ∙ take_more (drop b ps) n 0 m
    ∙ ap (λ p. take n (drop b ps) ++ p ∷ []) (get_or-drop b ps n 0 ∙ ap (λ i. get_or ps i 0) k)

pub newest_first : (kept : List (Option ExplicitChar)) (b : ℕ) (ps : List ℕ) → b < length ps
    → reverse (map (run_at kept) (drop b ps)) ≡ run_at kept (newest_index ps) ∷ older kept b ps
newest_first kept b ps h =
    let qs : List ℕ = take (length ps - b - 1) (drop b ps) in
    ap (λ xs. reverse (map (run_at kept) xs)) (split_last b ps h) ∙ ap reverse (map_push (run_at kept) qs (newest_index ps))
    ∙ reverse-append (map (run_at kept) qs) (run_at kept (newest_index ps) ∷ [])

-- each run of the newest chain begins at its index
run_begins : (kept : List (Option ExplicitChar)) (o : OpenChain) (ps : List ℕ) → IsOpenChain kept o ps → (i : ℕ) → o.begin ≤ i → i < length ps
    → BeginsRun kept o.level (get_or ps i 0)
run_begins kept o ps w i l h =
    let k : o.begin + (i - o.begin) ≡ i = omega arith in
    subst (BeginsRun kept o.level) (get_or-drop o.begin ps (i - o.begin) 0 ∙ ap (λ j. get_or ps j 0) k)
    (w.runs (i - o.begin) 0 (omega (arith, length-drop o.begin ps)))

pub first_begins : (kept : List (Option ExplicitChar)) (o : OpenChain) (ps : List ℕ) → IsOpenChain kept o ps → BeginsRun kept o.level (get_or ps o.begin 0)
first_begins kept o ps w = run_begins kept o ps w o.begin (omega arith) w.begin_within

pub last_begins : (kept : List (Option ExplicitChar)) (o : OpenChain) (ps : List ℕ) → IsOpenChain kept o ps → BeginsRun kept o.level (newest_index ps)
last_begins kept o ps w = let h : o.begin < length ps = w.begin_within in run_begins kept o ps w (length ps - 1) (omega arith) (omega arith)

pub newest_is_open : (kept : List (Option ExplicitChar)) (os rest : List OpenChain) (o : OpenChain) (ps : List ℕ) → os ≡ o ∷ rest → AreOpen kept os ps
    → IsOpenChain kept o ps
newest_is_open kept os rest o ps e a = (subst (λ xs. AreOpen kept xs ps) e a).0

pub ends_below : (kept : List (Option ExplicitChar)) (os rest : List OpenChain) (o : OpenChain) (ps : List ℕ) → os ≡ o ∷ rest → AreOpen kept os ps
    → o.last < length kept
ends_below kept os rest o ps e a =
    let w : IsOpenChain kept o ps = newest_is_open kept os rest o ps e a in
    subst (λ l. l < length kept) w.ends (last_below kept (newest_index ps) (last_begins kept o ps w).within)

-- whether it ends before a run
pub over_is : (cs : List Class) (kept : List (Option ExplicitChar)) (os rest : List OpenChain) (o : OpenChain) (ps : List ℕ) (q : Run) → os ≡ o ∷ rest
    → AreOpen kept os ps → is_over cs (chains_of kept os ps) q ≡ (nat_lt q.level o.level || not (starts_with_initiator (drop o.last cs)))
over_is cs kept os rest o ps q e a =
    let w : IsOpenChain kept o ps = newest_is_open kept os rest o ps e a in
    let b : BeginsRun kept o.level (newest_index ps) = last_begins kept o ps w in
    ap (λ xs. is_over cs (chains_of kept xs ps) q) e ∙ ap (λ c. is_over cs (c ∷ chains_of kept rest (take o.begin ps)) q)
    (newest_first kept o.begin ps w.begin_within)
    ∙ ap (λ l. nat_lt q.level l || not (starts_with_initiator (drop (run_at kept (newest_index ps)).last cs))) b.of_level
    ∙ ap (λ l. nat_lt q.level o.level || not (starts_with_initiator (drop l cs))) w.ends

pub over_higher : (m n : ℕ) (b : Bool) → m < n → nat_lt m n ≡ (nat_lt m n || b)
over_higher m n b h = let t : nat_lt m n ≡ true = grind (arith, nat_tests) in t ∙ sym (ap (λ x. x || b) t)

pub over_not_higher : (m n : ℕ) (b : Bool) → n ≤ m → b ≡ (nat_lt m n || b)
over_not_higher m n b h = let t : nat_lt m n ≡ false = grind (arith, nat_tests) in sym (ap (λ x. x || b) t)

pub initiator_at : (cs : List Class) (k : ℕ) → k < length cs → starts_with_initiator (drop k cs) ≡ is_initiator (get_or cs k L)
initiator_at cs k h = at_drop_more starts_with_initiator cs k L h

-- its sequence
module _ (x : Explicit) (os rest : List OpenChain) (o : OpenChain) (ps : List ℕ) (e : os ≡ o ∷ rest) (a : AreOpen x.kept.items os ps) where
  abbrev kept : List (Option ExplicitChar)
  kept = x.kept.items

  abbrev stacked : OpenRuns
  stacked = record { explicit = x; chains = chains_of x.kept.items os ps }

  w : IsOpenChain x.kept.items o ps
  w = newest_is_open x.kept.items os rest o ps e a

  sequence_is : newest_sequence stacked ≡ sequence_of x.level x.classes.items kept (run_at kept (get_or ps o.begin 0))
      (map (run_at kept) (drop (o.begin + 1) ps))
  sequence_is =
      ap (λ xs. sequence_of_runs x.level x.classes.items kept (reverse (newest (chains_of kept xs ps)))) e
      ∙ ap (sequence_of_runs x.level x.classes.items kept) (reverse-reverse (map (run_at kept) (drop o.begin ps)))
      ∙ ap (λ qs. sequence_of_runs x.level x.classes.items kept (map (run_at kept) qs)) (drop_more ps o.begin 0 w.begin_within)

  pub level_is : o.level ≡ (newest_sequence stacked).level
  level_is = sym (ap (λ (s : RunSequence). s.level) sequence_is ∙ (first_begins kept o ps w).of_level)

  pub sos_is : (r : Run) → r.level ≡ o.level → r.first ≡ get_or ps o.begin 0 → start_class x.level kept r ≡ (newest_sequence stacked).sos
  sos_is r l f =
      let b : BeginsRun kept o.level (get_or ps o.begin 0) = first_begins kept o ps w in
      let q : Run = run_at kept (get_or ps o.begin 0) in
      let m : r.level ≡ q.level = l ∙ sym b.of_level in
      let n : r.first ≡ q.first = f ∙ sym b.here in
      ap (λ k. direction (max k (level_of_first x.level (reverse (take r.first kept))))) m
      ∙ ap (λ k. direction (max q.level (level_of_first x.level (reverse (take k kept))))) n ∙ sym (ap (λ (s : RunSequence). s.sos) sequence_is)

  last_run_map : (p : ℕ) (qs : List ℕ) → last_run (run_at kept p) (map (run_at kept) qs) ≡ run_at kept (get_or (p ∷ qs) (length qs) 0)
  last_run_map p [] = refl
  last_run_map p (q ∷ qs) = last_run_map q qs

  last_is : last_run (run_at kept (get_or ps o.begin 0)) (map (run_at kept) (drop (o.begin + 1) ps)) ≡ run_at kept (newest_index ps)
  last_is =
      let h : o.begin < length ps = w.begin_within in
      let k : o.begin + length (drop (o.begin + 1) ps) ≡ length ps - 1 = omega (arith, length-drop (o.begin + 1) ps) in
      last_run_map (get_or ps o.begin 0) (drop (o.begin + 1) ps)
      ∙ ap (λ qs. run_at kept (get_or qs (length (drop (o.begin + 1) ps)) 0)) (sym (drop_more ps o.begin 0 h))
      ∙ ap (run_at kept) (get_or-drop o.begin ps (length (drop (o.begin + 1) ps)) 0 ∙ ap (λ i. get_or ps i 0) k)

  pub eos_is : (r : Run) → r.level ≡ o.level → r.last ≡ o.last → end_class x.level x.classes.items kept r ≡ (newest_sequence stacked).eos
  eos_is r l f =
      let b : BeginsRun kept o.level (newest_index ps) = last_begins kept o ps w in
      let q : Run = run_at kept (newest_index ps) in
      let m : r.level ≡ q.level = l ∙ sym b.of_level in
      let n : r.last ≡ q.last = f ∙ sym w.ends in
      ap (λ k. direction (max k (level_after x.level x.classes.items kept r.last))) m
      ∙ ap (λ k. direction (max q.level (level_after x.level x.classes.items kept k))) n ∙ ap (end_class x.level x.classes.items kept) (sym last_is)
      ∙ sym (ap (λ (s : RunSequence). s.eos) sequence_is)

  walked_all : (qs : List ℕ) → All (BeginsRun kept o.level) qs → chain_indexes kept (map (run_at kept) qs) ≡ indexes_from o.level kept qs
  walked_all [] h = refl
  walked_all (q ∷ qs) h =
      ap (λ xs. xs ++ chain_indexes kept (map (run_at kept) qs)) (indexes_walked kept o.level q (All-head (BeginsRun kept o.level) q qs h))
      ∙ ap (λ ys. level_indexes o.level q (drop q kept) ++ ys) (walked_all qs (All-tail (BeginsRun kept o.level) q qs h))

  pub indexes_is : indexes_from o.level kept (drop o.begin ps) ≡ (newest_sequence stacked).indexes
  indexes_is =
      sym (ap (λ (s : RunSequence). s.indexes) sequence_is ∙ ap (λ qs. chain_indexes kept (map (run_at kept) qs)) (sym (drop_more ps o.begin 0 w.begin_within))
      ∙ walked_all (drop o.begin ps) w.runs)
