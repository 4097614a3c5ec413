-- A sort by first index gives the sequences in their order, whatever order they came in.
use Rattle.std.proofs.Common.{◌≡◌, ◌<◌, ◌≤◌, ◌+◌, ◌-◌, ◌∙◌, ◌==◌, ℕ, zero, suc, List, [], ◌∷◌, ◌++◌, length, get_or, drop, take, refl, ap, sym, subst, arith}
use Rattle.std.proofs.Common.{Bool, true, false, Option, Some, None, nat_lt, ltb-true, ltb-false, lt-ltb, le-ltb}
use Rattle.std.specs.Prelude.{All, sum_by}
use Rattle.std.specs.List.Sorted.{IsPermutation, IsNonDecreasingBy}
use Rattle.std.proofs.lemmas.Bool.Decides.{nat_tests}
use Rattle.std.proofs.lemmas.List.Sorted.{IsPermutation-refl, IsPermutation-sym, IsPermutation-trans, IsPermutation-cons, IsPermutation-middle, All-permutation}
use Rattle.std.proofs.lemmas.List.Sorted.{sum_by-IsPermutation}
use Rattle.std.proofs.lemmas.List.Sums.{sum_by-cons}
use Rattle.std.proofs.lemmas.List.Elements.{All-cons, All-nil, All-head, All-tail}
use Rattle.bx_ucd.specs.declared.class.Class.{Class}
use Rattle.bx_ucd.specs.declared.class.Class.TheVariants.{L}
use Rattle.bx_levels.specs.declared.embedding.entry.ExplicitChar.{ExplicitChar}
use Rattle.bx_levels.specs.declared.embedding.runs.Run.{Run}
use Rattle.bx_levels.specs.embedding.Sequences.{run, join_run, runs_from, kept_indexes, indexes_of, RunSequence, followers, follows}
use Rattle.bx_levels.proofs.embedding_lemmas.LevelRuns.{AreRising, runs_within, all_rising}
use Rattle.bx_levels.specs.embedding.Sequences.{sequence_of, sequences_from, sequences, chain_indexes}
use Rattle.bx_levels.specs.embedding.Walk.{IsRunWithin, AreGiven}
use Rattle.bx_levels.proofs.embedding_lemmas.Bounds.{sequences_each, followers_each}

-- the first index of a sequence, or 0
abbrev pub first_index : RunSequence → ℕ
first_index s = get_or s.indexes 0 0

-- each is after the ones before it
abbrev AreBehind : List RunSequence → Type 0
AreBehind [] = Unit {0}
AreBehind (s ∷ ss) = All (λ (u : RunSequence). first_index s < first_index u) ss × AreBehind ss

-- the first index of a run is one of its indexes
abbrev BeginsIt : List (Option ExplicitChar) → Run → Type 0
BeginsIt kept r = (rest : List ℕ) × (indexes_of kept r ≡ r.first ∷ rest)

begins_it : (kept g : List (Option ExplicitChar)) (level k last : ℕ) (c : ExplicitChar) → drop k kept ≡ Some c ∷ g → k ≤ last → BeginsIt kept (run level k last)
begins_it kept g level k last c e h =
    let m : last + 1 - k ≡ suc (last - k) = omega arith in
    (kept_indexes (k + 1) (take (last - k) g), ap (λ n. kept_indexes k (take n (drop k kept))) m ∙ ap (λ xs. kept_indexes k (take (suc (last - k)) xs)) e)

pub drop_on : (kept g : List (Option ExplicitChar)) (k : ℕ) (o : Option ExplicitChar) → drop k kept ≡ o ∷ g → drop (k + 1) kept ≡ g
drop_on [] g zero o e = absurd (cc)
drop_on [] g (suc k) o e = absurd (cc)
drop_on (x ∷ kept) g zero o e = cc
drop_on (x ∷ kept) g (suc k) o e = let n : suc k + 1 ≡ suc (k + 1) = omega arith in ap (λ m. drop m (x ∷ kept)) n ∙ drop_on kept g k o e

begin_join : (kept g : List (Option ExplicitChar)) (k top : ℕ) (c : ExplicitChar) (rs : List Run) → drop k kept ≡ Some c ∷ g → All (IsRunWithin (k + 1) top) rs
    → All (BeginsIt kept) rs → All (BeginsIt kept) (join_run k c.level rs)
begin_join kept g k top c [] e w a = All-cons (BeginsIt kept) (run c.level k k) [] (begins_it kept g c.level k k c e (omega arith)) (All-nil (BeginsIt kept))
begin_join kept g k top c (r ∷ rs) e w a =
    let v : IsRunWithin (k + 1) top r = All-head (IsRunWithin (k + 1) top) r rs w in
    elim (r.level == c.level) as (λ b. All (BeginsIt kept) (elim b as (λ x. List Run) [
      | true ↦ run c.level k r.last ∷ rs
      | false ↦ run c.level k k ∷ r ∷ rs
    ])) [
      | true ↦ All-cons (BeginsIt kept) (run c.level k r.last) rs (begins_it kept g c.level k r.last c e (omega (arith, v.starts, v.ordered)))
          (All-tail (BeginsIt kept) r rs a)
      | false ↦ All-cons (BeginsIt kept) (run c.level k k) (r ∷ rs) (begins_it kept g c.level k k c e (omega arith)) a
    ]

begin_all : (kept g : List (Option ExplicitChar)) (k : ℕ) → drop k kept ≡ g → All (BeginsIt kept) (runs_from k g)
begin_all kept [] k e = All-nil (BeginsIt kept)
begin_all kept (None ∷ g) k e = begin_all kept g (k + 1) (drop_on kept g k None e)
begin_all kept (Some c ∷ g) k e = begin_join kept g k (k + 1 + length g) c (runs_from (k + 1) g) e (runs_within (k + 1) g)
    (begin_all kept g (k + 1) (drop_on kept g k (Some c) e))

module _ (paragraph : ℕ) (cs : List Class) (kept : List (Option ExplicitChar)) where
  first_of_sequence : (r : Run) (fs : List Run) → BeginsIt kept r → first_index (sequence_of paragraph cs kept r fs) ≡ r.first
  first_of_sequence r fs b = ap (λ ps. get_or (ps ++ chain_indexes kept fs) 0 0) b.1

  abbrev IsBeyond : ℕ → Run → Type 0
  IsBeyond low r = (low < r.first) × BeginsIt kept r

  beyond : (low : ℕ) (before rs : List Run) → All (IsBeyond low) rs
      → All (λ (s : RunSequence). low < first_index s) (sequences_from paragraph cs kept before rs)
  beyond low before rs a = sequences_each paragraph cs kept (λ (s : RunSequence). low < first_index s) (IsBeyond low)
      (λ r fs h t. let e : first_index (sequence_of paragraph cs kept r fs)
      ≡ r.first = first_of_sequence r fs h.1 in let l : low < r.first = h.0 in omega arith) (followers_each cs (IsBeyond low)) before rs a

  behind : (before rs : List Run) → AreRising rs → All (BeginsIt kept) rs → AreBehind (sequences_from paragraph cs kept before rs)
  behind before [] h a = tt
  behind before (r ∷ rs) h a =
      let t : All (BeginsIt kept) rs = All-tail (BeginsIt kept) r rs a in
      let s : RunSequence = sequence_of paragraph cs kept r (followers cs r rs) in
      let rest : List RunSequence = sequences_from paragraph cs kept (before ++ r ∷ []) rs in
      let ih : AreBehind rest = behind (before ++ r ∷ []) rs h.2 t in
      let f : first_index s ≡ r.first = first_of_sequence r (followers cs r rs) (All-head (BeginsIt kept) r rs a) in
      let ordered : r.first ≤ r.last = h.0 in
      let far : All (IsBeyond (first_index s)) rs = λ k d i. let l : r.last < (get_or rs k d).first = h.1 k d i in (omega arith, t k d i) in
      elim (follows cs before r) as (λ b. AreBehind (elim b as (λ x. List RunSequence) [ true ↦ rest | false ↦ s ∷ rest ])) [
        | true ↦ ih
        | false ↦ (beyond (first_index s) (before ++ r ∷ []) rs far, ih)
      ]

  pub all_behind : AreBehind (sequences paragraph cs kept)
  all_behind = behind [] (runs_from 0 kept) (all_rising kept) (begin_all kept kept 0 refl)

-- given sequences are a permutation of all
pub given_permutes : (given all : List RunSequence) → AreGiven given all → IsPermutation given all
given_permutes [] all a = subst (IsPermutation []) (sym a) (IsPermutation-refl [])
given_permutes (s ∷ given) all a =
    let before : List RunSequence = a.0 in
    let after : List RunSequence = a.1 in
    let e : all ≡ before ++ s ∷ after = a.2 in
    let rest : IsPermutation (s ∷ given) (s ∷ (before ++ after)) = IsPermutation-cons s given (before ++ after) (given_permutes given (before ++ after) a.4) in
    let middle : IsPermutation (s ∷ (before ++ after)) (before ++ s ∷ after) =
    IsPermutation-sym (before ++ s ∷ after) (s ∷ (before ++ after)) (IsPermutation-middle before s after) in
    subst (IsPermutation (s ∷ given)) (sym e) (IsPermutation-trans (s ∷ given) (s ∷ (before ++ after)) (before ++ s ∷ after) rest middle)

-- the sequence of a list that begins at an index
no_sequence : RunSequence
no_sequence = record { indexes = []; level = 0; sos = L; eos = L }

abbrev sequence_from : List RunSequence → ℕ → RunSequence
sequence_from [] p = no_sequence
sequence_from (s ∷ ss) p = elim (first_index s == p) [ true ↦ s | false ↦ sequence_from ss p ]

from_at : (s : RunSequence) (ss : List RunSequence) (p : ℕ) (b : Bool) → (first_index s == p) ≡ b
    → sequence_from (s ∷ ss) p ≡ elim b [ true ↦ s | false ↦ sequence_from ss p ]
from_at s ss p true e = rw (e, sequence_from)
from_at s ss p false e = rw (e, sequence_from)

abbrev IsFound : List RunSequence → RunSequence → Type 0
IsFound all s = s ≡ sequence_from all (first_index s)

found_each : (all : List RunSequence) → AreBehind all → All (IsFound all) all
found_each [] h = All-nil (IsFound [])
found_each (s ∷ ss) h =
    let here : (first_index s == first_index s) ≡ true = grind (arith, nat_tests) in
    All-cons (IsFound (s ∷ ss)) s ss (sym (from_at s ss (first_index s) true here)) (λ k d i.
    let u : RunSequence = get_or ss k d in
    let l : first_index s < first_index u = h.0 k d i in
    let other : (first_index s == first_index u) ≡ false = grind (arith, nat_tests) in
    found_each ss h.1 k d i ∙ sym (from_at s ss (first_index u) false other))

-- a sum over a list, from its head on
abbrev total : (RunSequence → ℕ) → List RunSequence → ℕ
total f [] = 0
total f (s ∷ ss) = f s + total f ss

total_is : (f : RunSequence → ℕ) (ss : List RunSequence) → total f ss ≡ sum_by f ss
total_is f [] = refl
total_is f (s ∷ ss) = ap (λ n. f s + n) (total_is f ss) ∙ sym (sum_by-cons f s ss)

-- how many begin at an index or before it
abbrev low_count : ℕ → RunSequence → ℕ
low_count k s = elim (nat_lt k (first_index s)) [ true ↦ 0 | false ↦ 1 ]

none_low : (k : ℕ) (ss : List RunSequence) → All (λ (s : RunSequence). k < first_index s) ss → total (low_count k) ss ≡ 0
none_low k [] a = refl
none_low k (s ∷ ss) a =
    let t : nat_lt k (first_index s) ≡ true = lt-ltb k (first_index s) (All-head (λ (u : RunSequence). k < first_index u) s ss a) in
    let h : low_count k s ≡ 0 = ap (λ b. elim b as (λ x. ℕ) [ true ↦ 0 | false ↦ 1 ]) t in
    let r : total (low_count k) ss ≡ 0 = none_low k ss (All-tail (λ (u : RunSequence). k < first_index u) s ss a) in
    omega arith

some_low : (s : RunSequence) (ss : List RunSequence) → 0 < total (low_count (first_index s)) (s ∷ ss)
some_low s ss =
    let t : nat_lt (first_index s) (first_index s) ≡ false = le-ltb (first_index s) (first_index s) (omega arith) in
    let h : low_count (first_index s) s ≡ 1 = ap (λ b. elim b as (λ x. ℕ) [ true ↦ 0 | false ↦ 1 ]) t in
    omega arith

abbrev AreAlike : List RunSequence → List RunSequence → Type 0
AreAlike xs ys = (f : RunSequence → ℕ) → total f xs ≡ total f ys

-- two heads of lists in order that are alike
not_lower : (x y : RunSequence) (xs ys : List RunSequence) → AreAlike (x ∷ xs) (y ∷ ys) → All (λ (s : RunSequence). first_index y ≤ first_index s) ys
    → first_index y ≤ first_index x
not_lower x y xs ys h a = elim (nat_lt (first_index x) (first_index y)) as (λ b. nat_lt (first_index x) (first_index y) ≡ b → first_index y ≤ first_index x) [
  | false ↦ λ e. ltb-false (first_index x) (first_index y) e
  | true ↦ λ e.
      let k : ℕ = first_index x in
      let l : k < first_index y = ltb-true k (first_index y) e in
      let all : All (λ (s : RunSequence). k < first_index s) (y ∷ ys) =
      All-cons (λ (s : RunSequence). k < first_index s) y ys l (λ i d j. let m : first_index y ≤ first_index (get_or ys i d) = a i d j in omega arith) in
      let none : total (low_count k) (y ∷ ys) ≡ 0 = none_low k (y ∷ ys) all in
      let some : 0 < total (low_count k) (x ∷ xs) = some_low x xs in
      let same : total (low_count k) (x ∷ xs) ≡ total (low_count k) (y ∷ ys) = h (low_count k) in
      absurd (omega arith)
] refl

unique : (all xs ys : List RunSequence) → All (IsFound all) xs → All (IsFound all) ys → IsNonDecreasingBy first_index xs → AreBehind ys → AreAlike xs ys
    → xs ≡ ys
unique all [] [] p q n b h = refl
unique all [] (y ∷ ys) p q n b h = let e : 0 ≡ 1 + total (λ s. 1) ys = h (λ s. 1) in absurd (omega arith)
unique all (x ∷ xs) [] p q n b h = let e : 1 + total (λ s. 1) xs ≡ 0 = h (λ s. 1) in absurd (omega arith)
unique all (x ∷ xs) (y ∷ ys) p q n b h =
    let up : All (λ (s : RunSequence). first_index x ≤ first_index s) xs = λ k d i. n 0 (suc k) d (omega arith) (omega arith) in
    let behind : All (λ (s : RunSequence). first_index y ≤ first_index s) ys = λ k d i. let l : first_index y < first_index (get_or ys k d) =
    b.0 k d i in omega arith in
    let low : first_index y ≤ first_index x = not_lower x y xs ys h behind in
    let high : first_index x ≤ first_index y = not_lower y x ys xs (λ f. sym (h f)) up in
    let same : first_index x ≡ first_index y = omega arith in
    let e : x ≡ y = All-head (IsFound all) x xs p ∙ ap (sequence_from all) same ∙ sym (All-head (IsFound all) y ys q) in
    let rest : AreAlike xs ys = λ f. let one : f x ≡ f y = ap f e in let both : f x + total f xs ≡ f y + total f ys = h f in omega arith in
    let later : IsNonDecreasingBy first_index xs = λ i j d l m. n (suc i) (suc j) d (omega arith) (omega arith) in
    let tails : xs ≡ ys = unique all xs ys (All-tail (IsFound all) x xs p) (All-tail (IsFound all) y ys q) later b.1 rest in
    ap (λ s. s ∷ xs) e ∙ ap (λ ss. y ∷ ss) tails

-- a sort of the sequences that are given
pub sorted_is_sequences : (paragraph : ℕ) (cs : List Class) (kept : List (Option ExplicitChar)) (given found : List RunSequence)
    → AreGiven given (sequences paragraph cs kept)
    → IsPermutation given found → IsNonDecreasingBy first_index found → found ≡ sequences paragraph cs kept
sorted_is_sequences paragraph cs kept given found g p n =
    let all : List RunSequence = sequences paragraph cs kept in
    let b : AreBehind all = all_behind paragraph cs kept in
    let back : IsPermutation all found = IsPermutation-trans all given found (IsPermutation-sym given all (given_permutes given all g)) p in
    let each : All (IsFound all) all = found_each all b in
    unique all found all (All-permutation (IsFound all) all found back each) each n b
    (λ f. total_is f found ∙ sum_by-IsPermutation f all found back ∙ sym (total_is f all))
