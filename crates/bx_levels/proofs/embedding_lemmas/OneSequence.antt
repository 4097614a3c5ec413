-- If all characters are kept at the paragraph level, they form one sequence, over all indexes.
use Rattle.std.proofs.Common.{◌≡◌, ◌≤◌, ◌+◌, ◌-◌, ◌∙◌, ℕ, zero, suc, List, [], ◌∷◌, ◌++◌, length, drop, map, max, refl, ap, arith, true}
use Rattle.std.proofs.Common.{false, Option, Some, append-nil}
use Rattle.std.specs.Prelude.{◌==◌}
use Rattle.std.proofs.lemmas.Bool.Decides.{nat_tests}
use Rattle.std.proofs.lemmas.List.{drop_all, take_all}
use Rattle.bx_ucd.specs.declared.class.Class.{Class}
use Rattle.bx_levels.specs.declared.embedding.entry.ExplicitChar.{ExplicitChar}
use Rattle.bx_levels.specs.declared.embedding.runs.Run.{Run}
use Rattle.bx_levels.specs.embedding.Sequences.{run, join_run, runs_from, kept_indexes, indexes_of, RunSequence, direction, level_of_first}
use Rattle.bx_levels.specs.embedding.Sequences.{level_after, starts_with_initiator, sequences, sequences_from}

-- a class kept at a level
abbrev pub kept_as : ℕ → Class → Option ExplicitChar
kept_as p c = Some (record { level = p; class = c })

join_same : (p k m e : ℕ) → join_run k p (run p m e ∷ []) ≡ run p k e ∷ []
join_same p k m e =
    let same : (p == p) ≡ true = grind (arith, nat_tests) in
    ap (λ b. elim b as (λ x. List Run) [ true ↦ run p k e ∷ [] | false ↦ run p k k ∷ run p m e ∷ [] ]) same

runs_plain : (p k : ℕ) (c : Class) (cs : List Class) → runs_from k (map (kept_as p) (c ∷ cs)) ≡ run p k (k + length cs) ∷ []
runs_plain p k c [] = let e : k ≡ k + 0 = omega arith in ap (λ n. run p k n ∷ []) e
runs_plain p k c (d ∷ cs) =
    let e : k + 1 + length cs ≡ k + suc (length cs) = omega arith in
    ap (join_run k p) (runs_plain p (k + 1) d cs) ∙ join_same p k (k + 1) (k + 1 + length cs) ∙ ap (λ n. run p k n ∷ []) e

-- the indexes from `k` on
abbrev pub indexes_from : ℕ → ℕ → List ℕ
indexes_from k zero = []
indexes_from k (suc n) = k ∷ indexes_from (k + 1) n

kept_plain : (p k : ℕ) (cs : List Class) → kept_indexes k (map (kept_as p) cs) ≡ indexes_from k (length cs)
kept_plain p k [] = refl
kept_plain p k (c ∷ cs) = ap (λ ps. k ∷ ps) (kept_plain p (k + 1) cs)

pub kept_length : (p : ℕ) (cs : List Class) → length (map (kept_as p) cs) ≡ length cs
kept_length p [] = refl
kept_length p (c ∷ cs) = ap (λ n. suc n) (kept_length p cs)

indexes_plain : (p : ℕ) (c : Class) (cs : List Class) → indexes_of (map (kept_as p) (c ∷ cs)) (run p 0 (0 + length cs)) ≡ indexes_from 0 (length (c ∷ cs))
indexes_plain p c cs =
    let l : length (map (kept_as p) (c ∷ cs)) ≡ length (c ∷ cs) = kept_length p (c ∷ cs) in
    let h : length (map (kept_as p) (c ∷ cs)) ≤ 0 + length cs + 1 - 0 = omega arith in
    ap (kept_indexes 0) (take_all (0 + length cs + 1 - 0) (map (kept_as p) (c ∷ cs)) h) ∙ kept_plain p 0 (c ∷ cs)

after_plain : (p : ℕ) (cs : List Class) (kept : List (Option ExplicitChar)) (k : ℕ) → length kept ≤ k + 1 → level_after p cs kept k ≡ p
after_plain p cs kept k h =
    let e : level_of_first p (drop (k + 1) kept) ≡ p = ap (level_of_first p) (drop_all (k + 1) kept h) in
    elim (starts_with_initiator (drop k cs)) as (λ b. elim b as (λ x. ℕ) [ true ↦ p | false ↦ level_of_first p (drop (k + 1) kept) ] ≡ p)
    [ true ↦ refl | false ↦ e ]

-- a sequence over all indexes, of the paragraph level
abbrev pub whole : ℕ → ℕ → RunSequence
whole p n = record { indexes = indexes_from 0 n; level = p; sos = direction p; eos = direction p }

made_whole : (p n : ℕ) (ps : List ℕ) (m : ℕ) → ps ≡ indexes_from 0 n → m ≡ p
    → record { indexes = ps; level = p; sos = direction (max p p); eos = direction (max p m) } ≡ whole p n
made_whole p n ps m q e =
    let same : max p p ≡ p = omega arith in
    let make : List ℕ → ℕ → ℕ → RunSequence = λ x y z. record { indexes = x; level = p; sos = direction y; eos = direction z } in
    ap (λ x. make x (max p p) (max p m)) q ∙ ap (λ y. make (indexes_from 0 n) y (max p m)) same ∙ ap (make (indexes_from 0 n) p) (ap (max p) e ∙ same)

pub sequences_plain : (p : ℕ) (c : Class) (cs : List Class) → sequences p (c ∷ cs) (map (kept_as p) (c ∷ cs)) ≡ whole p (length (c ∷ cs)) ∷ []
sequences_plain p c cs =
    let kept : List (Option ExplicitChar) = map (kept_as p) (c ∷ cs) in
    let r : Run = run p 0 (0 + length cs) in
    let l : length kept ≡ length (c ∷ cs) = kept_length p (c ∷ cs) in
    let a : level_after p (c ∷ cs) kept (0 + length cs) ≡ p = after_plain p (c ∷ cs) kept (0 + length cs) (omega arith) in
    ap (sequences_from p (c ∷ cs) kept []) (runs_plain p 0 c cs)
    ∙ ap (λ s. s ∷ []) (made_whole p (length (c ∷ cs)) (indexes_of kept r ++ []) (level_after p (c ∷ cs) kept (0 + length cs))
    (append-nil (indexes_of kept r) ∙ indexes_plain p c cs) a)
