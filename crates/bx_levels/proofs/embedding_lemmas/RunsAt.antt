-- The run that begins at an index, with one more character.
use Rattle.std.proofs.Common.{◌≡◌, ◌≢◌, ◌<◌, ◌≤◌, ◌+◌, ◌∙◌, ℕ, List, [], ◌∷◌, length, get_or, drop, refl, ap, sym, arith, Bool, true}
use Rattle.std.proofs.Common.{false, Option, Some, None}
use Rattle.std.specs.Prelude.{◌==◌}
use Rattle.std.proofs.lemmas.Bool.Decides.{nat_tests}
use Rattle.std.proofs.lemmas.List.{at_drop_more, at_drop_all}
use Rattle.bx_levels.specs.declared.embedding.entry.ExplicitChar.{ExplicitChar}
use Rattle.bx_levels.specs.declared.embedding.runs.Run.{Run}
use Rattle.bx_levels.specs.embedding.CharLevel.{HasLevel}
use Rattle.bx_levels.specs.embedding.Sequences.{run, join_run, runs_from}
use Rattle.bx_levels.proofs.embedding_lemmas.LevelRuns.{runs_some}

-- a run that reaches the index `last`, before the runs after it
abbrev pub extend : ℕ → ℕ → ℕ → List Run → List Run
extend level first last [] = run level first last ∷ []
extend level first last (r ∷ rs) = elim (r.level == level) [ true ↦ run level first r.last ∷ rs | false ↦ run level first last ∷ r ∷ rs ]

extend_at : (level f last : ℕ) (r : Run) (rs : List Run) (b : Bool) → (r.level == level) ≡ b
    → extend level f last (r ∷ rs) ≡ elim b [ true ↦ run level f r.last ∷ rs | false ↦ run level f last ∷ r ∷ rs ]
extend_at level f last r rs true e = rw (e, extend)
extend_at level f last r rs false e = rw (e, extend)

join_at : (k level : ℕ) (r : Run) (rs : List Run) (b : Bool) → (r.level == level) ≡ b
    → join_run k level (r ∷ rs) ≡ elim b [ true ↦ run level k r.last ∷ rs | false ↦ run level k k ∷ r ∷ rs ]
join_at k level r rs true e = rw (e, join_run)
join_at k level r rs false e = rw (e, join_run)

same : (n : ℕ) → (n == n) ≡ true
same n = grind (arith, nat_tests)

differ : (m n : ℕ) → m ≢ n → (m == n) ≡ false
differ m n h = grind (arith, nat_tests)

join_is : (k level : ℕ) (rs : List Run) → join_run k level rs ≡ extend level k k rs
join_is k level [] = refl
join_is k level (r ∷ rs) = refl

-- a character of the level of the run, and one of another level
extend_join : (level f last k : ℕ) (rs : List Run) → extend level f last (join_run k level rs) ≡ extend level f k rs
extend_join level f last k [] = extend_at level f last (run level k k) [] true (same level)
extend_join level f last k (r ∷ rs) =
    elim (r.level == level) as (λ b. (r.level == level) ≡ b → extend level f last (join_run k level (r ∷ rs)) ≡ extend level f k (r ∷ rs)) [
      | true ↦ λ t. ap (extend level f last) (join_at k level r rs true t) ∙ extend_at level f last (run level k r.last) rs true (same level)
          ∙ sym (extend_at level f k r rs true t)
      | false ↦ λ t. ap (extend level f last) (join_at k level r rs false t) ∙ extend_at level f last (run level k k) (r ∷ rs) true (same level)
          ∙ sym (extend_at level f k r rs false t)
    ] refl

extend_other : (level f last k other : ℕ) (rs : List Run) → other ≢ level → extend level f last (join_run k other rs) ≡ run level f last ∷ join_run k other rs
extend_other level f last k other [] h = extend_at level f last (run other k k) [] false (differ other level h)
extend_other level f last k other (r ∷ rs) h =
    elim (r.level == other) as (λ b. (r.level == other) ≡ b → extend level f last (join_run k other (r ∷ rs)) ≡ run level f last ∷ join_run k other (r ∷ rs)) [
      | true ↦ λ t. ap (extend level f last) (join_at k other r rs true t) ∙ extend_at level f last (run other k r.last) rs false (differ other level h)
          ∙ sym (ap (λ qs. run level f last ∷ qs) (join_at k other r rs true t))
      | false ↦ λ t. ap (extend level f last) (join_at k other r rs false t) ∙ extend_at level f last (run other k k) (r ∷ rs) false (differ other level h)
          ∙ sym (ap (λ qs. run level f last ∷ qs) (join_at k other r rs false t))
    ] refl

-- the same in a text: the first character of a run, one more of it, and where it ends
begun_by : (k level : ℕ) (o : Option ExplicitChar) (g : List (Option ExplicitChar)) → HasLevel level o → runs_from k (o ∷ g) ≡ extend level k k (runs_from (k + 1) g)
begun_by k level None g h = absurd h
begun_by k level (Some c) g h = ap (λ l. join_run k l (runs_from (k + 1) g)) h ∙ join_is k level (runs_from (k + 1) g)

pub begins_at : (g : List (Option ExplicitChar)) (k level : ℕ) → k < length g → HasLevel level (get_or g k None)
    → runs_from k (drop k g) ≡ extend level k k (runs_from (k + 1) (drop (k + 1) g))
begins_at g k level h l = at_drop_more (runs_from k) g k None h ∙ begun_by k level (get_or g k None) (drop (k + 1) g) l

pub goes_on : (g : List (Option ExplicitChar)) (k level f last : ℕ) (c : ExplicitChar) → k < length g → get_or g k None ≡ Some c → c.level ≡ level
    → extend level f last (runs_from k (drop k g)) ≡ extend level f k (runs_from (k + 1) (drop (k + 1) g))
goes_on g k level f last c h e s =
    ap (extend level f last) (runs_some g k c h e ∙ ap (λ l. join_run k l (runs_from (k + 1) (drop (k + 1) g))) s)
    ∙ extend_join level f last k (runs_from (k + 1) (drop (k + 1) g))

pub ends_before : (g : List (Option ExplicitChar)) (k level f last : ℕ) (c : ExplicitChar) → k < length g → get_or g k None ≡ Some c → c.level ≢ level
    → extend level f last (runs_from k (drop k g)) ≡ run level f last ∷ runs_from k (drop k g)
ends_before g k level f last c h e s =
    let a : runs_from k (drop k g) ≡ join_run k c.level (runs_from (k + 1) (drop (k + 1) g)) = runs_some g k c h e in
    ap (extend level f last) a ∙ extend_other level f last k c.level (runs_from (k + 1) (drop (k + 1) g)) s ∙ sym (ap (λ qs. run level f last ∷ qs) a)

pub no_more : (g : List (Option ExplicitChar)) (k : ℕ) → length g ≤ k → runs_from k (drop k g) ≡ []
no_more g k h = at_drop_all (runs_from k) g k h

pub ends_last : (g : List (Option ExplicitChar)) (k level f last : ℕ) → length g ≤ k
    → extend level f last (runs_from k (drop k g)) ≡ run level f last ∷ runs_from k (drop k g)
ends_last g k level f last h = ap (extend level f last) (no_more g k h) ∙ sym (ap (λ qs. run level f last ∷ qs) (no_more g k h))

-- nothing is kept before the first character that is
pub level_of_some : (o : Option ExplicitChar) (c : ExplicitChar) → o ≡ Some c → HasLevel c.level o
level_of_some None c e = absurd (cc)
level_of_some (Some d) c e = cc
