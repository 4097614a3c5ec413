-- A run that ends in an initiator is joined to the first later run that is not above it, if that one has its level.
use Rattle.std.proofs.Common.{◌≡◌, ◌<◌, ◌≤◌, ◌+◌, ◌∙◌, ℕ, zero, suc, List, [], ◌∷◌, ◌++◌, drop, refl, ap, sym, subst, arith, Bool, true, false, Option, Some}
use Rattle.std.proofs.Common.{None, append_assoc}
use Rattle.std.specs.Prelude.{◌==◌, ◌&&◌}
use Rattle.std.proofs.lemmas.Bool.Decides.{nat_tests}
use Rattle.bx_ucd.specs.declared.class.Class.{Class}
use Rattle.bx_ucd.specs.declared.class.Class.TheVariants.{LRI, RLI, FSI}
use Rattle.bx_ucd.specs.Class.{is_initiator}
use Rattle.bx_levels.specs.embedding.Explicit.{role_of, start, top, forced_class, is_valid, isolate, even_above, odd_above, first_above}
use Rattle.bx_levels.specs.embedding.Explicit.{next_state, kept_by, explicit_from, explicit_levels}
use Rattle.bx_levels.specs.declared.embedding.entry.ExplicitChar.{ExplicitChar}
use Rattle.bx_levels.specs.declared.embedding.entry.Override.TheVariants.{Neutral}
use Rattle.bx_levels.specs.declared.embedding.runs.Run.{Run}
use Rattle.bx_levels.specs.declared.embedding.state.State.{State}
use Rattle.bx_levels.specs.embedding.Stack.{entry}
use Rattle.bx_levels.specs.embedding.ParagraphLevel.{isolate_level, before_pdi, match_after}
use Rattle.bx_levels.specs.embedding.Sequences.{runs_from, is_joined, starts_with_initiator}
use Rattle.bx_levels.proofs.embedding_lemmas.LevelRuns.{AreRising, runs_rising}
use Rattle.bx_levels.proofs.embedding_lemmas.FirstLow.{all_above, is_resumed, resumed_run, resumed_runs, begins_at, first_is}
use Rattle.bx_levels.proofs.embedding_lemmas.Scan.{further}
use Rattle.bx_levels.proofs.embedding_lemmas.Steps.{state_at, first_higher}
use Rattle.bx_levels.proofs.embedding_lemmas.RunEnd.{IsUnlike, EndsAt, run_ends}
use Rattle.bx_levels.proofs.embedding_lemmas.Inside.{IsInside, out_at}
use Rattle.bx_levels.proofs.embedding_lemmas.OverflowIsolate.{no_other_run}

-- the index of a match, from the text before it
match_further : (i : ℕ) (b : Option ℕ) → further (i + 1) b ≡ elim b [ None ↦ None | Some k ↦ Some (i + 1 + k) ]
match_further i None = refl
match_further i (Some k) = refl

abbrev kept : ℕ → Class → ExplicitChar
kept level class = record { level = level; class = class }

-- the level of a kept character
kept_level : (level : ℕ) (class : Class) (k : ExplicitChar) → Some (kept level class) ≡ Some k → level ≡ k.level
kept_level level class k e = let f : kept level class ≡ k = cc in ap (λ (x : ExplicitChar). x.level) f

-- the runs after `t` are the runs of a state; `q` is one of them
module _ (t : Run) (between : List Run) (q : Run) (after : List Run) where
  abbrev rest : List Run
  rest = between ++ q ∷ after

  abbrev is_first : Bool
  is_first = (q.level == t.level) && all_above t.level between

  rising : (ks : List (Option ExplicitChar)) → runs_from (t.last + 1) ks ≡ rest → AreRising rest
  rising ks e = subst AreRising e (runs_rising (t.last + 1) ks)

  -- in an isolate of the level of `t`
  joined_inside : (s : State) (cs : List Class) → IsInside t.level 1 s → runs_from (t.last + 1) (explicit_from s cs) ≡ rest
      → begins_at (further (t.last + 1) (before_pdi 1 cs)) q.first ≡ is_first
  joined_inside s cs w e =
      let ks : List (Option ExplicitChar) = explicit_from s cs in
      let a : resumed_run t.level rest ≡ further (t.last + 1) (before_pdi 1 cs) = ap (resumed_run t.level) (sym e) ∙ resumed_runs t.level (t.last + 1) ks
      ∙ ap (further (t.last + 1)) (out_at cs t.level 0 s w) in
      ap (λ o. begins_at o q.first) (sym a) ∙ first_is t.level between q after (rising ks e)

  -- after an initiator
  module _ (s : State) (level : ℕ) (cs : List Class) (higher : (top s).level < level) (same : (top s).level ≡ t.level) where
    valid_inside : is_valid s level ≡ true → IsInside t.level 1 (record s { stack = entry level Neutral true ∷ s.stack; valid_isolates = s.valid_isolates + 1 })
    valid_inside e =
        let o : s.overflow_isolates ≤ 0 = grind (arith, nat_tests) in
        record { inner = 0; under = (omega arith, same); counted = omega arith; valid = omega arith }

    joined_isolate : runs_from (t.last + 1) (explicit_from (isolate s level) cs) ≡ rest → IsUnlike t.level rest
        → begins_at (further (t.last + 1) (before_pdi 1 cs)) q.first ≡ is_first
    joined_isolate = elim (is_valid s level) as (λ b. is_valid s level ≡ b
        → runs_from (t.last + 1) (explicit_from
        (elim b as (λ x. State) [
          | true ↦ record s { stack = entry level Neutral true ∷ s.stack; valid_isolates = s.valid_isolates + 1 }
          | false ↦ record s
              { overflow_isolates = s.overflow_isolates + 1 }
        ]) cs) ≡ rest → IsUnlike t.level rest
        → begins_at (further (t.last + 1) (before_pdi 1 cs)) q.first ≡ is_first) [
          | true ↦ λ v e u. joined_inside (record s { stack = entry level Neutral true ∷ s.stack; valid_isolates = s.valid_isolates + 1 }) cs (valid_inside v) e
          | false ↦ λ v e u. absurd (no_other_run (record s { overflow_isolates = s.overflow_isolates + 1 }) s.overflow_isolates t.level
              (t.last + 1) cs between q
              after (omega arith) same e u)
        ] refl

  -- the runs after `t` are the runs of the text after a character that is kept at its level
  module _ (s : State) (char : ExplicitChar) (ks : List (Option ExplicitChar)) (same : char.level ≡ t.level) (later : runs_from (t.last + 1) ks ≡ rest)
      (unlike : IsUnlike t.level rest) where
    after_initiator : (level : ℕ) (cs : List Class) → (top s).level < level → (top s).level ≡ char.level → explicit_from (isolate s level) cs ≡ ks
        → begins_at (elim (before_pdi 1 cs) as (λ x. Option ℕ) [ None ↦ None | Some k ↦ Some (t.last + 1 + k) ]) q.first ≡ is_first
    after_initiator level cs h e f =
        ap (λ o. begins_at o q.first) (sym (match_further t.last (before_pdi 1 cs)))
        ∙ joined_isolate s level cs h (e ∙ same) (ap (runs_from (t.last + 1)) f ∙ later) unlike

    joined_after : (c : Class) (cs : List Class) → kept_by (role_of c) c s (next_state (role_of c) cs s) ≡ Some char
        → explicit_from (next_state (role_of c) cs s) cs ≡ ks
        → begins_at (match_after t.last (c ∷ cs)) q.first ≡ (is_initiator c && (q.level == t.level) && all_above t.level between)
    joined_after LRI cs e f = after_initiator (even_above (top s).level) cs (omega arith) (kept_level (top s).level (forced_class (top s).forced LRI) char e) f
    joined_after RLI cs e f = after_initiator (odd_above (top s).level) cs (omega arith) (kept_level (top s).level (forced_class (top s).forced RLI) char e) f
    joined_after FSI cs e f = after_initiator (first_above (isolate_level cs) (top s).level) cs (first_higher (isolate_level cs) (top s).level)
        (kept_level (top s).level (forced_class (top s).forced FSI) char e) f
    joined_after _ cs e f = refl

    joined_at : (ds : List Class) → explicit_from s ds ≡ Some char ∷ ks
        → begins_at (match_after t.last ds) q.first ≡ (starts_with_initiator ds && (q.level == t.level) && all_above t.level between)
    joined_at [] e = absurd (cc)
    joined_at (c ∷ cs) e = joined_after c cs (cc) (cc)

-- the kept characters from an index on
levels_drop : (p : ℕ) (s : State) (cs : List Class) → drop p (explicit_from s cs) ≡ explicit_from (state_at p cs s) (drop p cs)
levels_drop zero s cs = refl
levels_drop (suc p) s [] = refl
levels_drop (suc p) s (c ∷ cs) = levels_drop p (next_state (role_of c) cs s) cs

-- a run is joined to the first later one that is not above it, where it ends in an initiator and that one has its level
pub joined_by_level : (paragraph : ℕ) (cs : List Class) → paragraph ≤ 1 → (before : List Run) (t : Run) (between : List Run) (q : Run) (after : List Run)
    → runs_from 0 (explicit_levels paragraph cs) ≡ before ++ t ∷ between ++ q ∷ after → is_joined cs t q ≡ is_resumed cs t between q
joined_by_level paragraph cs h before t between q after e =
    let all : List (Option ExplicitChar) = explicit_levels paragraph cs in
    let w : EndsAt 0 all t (between ++ q ∷ after) = run_ends 0 all before t (between ++ q ∷ after) (e ∙ append_assoc before (t ∷ between) (q ∷ after)) in
    let p : w.skipped ≡ t.last = omega (arith, w.index) in
    let n : 0 + suc w.skipped ≡ t.last + 1 = omega (arith, w.index) in
    let ks : List (Option ExplicitChar) = drop (suc w.skipped) all in
    let here : explicit_from (state_at t.last cs (start paragraph)) (drop t.last cs) ≡ Some w.char ∷ ks = sym (levels_drop t.last (start paragraph) cs)
    ∙ ap (λ i. drop i all) (sym p) ∙ w.here in
    let later : runs_from (t.last + 1) ks ≡ between ++ q ∷ after = ap (λ i. runs_from i ks) (sym n) ∙ w.later in
    joined_at t between q after (state_at t.last cs (start paragraph)) w.char ks w.level later w.unlike (drop t.last cs) here
