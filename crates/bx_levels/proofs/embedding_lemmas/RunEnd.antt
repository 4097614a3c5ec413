-- The end of a run within the kept characters, and the runs after it.
use Rattle.std.proofs.Common.{◌≡◌, ◌≢◌, ◌+◌, ◌∙◌, ℕ, suc, List, [], ◌∷◌, ◌++◌, drop, refl, ap, subst, arith, Bool, true, false, Option, Some, None}
use Rattle.std.specs.Prelude.{◌==◌}
use Rattle.std.proofs.lemmas.Bool.Decides.{nat_tests}
use Rattle.bx_levels.specs.declared.embedding.entry.ExplicitChar.{ExplicitChar}
use Rattle.bx_levels.specs.declared.embedding.runs.Run.{Run}
use Rattle.bx_levels.specs.embedding.Sequences.{run, join_run, runs_from}

-- the first run has another level
abbrev pub IsUnlike : ℕ → List Run → Type 0
IsUnlike l [] = Unit {0}
IsUnlike l (r ∷ rs) = r.level ≢ l

-- of the characters `ks` from index `k` on, the run `t` ends at one of its level, and `rest` are the runs after it
pub record EndsAt (k : ℕ) (ks : List (Option ExplicitChar)) (t : Run) (rest : List Run) : Type 0 where
  pub skipped : ℕ
  pub char : ExplicitChar
  pub index : t.last ≡ k + skipped
  pub here : drop skipped ks ≡ Some char ∷ drop (suc skipped) ks
  pub level : char.level ≡ t.level
  pub later : runs_from (k + suc skipped) (drop (suc skipped) ks) ≡ rest
  pub unlike : IsUnlike t.level rest

end_more : (k : ℕ) (o : Option ExplicitChar) (ks : List (Option ExplicitChar)) (t : Run) (rest : List Run) → EndsAt (k + 1) ks t rest → EndsAt k (o ∷ ks) t rest
end_more k o ks t rest w =
    let e : k + suc (suc w.skipped) ≡ k + 1 + suc w.skipped = omega arith in
    record {
      skipped = suc w.skipped;
      char = w.char;
      index = omega (arith, w.index);
      here = w.here;
      level = w.level;
      later = ap (λ n. runs_from n (drop (suc w.skipped) ks)) e ∙ w.later;
      unlike = w.unlike;
    }

end_joined : (k : ℕ) (c : ExplicitChar) (ks : List (Option ExplicitChar)) (r : Run) (rest : List Run) → r.level ≡ c.level → EndsAt (k + 1) ks r rest
    → EndsAt k (Some c ∷ ks) (run c.level k r.last) rest
end_joined k c ks r rest e v =
    let w : EndsAt k (Some c ∷ ks) r rest = end_more k (Some c) ks r rest v in
    record {
      skipped = w.skipped;
      char = w.char;
      index = w.index;
      here = w.here;
      level = w.level ∙ e;
      later = w.later;
      unlike = subst (λ n. IsUnlike n rest) e w.unlike;
    }

end_here : (k : ℕ) (c : ExplicitChar) (ks : List (Option ExplicitChar)) (rest : List Run) → runs_from (k + 1) ks ≡ rest → IsUnlike c.level rest
    → EndsAt k (Some c ∷ ks) (run c.level k k) rest
end_here k c ks rest e u = record { skipped = 0; char = c; index = omega arith; here = refl; level = refl; later = e; unlike = u }

no_run : (bs : List Run) (t : Run) (rest : List Run) → [] ≡ bs ++ t ∷ rest → ⊥
no_run [] t rest e = absurd (cc)
no_run (b ∷ bs) t rest e = absurd (cc)

module _ (k : ℕ) (c : ExplicitChar) (ks : List (Option ExplicitChar)) where
  abbrev Within : List Run → Type 0
  Within inner = (bs : List Run) (u : Run) (us : List Run) → inner ≡ bs ++ u ∷ us → EndsAt (k + 1) ks u us

  -- the same with the first run and the ones after it given by equations
  end_as : (t u : Run) (rest us : List Run) → u ≡ t → us ≡ rest → EndsAt k (Some c ∷ ks) u us → EndsAt k (Some c ∷ ks) t rest
  end_as t u rest us e f w = subst (λ xs. EndsAt k (Some c ∷ ks) t xs) f (subst (λ x. EndsAt k (Some c ∷ ks) x us) e w)

  end_alone : runs_from (k + 1) ks ≡ [] → (before : List Run) (t : Run) (rest : List Run) → run c.level k k ∷ [] ≡ before ++ t ∷ rest
      → EndsAt k (Some c ∷ ks) t rest
  end_alone g [] t rest e = end_as t (run c.level k k) rest [] (cc) (cc) (end_here k c ks [] g tt)
  end_alone g (b ∷ bs) t rest e = absurd (no_run bs t rest (cc))

  end_by : (r : Run) (rs : List Run) (b : Bool) → (r.level == c.level) ≡ b → runs_from (k + 1) ks ≡ r ∷ rs → Within (r ∷ rs)
      → (before : List Run) (t : Run) (rest : List Run) → (elim b as (λ x. List Run) [ true ↦ run c.level k r.last ∷ rs | false ↦ run c.level k k ∷ r ∷ rs ])
      ≡ before ++ t ∷ rest → EndsAt k (Some c ∷ ks) t rest
  end_by r rs true s g w [] t rest e =
      let l : r.level ≡ c.level = grind (arith, nat_tests) in
      end_as t (run c.level k r.last) rest rs (cc) (cc) (end_joined k c ks r rs l (w [] r rs refl))
  end_by r rs true s g w (b ∷ bs) t rest e = let f : r ∷ rs ≡ (r ∷ bs) ++ t ∷ rest = cc in end_more k (Some c) ks t rest (w (r ∷ bs) t rest f)
  end_by r rs false s g w [] t rest e =
      let l : r.level ≢ c.level = grind (arith, nat_tests) in
      end_as t (run c.level k k) rest (r ∷ rs) (cc) (cc) (end_here k c ks (r ∷ rs) g l)
  end_by r rs false s g w (b ∷ bs) t rest e = let f : r ∷ rs ≡ bs ++ t ∷ rest = cc in end_more k (Some c) ks t rest (w bs t rest f)

  end_join : (inner : List Run) → runs_from (k + 1) ks ≡ inner → Within inner → (before : List Run) (t : Run) (rest : List Run)
      → join_run k c.level inner ≡ before ++ t ∷ rest → EndsAt k (Some c ∷ ks) t rest
  end_join [] g w before t rest e = end_alone g before t rest e
  end_join (r ∷ rs) g w before t rest e = end_by r rs (r.level == c.level) refl g w before t rest e

-- each run ends at a character of its level, and the runs after it are the runs of the characters after that one
pub run_ends : (k : ℕ) (ks : List (Option ExplicitChar)) (before : List Run) (t : Run) (rest : List Run) → runs_from k ks ≡ before ++ t ∷ rest → EndsAt k ks t rest
run_ends k [] before t rest e = absurd (no_run before t rest e)
run_ends k (None ∷ ks) before t rest e = end_more k None ks t rest (run_ends (k + 1) ks before t rest e)
run_ends k (Some c ∷ ks) before t rest e = end_join k c ks (runs_from (k + 1) ks) refl (λ bs u us f. run_ends (k + 1) ks bs u us f) before t rest e
