-- After an initiator that overflows: the next kept character has the initiator's level, so no run ends there.
use Rattle.std.proofs.Common.{◌≡◌, ◌+◌, ◌∙◌, ℕ, zero, suc, List, [], ◌∷◌, ◌++◌, refl, ap, sym, subst, arith, Bool, true, false, Option, Some, None}
use Rattle.std.specs.Prelude.{◌==◌}
use Rattle.std.proofs.lemmas.Bool.Decides.{nat_tests}
use Rattle.bx_ucd.specs.declared.class.Class.{Class}
use Rattle.bx_levels.specs.declared.embedding.role.Role.{Role}
use Rattle.bx_levels.specs.declared.embedding.role.Role.TheVariants.{Lre, Rle, Lro, Rlo, Lri, Rli, Fsi, Pdi, Pdf, Bn, Other}
use Rattle.bx_levels.specs.embedding.Explicit.{role_of, top, is_valid, embed, end_isolate, end_embedding, even_above, odd_above, next_state}
use Rattle.bx_levels.specs.embedding.Explicit.{kept_by, explicit_from}
use Rattle.bx_levels.specs.declared.embedding.entry.Entry.{Entry}
use Rattle.bx_levels.specs.declared.embedding.entry.ExplicitChar.{ExplicitChar}
use Rattle.bx_levels.specs.declared.embedding.entry.Override.{Override}
use Rattle.bx_levels.specs.declared.embedding.entry.Override.TheVariants.{Neutral, Left, Right}
use Rattle.bx_levels.specs.declared.embedding.runs.Run.{Run}
use Rattle.bx_levels.specs.declared.embedding.state.State.{State}
use Rattle.bx_levels.specs.embedding.Stack.{entry, top_of, after_isolate, after_embedding}
use Rattle.bx_levels.specs.embedding.Sequences.{run, join_run, runs_from, level_of_first}
use Rattle.bx_levels.proofs.embedding_lemmas.Steps.{embed_stack}
use Rattle.bx_levels.proofs.embedding_lemmas.RunEnd.{IsUnlike}

-- nothing changes the stack in an overflow isolate
invalid : (s : State) (level n : ℕ) → s.overflow_isolates ≡ suc n → is_valid s level ≡ false
invalid s level n e = grind (arith, nat_tests)

embed_keeps : (s : State) (level : ℕ) (o : Override) (n : ℕ) → s.overflow_isolates ≡ suc n → (embed s level o).stack ≡ s.stack
embed_keeps s level o n e = embed_stack s level o
    ∙ ap (λ b. elim b as (λ x. List Entry) [ true ↦ entry level o false ∷ s.stack | false ↦ s.stack ]) (invalid s level n e)

embed_counts : (s : State) (level : ℕ) (o : Override) → (embed s level o).overflow_isolates ≡ s.overflow_isolates
embed_counts s level o = elim (is_valid s level) as
    (λ b. (elim b as (λ x. State) [
      | true ↦ record s { stack = entry level o false ∷ s.stack }
      | false ↦ record s
          { overflow_embeddings = elim (s.overflow_isolates) [ zero ↦ s.overflow_embeddings + 1 | suc n ↦ s.overflow_embeddings ] }
    ]).overflow_isolates
    ≡ s.overflow_isolates) [ true ↦ refl | false ↦ refl ]

end_isolate_keeps : (s : State) (n : ℕ) → s.overflow_isolates ≡ suc n → (end_isolate s).stack ≡ s.stack
end_isolate_keeps s n e = ap (λ
    o. (elim o as (λ x. State) [
      | suc m ↦ record s { overflow_isolates = m }
      | zero ↦ elim (s.valid_isolates) as (λ x. State)
          [ zero ↦ s | suc m ↦ record s { stack = after_isolate s.stack; overflow_embeddings = 0; valid_isolates = m } ]
    ]).stack) e

end_embedding_keeps : (s : State) (n : ℕ) → s.overflow_isolates ≡ suc n → end_embedding s ≡ s
end_embedding_keeps s n e = ap
    (λ o. elim o as (λ x. State) [
      | suc m ↦ s
      | zero ↦ elim (s.overflow_embeddings) as (λ x. State)
          [ suc m ↦ record s { overflow_embeddings = m } | zero ↦ record s { stack = after_embedding s.stack } ]
    ]) e

-- the first kept character of a text, if any, has the level of the state's last entry
abbrev pub StartsAtTop : State → List Class → Type 0
StartsAtTop s cs = level_of_first (top s).level (explicit_from s cs) ≡ (top s).level

starts_same : (s t : State) (cs : List Class) → t.stack ≡ s.stack → StartsAtTop t cs → level_of_first (top s).level (explicit_from t cs) ≡ (top s).level
starts_same s t cs e h = subst (λ es. level_of_first (top_of es).level (explicit_from t cs) ≡ (top_of es).level) e h

module _ (c : Class) (cs : List Class) (s : State) (n : ℕ) (e : s.overflow_isolates ≡ suc n) (ih : (t : State) → t.overflow_isolates ≡ suc n → StartsAtTop t cs)
  where
    after_embed : (level : ℕ) (o : Override) → level_of_first (top s).level (explicit_from (embed s level o) cs) ≡ (top s).level
    after_embed level o = starts_same s (embed s level o) cs (embed_keeps s level o n e) (ih (embed s level o) (embed_counts s level o ∙ e))

    starts_by : (r : Role) → level_of_first (top s).level (kept_by r c s (next_state r cs s) ∷ explicit_from (next_state r cs s) cs) ≡ (top s).level
    starts_by Lre = after_embed (even_above (top s).level) Neutral
    starts_by Rle = after_embed (odd_above (top s).level) Neutral
    starts_by Lro = after_embed (even_above (top s).level) Left
    starts_by Rlo = after_embed (odd_above (top s).level) Right
    starts_by Lri = refl
    starts_by Rli = refl
    starts_by Fsi = refl
    starts_by Pdi = ap (λ es. (top_of es).level) (end_isolate_keeps s n e)
    starts_by Pdf = let k : end_embedding s ≡ s = end_embedding_keeps s n e in ap (λ t. level_of_first (top s).level (explicit_from t cs)) k ∙ ih s e
    starts_by Bn = ih s e
    starts_by Other = refl

starts_at_top : (cs : List Class) (s : State) (n : ℕ) → s.overflow_isolates ≡ suc n → StartsAtTop s cs
starts_at_top [] s n e = refl
starts_at_top (c ∷ cs) s n e = starts_by c cs s n e (λ t f. starts_at_top cs t n f) (role_of c)

-- the first run has the level of the first kept character
begun_by : (k level : ℕ) (i : Run) (is : List Run) (r : Run) (rs : List Run) (b : Bool)
    → (elim b as (λ x. List Run) [ true ↦ run level k i.last ∷ is | false ↦ run level k k ∷ i ∷ is ]) ≡ r ∷ rs → level ≡ r.level
begun_by k level i is r rs true e = let f : run level k i.last ≡ r = cc in ap (λ (x : Run). x.level) f
begun_by k level i is r rs false e = let f : run level k k ≡ r = cc in ap (λ (x : Run). x.level) f

join_level : (k level : ℕ) (inner : List Run) (r : Run) (rs : List Run) → join_run k level inner ≡ r ∷ rs → level ≡ r.level
join_level k level [] r rs e = let f : run level k k ≡ r = cc in ap (λ (x : Run). x.level) f
join_level k level (i ∷ is) r rs e = begun_by k level i is r rs (i.level == level) e

first_level : (d k : ℕ) (ks : List (Option ExplicitChar)) (r : Run) (rs : List Run) → runs_from k ks ≡ r ∷ rs → level_of_first d ks ≡ r.level
first_level d k [] r rs e = absurd (cc)
first_level d k (None ∷ ks) r rs e = first_level d (k + 1) ks r rs e
first_level d k (Some c ∷ ks) r rs e = join_level k c.level (runs_from (k + 1) ks) r rs e

unlike_first : (l k : ℕ) (ks : List (Option ExplicitChar)) (between : List Run) (q : Run) (after : List Run) → level_of_first l ks ≡ l
    → runs_from k ks ≡ between ++ q ∷ after → IsUnlike l (between ++ q ∷ after) → ⊥
unlike_first l k ks [] q after e f u = u (sym (first_level l k ks q after f) ∙ e)
unlike_first l k ks (b ∷ bs) q after e f u = u (sym (first_level l k ks b (bs ++ q ∷ after) f) ∙ e)

-- after a state that has overflow isolates no run begins that is unlike its level
pub no_other_run : (s : State) (n l k : ℕ) (cs : List Class) (between : List Run) (q : Run) (after : List Run) → s.overflow_isolates ≡ suc n → (top s).level ≡ l
    → runs_from k (explicit_from s cs) ≡ between ++ q ∷ after → IsUnlike l (between ++ q ∷ after) → ⊥
no_other_run s n l k cs between q after e t f u =
    let a : level_of_first (top s).level (explicit_from s cs) ≡ (top s).level = starts_at_top cs s n e in
    unlike_first l k (explicit_from s cs) between q after (subst (λ m. level_of_first m (explicit_from s cs) ≡ m) t a) f u
