-- One step of the explicit rules, within a list.
use Rattle.std.proofs.Common.{◌≡◌, ◌<◌, ◌≤◌, ◌+◌, ◌∙◌, ℕ, zero, suc, List, [], ◌∷◌, length, get_or, drop, refl, ap, sym, arith, Bool, true, false}
use Rattle.std.proofs.lemmas.List.{at_drop_more}
use Rattle.std.proofs.Math.Seq.{drop-length}
use Rattle.bx_ucd.specs.declared.class.Class.{Class}
use Rattle.bx_ucd.specs.declared.class.Class.TheVariants.{L}
use Rattle.bx_levels.specs.declared.embedding.role.Role.{Role}
use Rattle.bx_levels.specs.declared.embedding.role.Role.TheVariants.{Lre, Rle, Lro, Rlo, Lri, Rli, Fsi, Pdi, Pdf, Bn, Other}
use Rattle.bx_levels.specs.embedding.Explicit.{role_of, first_above, state_after, next_state, kept_by, explicit_from, embed, isolate, end_isolate}
use Rattle.bx_levels.specs.embedding.Explicit.{end_embedding, is_valid}
use Rattle.bx_levels.specs.declared.embedding.entry.Override.{Override}
use Rattle.bx_levels.specs.declared.embedding.entry.Override.TheVariants.{Neutral}
use Rattle.bx_levels.specs.declared.embedding.entry.Entry.{Entry}
use Rattle.bx_levels.specs.embedding.ParagraphLevel.{isolate_level}
use Rattle.std.proofs.lemmas.Bool.Decides.{nat_tests}
use Rattle.bx_levels.specs.declared.embedding.state.State.{State}
use Rattle.bx_levels.specs.embedding.Stack.{max_depth, top_of, after_isolate, after_embedding, entry}
use Rattle.bx_levels.specs.embedding.StackCalls.{IsRising}
use Rattle.bx_levels.proofs.embedding_lemmas.Rising.{rising_push}
use Rattle.bx_ucd.specs.declared.class.Class.TheVariants.{FSI}
use Rattle.bx_levels.specs.embedding.TextLevels.{is_fsi}

abbrev pub total : State → ℕ
total s = s.overflow_isolates + s.overflow_embeddings + s.valid_isolates

total_embed : (s : State) (l : ℕ) (o : Override) → total (embed s l o) ≤ total s + 1
total_embed s l o = grind arith

total_isolate : (s : State) (l : ℕ) → total (isolate s l) ≤ total s + 1
total_isolate s l = grind arith

total_end_isolate : (s : State) → total (end_isolate s) ≤ total s + 1
total_end_isolate s = grind arith

total_end_embedding : (s : State) → total (end_embedding s) ≤ total s + 1
total_end_embedding s = grind arith

pub total_next : (r : Role) (first : ℕ) (s : State) → total (state_after r first s) ≤ total s + 1
total_next Lre first s = total_embed s _ _
total_next Rle first s = total_embed s _ _
total_next Lro first s = total_embed s _ _
total_next Rlo first s = total_embed s _ _
total_next Lri first s = total_isolate s _
total_next Rli first s = total_isolate s _
total_next Fsi first s = total_isolate s _
total_next Pdi first s = total_end_isolate s
total_next Pdf first s = total_end_embedding s
total_next Bn first s = omega arith
total_next Other first s = omega arith

-- the level of an isolate matters to an FSI alone
pub state_next : (r : Role) (cs : List Class) (s : State) → state_after r (isolate_level cs) s ≡ next_state r cs s
state_next Lre cs s = refl
state_next Rle cs s = refl
state_next Lro cs s = refl
state_next Rlo cs s = refl
state_next Lri cs s = refl
state_next Rli cs s = refl
state_next Fsi cs s = refl
state_next Pdi cs s = refl
state_next Pdf cs s = refl
state_next Bn cs s = refl
state_next Other cs s = refl

-- the result for the character at `i`, and then the rest
pub levels_more : (cs : List Class) (i : ℕ) (s : State) (first : ℕ) → i < length cs → first ≡ isolate_level (drop (i + 1) cs)
    → explicit_from s (drop i cs) ≡ kept_by (role_of (get_or cs i L)) (get_or cs i L) s (state_after (role_of (get_or cs i L)) first s) ∷ explicit_from
    (state_after (role_of (get_or cs i L)) first s) (drop (i + 1) cs)
levels_more cs i s first h e =
    let c : Class = get_or cs i L in
    let same : next_state (role_of c) (drop (i + 1) cs) s ≡ state_after (role_of c) first s =
    sym (ap (λ n. state_after (role_of c) n s) e ∙ state_next (role_of c) (drop (i + 1) cs) s) in
    at_drop_more (explicit_from s) cs i L h ∙ ap (λ t. kept_by (role_of c) c s t ∷ explicit_from t (drop (i + 1) cs)) same

pub levels_length : (s : State) (cs : List Class) → length (explicit_from s cs) ≡ length cs
levels_length s [] = refl
levels_length s (c ∷ cs) = let h : length (explicit_from (next_state (role_of c) cs s) cs) ≡ length cs =
    levels_length (next_state (role_of c) cs s) cs in omega arith

pub levels_all : (cs : List Class) (s : State) → explicit_from s (drop (length cs) cs) ≡ []
levels_all cs s = rw drop-length

-- the stack stays one of rising levels
valid_low : (s : State) (l : ℕ) → is_valid s l ≡ true → l ≤ max_depth
valid_low s l e = grind (arith, nat_tests)

rising_valid : (s : State) (l : ℕ) (o : Override) (i b : Bool) → is_valid s l ≡ b → IsRising s.stack → (top_of s.stack).level < l
    → IsRising (elim b [ true ↦ entry l o i ∷ s.stack | false ↦ s.stack ])
rising_valid s l o i true e r h = rising_push s.stack (entry l o i) r (valid_low s l e) h
rising_valid s l o i false e r h = r

pub embed_stack : (s : State) (l : ℕ) (o : Override) → (embed s l o).stack ≡ elim (is_valid s l) [ true ↦ entry l o false ∷ s.stack | false ↦ s.stack ]
embed_stack s l o = elim (is_valid s l) as
    (λ b. (elim b as (λ x. State) [
      | true ↦ record s { stack = entry l o false ∷ s.stack }
      | false ↦ record s
          { overflow_embeddings = elim (s.overflow_isolates) [ zero ↦ s.overflow_embeddings + 1 | suc n ↦ s.overflow_embeddings ] }
    ]).stack
    ≡ elim b as (λ x. List Entry) [ true ↦ entry l o false ∷ s.stack | false ↦ s.stack ]) [ true ↦ refl | false ↦ refl ]

rising_embed : (s : State) (l : ℕ) (o : Override) → IsRising s.stack → (top_of s.stack).level < l → IsRising (embed s l o).stack
rising_embed s l o r h = rw (embed_stack s l o) (rising_valid s l o false (is_valid s l) refl r h)

rising_isolate : (s : State) (l : ℕ) → IsRising s.stack → (top_of s.stack).level < l → IsRising (isolate s l).stack
rising_isolate s l r h = elim (is_valid s l) as (λ b. is_valid s l ≡ b
    → IsRising (elim b as (λ x. State) [
      | true ↦ record s { stack = entry l Neutral true ∷ s.stack; valid_isolates = s.valid_isolates + 1 }
      | false ↦ record s
          { overflow_isolates = s.overflow_isolates + 1 }
    ]).stack) [ true ↦ λ e. rising_push s.stack (entry l Neutral true) r (valid_low s l e) h | false ↦ λ e. r ]
    refl

rising_after : (es : List Entry) → IsRising es → IsRising (after_isolate es)
rising_after [] r = tt
rising_after (e ∷ es) r = let ih : IsRising (after_isolate es) =
    rising_after es r.2 in elim (e.isolate) as (λ b. IsRising (elim b as (λ x. List Entry) [ true ↦ es | false ↦ after_isolate es ]))
    [ true ↦ r.2 | false ↦ ih ]

rising_after_embedding : (es : List Entry) → IsRising es → IsRising (after_embedding es)
rising_after_embedding [] r = tt
rising_after_embedding (e ∷ []) r = r
rising_after_embedding (e ∷ f ∷ es) r = elim (e.isolate) as (λ b. IsRising (elim b as (λ x. List Entry) [ true ↦ e ∷ f ∷ es | false ↦ f ∷ es ]))
    [ true ↦ r | false ↦ r.2 ]

rising_end_isolate : (s : State) → IsRising s.stack → IsRising (end_isolate s).stack
rising_end_isolate s r = elim (s.overflow_isolates) as
    (λ n. IsRising (elim n as (λ x. State) [
      | suc n ↦ record s { overflow_isolates = n }
      | zero ↦ elim (s.valid_isolates) as (λ x. State)
          [ zero ↦ s | suc n ↦ record s { stack = after_isolate s.stack; overflow_embeddings = 0; valid_isolates = n } ]
    ]).stack) [
      | suc n ↦ r
      | zero ↦ elim (s.valid_isolates) as
          (λ n. IsRising (elim n as (λ x. State)
          [ zero ↦ s | suc n ↦ record s { stack = after_isolate s.stack; overflow_embeddings = 0; valid_isolates = n } ]).stack)
          [ zero ↦ r | suc n ↦ rising_after s.stack r ]
    ]

rising_end_embedding : (s : State) → IsRising s.stack → IsRising (end_embedding s).stack
rising_end_embedding s r = elim (s.overflow_isolates) as
    (λ n. IsRising (elim n as (λ x. State) [
      | suc n ↦ s
      | zero ↦ elim (s.overflow_embeddings) as (λ x. State)
          [ suc n ↦ record s { overflow_embeddings = n } | zero ↦ record s { stack = after_embedding s.stack } ]
    ]).stack) [
      | suc n ↦ r
      | zero ↦ elim (s.overflow_embeddings) as
          (λ n. IsRising (elim n as (λ x. State) [ suc n ↦ record s { overflow_embeddings = n } | zero ↦ record s { stack = after_embedding s.stack } ]).stack)
          [ zero ↦ rising_after_embedding s.stack r | suc n ↦ r ]
    ]

pub first_higher : (first n : ℕ) → n < first_above first n
first_higher zero n = omega arith
first_higher (suc m) n = omega arith

pub rising_next : (r : Role) (cs : List Class) (s : State) → IsRising s.stack → IsRising (next_state r cs s).stack
rising_next Lre cs s h = rising_embed s _ _ h (omega arith)
rising_next Rle cs s h = rising_embed s _ _ h (omega arith)
rising_next Lro cs s h = rising_embed s _ _ h (omega arith)
rising_next Rlo cs s h = rising_embed s _ _ h (omega arith)
rising_next Lri cs s h = rising_isolate s _ h (omega arith)
rising_next Rli cs s h = rising_isolate s _ h (omega arith)
rising_next Fsi cs s h = rising_isolate s _ h (first_higher (isolate_level cs) (top_of s.stack).level)
rising_next Pdi cs s h = rising_end_isolate s h
rising_next Pdf cs s h = rising_end_embedding s h
rising_next Bn cs s h = h
rising_next Other cs s h = h

-- the state after the first `k` characters
abbrev pub state_at : ℕ → List Class → State → State
state_at zero cs s = s
state_at (suc k) [] s = s
state_at (suc k) (c ∷ cs) s = state_at k cs (next_state (role_of c) cs s)

-- so the levels at other indexes do not matter
for_fsi : (c : Class) (first n : ℕ) (s : State) → (is_fsi c ≡ true → first ≡ n) → state_after (role_of c) first s ≡ state_after (role_of c) n s
for_fsi FSI first n s h = ap (λ m. state_after (role_of FSI) m s) (h refl)
for_fsi _ first n s h = refl

pub levels_for : (cs : List Class) (i : ℕ) (s : State) (first : ℕ) → i < length cs → (is_fsi (get_or cs i L) ≡ true → first ≡ isolate_level (drop (i + 1) cs))
    → explicit_from s (drop i cs) ≡ kept_by (role_of (get_or cs i L)) (get_or cs i L) s (state_after (role_of (get_or cs i L)) first s) ∷ explicit_from
    (state_after (role_of (get_or cs i L)) first s) (drop (i + 1) cs)
levels_for cs i s first h e =
    let c : Class = get_or cs i L in
    let n : ℕ = isolate_level (drop (i + 1) cs) in
    let same : state_after (role_of c) n s ≡ state_after (role_of c) first s = sym (for_fsi c first n s e) in
    levels_more cs i s n h refl ∙ ap (λ t. kept_by (role_of c) c s t ∷ explicit_from t (drop (i + 1) cs)) same
