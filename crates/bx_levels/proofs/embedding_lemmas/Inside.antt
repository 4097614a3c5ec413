-- Inside an isolate: each character up to the matching PDI is above the initiator's level, and that PDI has it again.
use Rattle.std.proofs.Common.{◌≡◌, ◌<◌, ◌+◌, ◌∙◌, ℕ, zero, suc, List, [], ◌∷◌, refl, ap, subst, arith, true, false, Some}
use Rattle.std.specs.Prelude.{◌==◌, nat_lt}
use Rattle.bx_ucd.specs.declared.class.Class.{Class}
use Rattle.bx_ucd.specs.declared.class.Class.TheVariants.{BN, LRE, LRO, RLE, RLO, PDF, LRI, RLI, FSI, PDI}
use Rattle.bx_levels.specs.declared.embedding.entry.Entry.{Entry}
use Rattle.bx_levels.specs.declared.embedding.entry.Override.{Override}
use Rattle.bx_levels.specs.declared.embedding.entry.Override.TheVariants.{Neutral, Left, Right}
use Rattle.bx_levels.specs.declared.embedding.state.State.{State}
use Rattle.bx_levels.specs.embedding.Stack.{entry, top_of, after_isolate, after_embedding}
use Rattle.bx_levels.specs.embedding.Explicit.{top, is_valid, embed, isolate, end_isolate, end_embedding, explicit_from, even_above, odd_above, first_above}
use Rattle.bx_levels.specs.embedding.ParagraphLevel.{before_pdi, one_more, isolate_level}
use Rattle.bx_levels.proofs.embedding_lemmas.Steps.{first_higher}
use Rattle.bx_levels.proofs.embedding_lemmas.FirstLow.{pick, pick_above, pick_same, resumes_at}

-- the entries are above the level `l` down to the isolate entry that has `inner` others above it, and below that one the
-- top has the level `l`
abbrev pub IsUnder : ℕ → ℕ → List Entry → Type 0
IsUnder l inner [] = ⊥
IsUnder l inner (e ∷ es) = (l < e.level)
    × (elim (e.isolate) as (λ b. Type 0)
    [ false ↦ IsUnder l inner es | true ↦ elim inner as (λ n. Type 0) [ zero ↦ (top_of es).level ≡ l | suc n ↦ IsUnder l n es ] ])

under_top : (l inner : ℕ) (es : List Entry) → IsUnder l inner es → l < (top_of es).level
under_top l inner [] h = absurd h
under_top l inner (e ∷ es) h = h.0

-- a PDI takes the entries away down to the last isolate
under_after : (l inner : ℕ) (es : List Entry) → IsUnder l (suc inner) es → IsUnder l inner (after_isolate es)
under_after l inner [] h = absurd h
under_after l inner (e ∷ es) h =
    (elim (e.isolate) as (λ b. (elim b as (λ x. Type 0) [ false ↦ IsUnder l (suc inner) es | true ↦ IsUnder l inner es ])
    → IsUnder l inner (elim b as (λ x. List Entry) [ true ↦ es | false ↦ after_isolate es ])) [
      | true ↦ λ k. k
      | false ↦ λ k. under_after l inner es k
    ]) h.1

under_end : (l : ℕ) (es : List Entry) → IsUnder l 0 es → (top_of (after_isolate es)).level ≡ l
under_end l [] h = absurd h
under_end l (e ∷ es) h =
    (elim (e.isolate) as (λ b. (elim b as (λ x. Type 0) [ false ↦ IsUnder l 0 es | true ↦ (top_of es).level ≡ l ])
    → (top_of (elim b as (λ x. List Entry) [ true ↦ es | false ↦ after_isolate es ])).level ≡ l) [
      | true ↦ λ k. k
      | false ↦ λ k. under_end l es k
    ]) h.1

-- a PDF takes no isolate away
under_embedding : (l inner : ℕ) (es : List Entry) → IsUnder l inner es → IsUnder l inner (after_embedding es)
under_embedding l inner [] h = h
under_embedding l inner (e ∷ []) h = h
under_embedding l inner (e ∷ f ∷ es) h =
    (elim (e.isolate) as (λ b. (elim b as (λ x. Type 0)
    [ false ↦ IsUnder l inner (f ∷ es) | true ↦ elim inner as (λ n. Type 0) [ zero ↦ f.level ≡ l | suc n ↦ IsUnder l n (f ∷ es) ] ])
    → IsUnder l inner (elim b as (λ x. List Entry) [ true ↦ e ∷ f ∷ es | false ↦ f ∷ es ])) [
      | true ↦ λ k. h
      | false ↦ λ k. k
    ]) h.1

-- a state inside an isolate of a text at the level `l`, where `count` PDIs lead out of it
pub record IsInside (l count : ℕ) (s : State) : Type 0 where
  pub inner : ℕ
  pub under : IsUnder l inner s.stack
  pub counted : inner + 1 + s.overflow_isolates ≡ count
  pub valid : inner < s.valid_isolates

inside_top : (l count : ℕ) (s : State) → IsInside l count s → l < (top s).level
inside_top l count s w = under_top l w.inner s.stack w.under

inside_embed : (l count : ℕ) (s : State) (level : ℕ) (o : Override) → IsInside l count s → (top s).level < level → IsInside l count (embed s level o)
inside_embed l count s level o w h =
    let a : l < (top s).level = inside_top l count s w in
    let b : l < level = omega arith in
    elim (is_valid s level) as (λ v. IsInside l count
    (elim v as (λ x. State) [
      | true ↦ record s { stack = entry level o false ∷ s.stack }
      | false ↦ record s
          { overflow_embeddings = elim (s.overflow_isolates) [ zero ↦ s.overflow_embeddings + 1 | suc n ↦ s.overflow_embeddings ] }
    ])) [
      | true ↦ record { inner = w.inner; under = (b, w.under); counted = w.counted; valid = w.valid }
      | false ↦ record { inner = w.inner; under = w.under; counted = w.counted; valid = w.valid }
    ]

inside_isolate : (l count : ℕ) (s : State) (level : ℕ) → IsInside l count s → (top s).level < level → IsInside l (suc count) (isolate s level)
inside_isolate l count s level w h =
    let a : l < (top s).level = inside_top l count s w in
    let b : l < level = omega arith in
    elim (is_valid s level) as (λ v. IsInside l (suc count)
    (elim v as (λ x. State) [
      | true ↦ record s { stack = entry level Neutral true ∷ s.stack; valid_isolates = s.valid_isolates + 1 }
      | false ↦ record s
          { overflow_isolates = s.overflow_isolates + 1 }
    ])) [
      | true ↦ record { inner = suc w.inner; under = (b, w.under); counted = omega (arith, w.counted); valid = omega (arith, w.valid) }
      | false ↦ record { inner = w.inner; under = w.under; counted = omega (arith, w.counted); valid = w.valid }
    ]

inside_end_embedding : (l count : ℕ) (s : State) → IsInside l count s → IsInside l count (end_embedding s)
inside_end_embedding l count s w =
    elim (s.overflow_isolates) as (λ n. IsInside l count
    (elim n as (λ x. State) [
      | suc m ↦ s
      | zero ↦ elim (s.overflow_embeddings) as (λ x. State)
          [ suc m ↦ record s { overflow_embeddings = m } | zero ↦ record s { stack = after_embedding s.stack } ]
    ])) [
      | suc n ↦ w
      | zero ↦ elim (s.overflow_embeddings) as
          (λ n. IsInside l count (elim n as (λ x. State)
          [ suc m ↦ record s { overflow_embeddings = m } | zero ↦ record s { stack = after_embedding s.stack } ])) [
            | suc n ↦ record { inner = w.inner; under = w.under; counted = w.counted; valid = w.valid }
            | zero ↦ record { inner = w.inner; under = under_embedding l w.inner s.stack w.under; counted = w.counted; valid = w.valid }
          ]
    ]

-- the state after a PDI, by the counts before it
abbrev ended : State → ℕ → ℕ → State
ended s o v = elim o [
  | suc n ↦ record s { overflow_isolates = n }
  | zero ↦ elim v
      [ zero ↦ s | suc n ↦ record s { stack = after_isolate s.stack; overflow_embeddings = 0; valid_isolates = n } ]
]

inside_ended : (l count : ℕ) (s : State) (o v : ℕ) → s.overflow_isolates ≡ o → s.valid_isolates ≡ v → IsInside l (suc (suc count)) s
    → IsInside l (suc count) (ended s o v)
inside_ended l count s (suc n) v e f w = record { inner = w.inner; under = w.under; counted = omega (arith, w.counted); valid = w.valid }
inside_ended l count s zero zero e f w = absurd (omega (arith, w.valid))
inside_ended l count s zero (suc n) e f w =
    let i : w.inner ≡ suc count = omega (arith, w.counted) in
    let u : IsUnder l (suc count) s.stack = subst (λ k. IsUnder l k s.stack) i w.under in
    record { inner = count; under = under_after l count s.stack u; counted = omega arith; valid = omega (arith, w.valid) }

left_by : (l : ℕ) (s : State) (o v : ℕ) → s.overflow_isolates ≡ o → s.valid_isolates ≡ v → IsInside l 1 s → (top (ended s o v)).level ≡ l
left_by l s (suc n) v e f w = absurd (omega (arith, w.counted))
left_by l s zero zero e f w = absurd (omega (arith, w.valid))
left_by l s zero (suc n) e f w =
    let i : w.inner ≡ 0 = omega (arith, w.counted) in
    under_end l s.stack (subst (λ k. IsUnder l k s.stack) i w.under)

inside_end : (l count : ℕ) (s : State) → IsInside l (suc (suc count)) s → IsInside l (suc count) (end_isolate s)
inside_end l count s w = inside_ended l count s s.overflow_isolates s.valid_isolates refl refl w

inside_left : (l : ℕ) (s : State) → IsInside l 1 s → (top (end_isolate s)).level ≡ l
inside_left l s w = left_by l s s.overflow_isolates s.valid_isolates refl refl w

-- a kept character above the level `l`
resumes_past : (l level m : ℕ) (t : State) (cs : List Class) → l < level → resumes_at l (explicit_from t cs) ≡ before_pdi (suc m) cs
    → pick (nat_lt l level) (level == l) (one_more (resumes_at l (explicit_from t cs))) (Some 0) ≡ one_more (before_pdi (suc m) cs)
resumes_past l level m t cs h e = pick_above l level (one_more (resumes_at l (explicit_from t cs))) (Some 0) h ∙ ap one_more e

-- the first kept character that is not above `l` is the PDI that leads out, and it has that level
pub out_at : (cs : List Class) (l n : ℕ) (s : State) → IsInside l (suc n) s → resumes_at l (explicit_from s cs) ≡ before_pdi (suc n) cs
out_at [] l n s w = refl
out_at (LRE ∷ cs) l n s w = ap one_more
    (out_at cs l n (embed s (even_above (top s).level) Neutral) (inside_embed l (suc n) s (even_above (top s).level) Neutral w (omega arith)))
out_at (RLE ∷ cs) l n s w = ap one_more
    (out_at cs l n (embed s (odd_above (top s).level) Neutral) (inside_embed l (suc n) s (odd_above (top s).level) Neutral w (omega arith)))
out_at (LRO ∷ cs) l n s w = ap one_more
    (out_at cs l n (embed s (even_above (top s).level) Left) (inside_embed l (suc n) s (even_above (top s).level) Left w (omega arith)))
out_at (RLO ∷ cs) l n s w = ap one_more
    (out_at cs l n (embed s (odd_above (top s).level) Right) (inside_embed l (suc n) s (odd_above (top s).level) Right w (omega arith)))
out_at (LRI ∷ cs) l n s w =
    let t : State = isolate s (even_above (top s).level) in
    let v : IsInside l (suc (suc n)) t = inside_isolate l (suc n) s (even_above (top s).level) w (omega arith) in
    resumes_past l (top s).level (suc n) t cs (inside_top l (suc n) s w) (out_at cs l (suc n) t v)
out_at (RLI ∷ cs) l n s w =
    let t : State = isolate s (odd_above (top s).level) in
    let v : IsInside l (suc (suc n)) t = inside_isolate l (suc n) s (odd_above (top s).level) w (omega arith) in
    resumes_past l (top s).level (suc n) t cs (inside_top l (suc n) s w) (out_at cs l (suc n) t v)
out_at (FSI ∷ cs) l n s w =
    let level : ℕ = first_above (isolate_level cs) (top s).level in
    let t : State = isolate s level in
    let v : IsInside l (suc (suc n)) t = inside_isolate l (suc n) s level w (first_higher (isolate_level cs) (top s).level) in
    resumes_past l (top s).level (suc n) t cs (inside_top l (suc n) s w) (out_at cs l (suc n) t v)
out_at (PDI ∷ cs) l zero s w = pick_same l (top (end_isolate s)).level (one_more (resumes_at l (explicit_from (end_isolate s) cs))) (Some 0) (inside_left l s w)
out_at (PDI ∷ cs) l (suc n) s w =
    let t : State = end_isolate s in
    let v : IsInside l (suc n) t = inside_end l n s w in
    resumes_past l (top t).level n t cs (inside_top l (suc n) t v) (out_at cs l n t v)
out_at (PDF ∷ cs) l n s w = ap one_more (out_at cs l n (end_embedding s) (inside_end_embedding l (suc n) s w))
out_at (BN ∷ cs) l n s w = ap one_more (out_at cs l n s w)
out_at (_ ∷ cs) l n s w = resumes_past l (top s).level n s cs (inside_top l (suc n) s w) (out_at cs l n s w)
