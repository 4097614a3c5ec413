-- While few characters begin a level, none overflows.
use Rattle.std.proofs.Common.{◌≡◌, ◌≤◌, ◌+◌, ◌*◌, ◌∙◌, ℕ, zero, suc, List, [], ◌∷◌, refl, ap, sym, subst, arith, true, false, cond}
use Rattle.std.specs.Prelude.{◌&&◌, nat_le}
use Rattle.std.proofs.lemmas.Bool.Decides.{nat_tests}
use Rattle.bx_ucd.specs.declared.class.Class.{Class}
use Rattle.bx_ucd.specs.declared.class.Class.TheVariants.{BN, LRE, LRO, RLE, RLO, PDF, LRI, RLI, FSI, PDI}
use Rattle.bx_levels.specs.declared.embedding.entry.Entry.{Entry}
use Rattle.bx_levels.specs.declared.embedding.entry.Override.{Override}
use Rattle.bx_levels.specs.declared.embedding.entry.Override.TheVariants.{Neutral, Left, Right}
use Rattle.bx_levels.specs.declared.embedding.state.State.{State}
use Rattle.bx_levels.specs.embedding.Stack.{entry, top_of, after_isolate, after_embedding}
use Rattle.bx_levels.specs.embedding.Explicit.{embed, end_embedding, end_isolate, even_above, first_above, is_valid, isolate, next_state}
use Rattle.bx_levels.specs.embedding.Explicit.{odd_above, start, top, role_of}
use Rattle.bx_levels.specs.embedding.ParagraphLevel.{isolate_level}
use Rattle.bx_editor_laws.specs.AskingLaws.{begins_level}

-- no entry is above the level `high`
abbrev AreLow : ℕ → List Entry → Type 0
AreLow high [] = Unit {0}
AreLow high (e ∷ es) = (e.level ≤ high) × AreLow high es

pub record IsShallow (high : ℕ) (s : State) : Type 0 where
  pub isolates : s.overflow_isolates ≡ 0
  pub embeddings : s.overflow_embeddings ≡ 0
  pub low : AreLow high s.stack

low_more : (low high : ℕ) (es : List Entry) → low ≤ high → AreLow low es → AreLow high es
low_more low high [] more h = tt
low_more low high (e ∷ es) more h = (omega (arith, h.0), low_more low high es more h.1)

low_top : (high : ℕ) (es : List Entry) → AreLow high es → (top_of es).level ≤ high
low_top high [] h = omega arith
low_top high (e ∷ es) h = h.0

low_after : (high : ℕ) (es : List Entry) → AreLow high es → AreLow high (after_isolate es)
low_after high [] h = tt
low_after high (e ∷ es) h =
    let ih : AreLow high (after_isolate es) = low_after high es h.1 in
    elim (e.isolate) as (λ b. AreLow high (elim b as (λ x. List Entry) [ true ↦ es | false ↦ after_isolate es ])) [ true ↦ h.1 | false ↦ ih ]

low_after_embedding : (high : ℕ) (es : List Entry) → AreLow high es → AreLow high (after_embedding es)
low_after_embedding high [] h = tt
low_after_embedding high (e ∷ []) h = h
low_after_embedding high (e ∷ f ∷ es) h =
    elim (e.isolate) as (λ b. AreLow high (elim b as (λ x. List Entry) [ true ↦ e ∷ f ∷ es | false ↦ f ∷ es ])) [ true ↦ h | false ↦ h.1 ]

-- a level up to the greatest is valid
pub valid-now : (high level : ℕ) (s : State) → IsShallow high s → level ≤ 125 → is_valid s level ≡ true
valid-now high level s h low =
    let one : nat_le level 125 ≡ true = grind (arith, nat_tests, low) in
    ap (λ b. b && nat_le s.overflow_isolates 0 && nat_le s.overflow_embeddings 0) one
    ∙ ap (λ n. nat_le n 0 && nat_le s.overflow_embeddings 0) h.isolates ∙ ap (λ n. nat_le n 0) h.embeddings

shallow-embed : (high level : ℕ) (o : Override) (s : State) → IsShallow high s → level ≤ high + 2 → high + 2 ≤ 125 → IsShallow (high + 2) (embed s level o)
shallow-embed high level o s h low few =
    let valid : is_valid s level ≡ true = valid-now high level s h (omega arith) in
    let new : State = record s { stack = entry level o false ∷ s.stack } in
    let is : new ≡ embed s level o = ap (λ b. elim b as (λ x. State) [
      | true ↦ record s { stack = entry level o false ∷ s.stack }
      | false ↦ record s { overflow_embeddings = elim (s.overflow_isolates) [ zero ↦ s.overflow_embeddings + 1 | suc n ↦ s.overflow_embeddings ] }
    ]) (sym valid) in
    subst (IsShallow (high + 2)) is
    (record { isolates = h.isolates; embeddings = h.embeddings; low = (low, low_more high (high + 2) s.stack (omega arith) h.low) })

-- the state in an isolate that is valid
pub isolated-now : (s : State) (level : ℕ) → is_valid s level ≡ true
    → isolate s level ≡ record s { stack = entry level Neutral true ∷ s.stack; valid_isolates = s.valid_isolates + 1 }
isolated-now s level valid = ap (λ b. elim b as (λ x. State) [
  | true ↦ record s { stack = entry level Neutral true ∷ s.stack; valid_isolates = s.valid_isolates + 1 }
  | false ↦ record s { overflow_isolates = s.overflow_isolates + 1 }
]) valid

shallow-isolate : (high level : ℕ) (s : State) → IsShallow high s → level ≤ high + 2 → high + 2 ≤ 125 → IsShallow (high + 2) (isolate s level)
shallow-isolate high level s h low few =
    subst (IsShallow (high + 2)) (sym (isolated-now s level (valid-now high level s h (omega arith))))
    (record { isolates = h.isolates; embeddings = h.embeddings; low = (low, low_more high (high + 2) s.stack (omega arith) h.low) })

-- the state after a PDI, by the counts before it
abbrev ended : State → ℕ → ℕ → State
ended s o v = elim o [
  | suc n ↦ record s { overflow_isolates = n }
  | zero ↦ elim v
      [ zero ↦ s | suc n ↦ record s { stack = after_isolate s.stack; overflow_embeddings = 0; valid_isolates = n } ]
]

shallow-ended : (high : ℕ) (s : State) (o v : ℕ) → s.overflow_isolates ≡ o → IsShallow high s → IsShallow high (ended s o v)
shallow-ended high s (suc n) v e h = absurd (let no : suc n ≡ 0 = sym e ∙ h.isolates in cc no)
shallow-ended high s zero zero e h = h
shallow-ended high s zero (suc n) e h = record { isolates = h.isolates; embeddings = refl; low = low_after high s.stack h.low }

-- the state after a PDF
abbrev closed : State → ℕ → ℕ → State
closed s o v = elim o [
  | suc n ↦ s
  | zero ↦ elim v [ suc n ↦ record s { overflow_embeddings = n } | zero ↦ record s { stack = after_embedding s.stack } ]
]

shallow-closed : (high : ℕ) (s : State) (o v : ℕ) → s.overflow_embeddings ≡ v → IsShallow high s → IsShallow high (closed s o v)
shallow-closed high s (suc n) v e h = h
shallow-closed high s zero (suc n) e h = absurd (let no : suc n ≡ 0 = sym e ∙ h.embeddings in cc no)
shallow-closed high s zero zero e h = record { isolates = h.isolates; embeddings = h.embeddings; low = low_after_embedding high s.stack h.low }

pub first-near : (first n : ℕ) → first_above first n ≤ n + 2
first-near zero n = omega arith
first-near (suc m) n = omega arith

-- how far a character raises the levels
abbrev pub raise : Class → ℕ
raise c = 2 * cond (begins_level c) 1 0

still : (high : ℕ) (s : State) → IsShallow high s → IsShallow (high + 0) s
still high s h = let same : high ≡ high + 0 = omega arith in subst (λ n. IsShallow n s) same h

near : (high level : ℕ) (s : State) → IsShallow high s → level ≤ (top s).level + 2 → level ≤ high + 2
near high level s h low = omega (arith, low, low_top high s.stack h.low)

pub shallow-next : (high : ℕ) (c : Class) (cs : List Class) (s : State) → IsShallow high s → high + 2 ≤ 125
    → IsShallow (high + raise c) (next_state (role_of c) cs s)
shallow-next high LRE cs s h few = shallow-embed high (even_above (top s).level) Neutral s h (near high (even_above (top s).level) s h (omega arith)) few
shallow-next high RLE cs s h few = shallow-embed high (odd_above (top s).level) Neutral s h (near high (odd_above (top s).level) s h (omega arith)) few
shallow-next high LRO cs s h few = shallow-embed high (even_above (top s).level) Left s h (near high (even_above (top s).level) s h (omega arith)) few
shallow-next high RLO cs s h few = shallow-embed high (odd_above (top s).level) Right s h (near high (odd_above (top s).level) s h (omega arith)) few
shallow-next high LRI cs s h few = shallow-isolate high (even_above (top s).level) s h (near high (even_above (top s).level) s h (omega arith)) few
shallow-next high RLI cs s h few = shallow-isolate high (odd_above (top s).level) s h (near high (odd_above (top s).level) s h (omega arith)) few
shallow-next high FSI cs s h few =
    let level = first_above (isolate_level cs) (top s).level in
    shallow-isolate high level s h (near high level s h (first-near (isolate_level cs) (top s).level)) few
shallow-next high PDI cs s h few = still high (end_isolate s) (shallow-ended high s s.overflow_isolates s.valid_isolates refl h)
shallow-next high PDF cs s h few = still high (end_embedding s) (shallow-closed high s s.overflow_isolates s.overflow_embeddings refl h)
shallow-next high BN cs s h few = still high s h
shallow-next high _ cs s h few = still high s h

pub low-top : (high : ℕ) (s : State) → IsShallow high s → (top s).level ≤ high
low-top high s h = low_top high s.stack h.low

pub low-more : (low : ℕ) {high : ℕ} (s : State) → low ≤ high → IsShallow low s → IsShallow high s
low-more low {high} s more h = record { isolates = h.isolates; embeddings = h.embeddings; low = low_more low high s.stack more h.low }

pub shallow-start : (level : ℕ) → level ≤ 1 → IsShallow 1 (start level)
shallow-start level low = record { isolates = refl; embeddings = refl; low = (low, tt) }
