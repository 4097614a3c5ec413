-- A character has a level exactly where X9 keeps it, and none is above the highest.
use Rattle.std.proofs.Common.{◌≡◌, ◌<◌, ◌≤◌, ◌+◌, ◌∙◌, ℕ, zero, suc, List, [], ◌∷◌, ◌++◌, length, map, set, replicate, refl, ap, ap₂, sym, subst, arith}
use Rattle.std.proofs.Common.{Bool, true, false, ◌==◌, Option, Some, None, is_some, ◌⊎◌, inl, inr, nat_lt, ltb-true, ltb-false}
use Rattle.std.specs.Prelude.{◌||◌, ◌%◌, All, IfSome}
use Rattle.std.specs.List.{list_any}
use Rattle.std.specs.List.Sorted.{IsPermutation}
use Rattle.std.proofs.lemmas.Bool.Decides.{nat_tests}
use Rattle.std.proofs.lemmas.List.{length-map, map-set}
use Rattle.std.proofs.lemmas.List.Elements.{All-cons, All-nil, All-head, All-tail, All-replicate, All-set}
use Rattle.std.proofs.lemmas.List.Sorted.{IsPermutation-sym, list_any-IsPermutation}
use Rattle.bx_ucd.specs.Data.{Data}
use Rattle.bx_ucd.specs.declared.class.Class.{Class}
use Rattle.bx_ucd.specs.declared.class.Class.TheVariants.{L, R, AL, EN, ES, ET, AN, CS, NSM, BN, B, S, WS, ON, LRE, LRO, RLE, RLO, PDF, LRI, RLI, FSI, PDI}
use Rattle.bx_common.specs.declared.base.Base.{Base}
use Rattle.bx_common.specs.declared.base.Base.TheVariants.{Auto, Ltr, Rtl}
use Rattle.bx_levels.specs.declared.embedding.entry.ExplicitChar.{ExplicitChar}
use Rattle.bx_levels.specs.declared.embedding.state.State.{State}
use Rattle.bx_levels.specs.embedding.Stack.{max_depth}
use Rattle.bx_levels.specs.embedding.Explicit.{role_of, explicit_from, explicit_levels, kept_by, next_state, start}
use Rattle.bx_levels.specs.embedding.ParagraphLevel.{base_level, first_strong, level_of, level_of_strong}
use Rattle.bx_levels.specs.embedding.Sequences.{kept_indexes, RunSequence, sequences}
use Rattle.bx_levels.proofs.embedding_lemmas.Bounds.{levels_low, sequences_low}
use Rattle.bx_levels.proofs.embedding_lemmas.Steps.{levels_length as explicit_length}
use Rattle.bx_levels.specs.resolve.Neutral.{implicit, implicit_at, rise_even, rise_odd}
use Rattle.bx_levels.specs.resolve.Levels.{chars_at, levels_in, levels_under, paragraph_levels, types_at, with_levels, with_sequences}
use Rattle.bx_levels.specs.resolve.Kept.{is_kept, max_level}
use Rattle.bx_levels.specs.resolve.Laws.{all_indexes}
use Rattle.bx_levels.proofs.resolve_lemmas.PlainLengths.{levels_length}
use Rattle.bx_levels.proofs.resolve_lemmas.EachOnce.{each_once}

-- flags that are raised at indexes
abbrev raised : List ℕ → List Bool → List Bool
raised [] fs = fs
raised (p ∷ ps) fs = raised ps (set fs p true)

raised_append : (ps qs : List ℕ) (fs : List Bool) → raised (ps ++ qs) fs ≡ raised qs (raised ps fs)
raised_append [] qs fs = refl
raised_append (p ∷ ps) qs fs = raised_append ps qs (set fs p true)

levels_raise : (ps ls : List ℕ) (each : List (Option ℕ)) → length ls ≡ length ps → map is_some (with_levels ps ls each) ≡ raised ps (map is_some each)
levels_raise [] ls each e = refl
levels_raise (p ∷ ps) [] each e = absurd (omega arith)
levels_raise (p ∷ ps) (l ∷ ls) each e = levels_raise ps ls (set each p (Some l)) (omega arith) ∙ ap (raised ps) (map-set is_some each p (Some l))

-- each flag by its index
abbrev flagged : ℕ → List ℕ → List Bool → List Bool
flagged k ps [] = []
flagged k ps (f ∷ fs) = (list_any (λ p. p == k) ps || f) ∷ flagged (k + 1) ps fs

none_flagged : (k : ℕ) (fs : List Bool) → flagged k [] fs ≡ fs
none_flagged k [] = refl
none_flagged k (f ∷ fs) = ap (λ gs. f ∷ gs) (none_flagged (k + 1) fs)

flagged_before : (k p : ℕ) (ps : List ℕ) (fs : List Bool) → p < k → flagged k (p ∷ ps) fs ≡ flagged k ps fs
flagged_before k p ps [] h = refl
flagged_before k p ps (f ∷ fs) h =
    let other : (p == k) ≡ false = grind (arith, nat_tests) in
    ap₂ (λ b gs. ((b || list_any (λ q. q == k) ps) || f) ∷ gs) other (flagged_before (k + 1) p ps fs (omega arith))

or_last : (b : Bool) → (b || true) ≡ true
or_last true = refl
or_last false = refl

flagged_set : (k i p : ℕ) (ps : List ℕ) (fs : List Bool) → p ≡ k + i → flagged k ps (set fs i true) ≡ flagged k (p ∷ ps) fs
flagged_set k i p ps [] e = refl
flagged_set k zero p ps (f ∷ fs) e =
    let here : (p == k) ≡ true = grind (arith, nat_tests) in
    ap₂ (λ b gs. b ∷ gs) (or_last (list_any (λ q. q == k) ps) ∙ ap (λ b. (b || list_any (λ q. q == k) ps) || f) (sym here))
    (sym (flagged_before (k + 1) p ps fs (omega arith)))
flagged_set k (suc i) p ps (f ∷ fs) e =
    let other : (p == k) ≡ false = grind (arith, nat_tests) in
    ap₂ (λ b gs. ((b || list_any (λ q. q == k) ps) || f) ∷ gs) (sym other) (flagged_set (k + 1) i p ps fs (omega arith))

raised_is : (ps : List ℕ) (fs : List Bool) → raised ps fs ≡ flagged 0 ps fs
raised_is [] fs = sym (none_flagged 0 fs)
raised_is (p ∷ ps) fs = raised_is ps (set fs p true) ∙ flagged_set 0 p p ps fs (omega arith)

flagged_same : (k : ℕ) (ps qs : List ℕ) (fs : List Bool) → IsPermutation ps qs → flagged k ps fs ≡ flagged k qs fs
flagged_same k ps qs [] h = refl
flagged_same k ps qs (f ∷ fs) h = ap₂ (λ b gs. (b || f) ∷ gs) (list_any-IsPermutation (λ p. p == k) ps qs h) (flagged_same (k + 1) ps qs fs h)

none_at : (k m : ℕ) (g : List (Option ExplicitChar)) → k < m → list_any (λ p. p == k) (kept_indexes m g) ≡ false
none_at k m [] h = refl
none_at k m (None ∷ g) h = none_at k (m + 1) g (omega arith)
none_at k m (Some c ∷ g) h =
    let other : (m == k) ≡ false = grind (arith, nat_tests) in
    ap (λ b. b || list_any (λ p. p == k) (kept_indexes (m + 1) g)) other ∙ none_at k (m + 1) g (omega arith)

flagged_kept : (k : ℕ) (g : List (Option ExplicitChar)) → flagged k (kept_indexes k g) (replicate (length g) false) ≡ map is_some g
flagged_kept k [] = refl
flagged_kept k (None ∷ g) = ap₂ (λ b gs. (b || false) ∷ gs) (none_at k (k + 1) g (omega arith)) (flagged_kept (k + 1) g)
flagged_kept k (Some c ∷ g) =
    let here : (k == k) ≡ true = grind (arith, nat_tests) in
    ap₂ (λ b gs. ((b || list_any (λ p. p == k) (kept_indexes (k + 1) g)) || false) ∷ gs) here
    (flagged_before (k + 1) k (kept_indexes (k + 1) g) (replicate (length g) false) (omega arith) ∙ flagged_kept (k + 1) g)

-- the characters that the explicit rules keep
kept_one : (c : Class) (s t : State) → is_some (kept_by (role_of c) c s t) ≡ is_kept c
kept_one L s t = refl
kept_one R s t = refl
kept_one AL s t = refl
kept_one EN s t = refl
kept_one ES s t = refl
kept_one ET s t = refl
kept_one AN s t = refl
kept_one CS s t = refl
kept_one NSM s t = refl
kept_one BN s t = refl
kept_one B s t = refl
kept_one S s t = refl
kept_one WS s t = refl
kept_one ON s t = refl
kept_one LRE s t = refl
kept_one LRO s t = refl
kept_one RLE s t = refl
kept_one RLO s t = refl
kept_one PDF s t = refl
kept_one LRI s t = refl
kept_one RLI s t = refl
kept_one FSI s t = refl
kept_one PDI s t = refl

pub kept_each : (s : State) (cs : List Class) → map is_some (explicit_from s cs) ≡ map is_kept cs
kept_each s [] = refl
kept_each s (c ∷ cs) =
    let t : State = next_state (role_of c) cs s in
    ap₂ (λ b bs. b ∷ bs) (kept_one c s t) (kept_each t cs)

none_found : (n : ℕ) → map (is_some {T = ℕ}) (replicate n None) ≡ replicate n false
none_found zero = refl
none_found (suc n) = ap (λ bs. false ∷ bs) (none_found n)

-- I1 and I2 raise a level by two where it is even, and else by one at most
rise_even_low : (t : Class) → rise_even t ≤ 2
rise_even_low R = omega arith
rise_even_low AN = omega arith
rise_even_low EN = omega arith
rise_even_low _ = omega arith

rise_odd_low : (t : Class) → rise_odd t ≤ 1
rise_odd_low L = omega arith
rise_odd_low AN = omega arith
rise_odd_low EN = omega arith
rise_odd_low _ = omega arith

below_or_at : (level : ℕ) → level ≤ max_depth → (level ≤ 124) ⊎ (level ≡ 125)
below_or_at level h = elim (nat_lt level 125) as (λ b. nat_lt level 125 ≡ b → (level ≤ 124) ⊎ (level ≡ 125)) [
  | true ↦ λ e. let l : level < 125 = ltb-true level 125 e in inl (omega arith)
  | false ↦ λ e. let l : 125 ≤ level = ltb-false level 125 e in inr (omega arith)
] refl

pub implicit_low : (level : ℕ) (t : Class) → level ≤ max_depth → implicit_at level t ≤ max_level
implicit_low level t h =
    elim (level % 2) as (λ n. level % 2 ≡ n → elim n as (λ x. ℕ) [ zero ↦ level + rise_even t | suc n ↦ level + rise_odd t ] ≤ max_level) [
      | zero ↦ λ e. elim (below_or_at level h) [
        | inl l ↦ omega (arith, rise_even_low t)
        | inr r ↦ let odd : 125 % 2 ≡ 0 = ap (λ n. n % 2) (sym r) ∙ e in absurd (cc)
      ]
      | suc n ↦ λ e. omega (arith, rise_odd_low t)
    ] refl

abbrev IsLowLevel : Option ℕ → Type 0
IsLowLevel l = IfSome l (λ n. n ≤ max_level)

all_low : (level : ℕ) (ts : List Class) → level ≤ max_depth → All (λ n. n ≤ max_level) (implicit level ts)
all_low level [] h = All-nil (λ n. n ≤ max_level)
all_low level (t ∷ ts) h = All-cons (λ n. n ≤ max_level) (implicit_at level t) (implicit level ts) (implicit_low level t h) (all_low level ts h)

pub all_low_of : (level : ℕ) (ts : List Class) (ls : List ℕ) → level ≤ max_depth → ls ≡ implicit level ts → All (λ n. n ≤ max_level) ls
all_low_of level ts ls h e = subst (All (λ n. n ≤ max_level)) (sym e) (all_low level ts h)

with_low : (ps ls : List ℕ) (each : List (Option ℕ)) → All (λ n. n ≤ max_level) ls → All IsLowLevel each → All IsLowLevel (with_levels ps ls each)
with_low [] ls each a b = b
with_low (p ∷ ps) [] each a b = b
with_low (p ∷ ps) (l ∷ ls) each a b = with_low ps ls (set each p (Some l)) (All-tail (λ n. n ≤ max_level) l ls a)
    (All-set IsLowLevel each p (Some l) (All-head (λ n. n ≤ max_level) l ls a) b)

module _ (ucd : Data) (chars : List ℕ) (kept : List (Option ExplicitChar)) where
  sequences_raise : (ss : List RunSequence) (each : List (Option ℕ))
      → map is_some (with_sequences ucd chars kept ss each) ≡ raised (all_indexes ss) (map is_some each)
  sequences_raise [] each = refl
  sequences_raise (s ∷ ss) each =
      let ls : List ℕ = levels_in ucd chars kept s in
      let l : length ls ≡ length s.indexes = levels_length ucd s.level s.sos s.eos (chars_at chars s.indexes) (types_at kept s.indexes)
      ∙ length-map s.indexes _ in
      sequences_raise ss (with_levels s.indexes ls each) ∙ ap (raised (all_indexes ss)) (levels_raise s.indexes ls each l)
      ∙ sym (raised_append s.indexes (all_indexes ss) (map is_some each))

  sequences_stay_low : (ss : List RunSequence) (each : List (Option ℕ)) → All (λ (s : RunSequence). s.level ≤ max_depth) ss → All IsLowLevel each
      → All IsLowLevel (with_sequences ucd chars kept ss each)
  sequences_stay_low [] each a b = b
  sequences_stay_low (s ∷ ss) each a b =
      let lows : RunSequence → Type 0 = λ (u : RunSequence). u.level ≤ max_depth in
      sequences_stay_low ss (with_levels s.indexes (levels_in ucd chars kept s) each) (All-tail lows s ss a)
      (with_low s.indexes (levels_in ucd chars kept s) each (all_low s.level _ (All-head lows s ss a)) b)

module _ (ucd : Data) where
  pub paragraph_kept : (level : ℕ) (chars : List ℕ) → level ≤ 1 → map is_some (paragraph_levels ucd level chars) ≡ map is_kept (map ucd.class chars)
  paragraph_kept level chars low =
      let cs : List Class = map ucd.class chars in
      let kept : List (Option ExplicitChar) = explicit_levels level cs in
      let all : List ℕ = all_indexes (sequences level cs kept) in
      let n : length chars ≡ length kept = sym (explicit_length (start level) cs ∙ length-map chars ucd.class) in
      sequences_raise ucd chars kept (sequences level cs kept) (replicate (length chars) None)
      ∙ ap (raised all) (none_found (length chars) ∙ ap (λ k. replicate k false) n) ∙ raised_is all (replicate (length kept) false)
      ∙ flagged_same 0 all (kept_indexes 0 kept) (replicate (length kept) false) (IsPermutation-sym (kept_indexes 0 kept) all (each_once level cs low))
      ∙ flagged_kept 0 kept ∙ kept_each (start level) cs

  paragraph_low : (level : ℕ) (chars : List ℕ) → level ≤ 1 → All IsLowLevel (paragraph_levels ucd level chars)
  paragraph_low level chars low =
      let cs : List Class = map ucd.class chars in
      let kept : List (Option ExplicitChar) = explicit_levels level cs in
      sequences_stay_low ucd chars kept (sequences level cs kept) (replicate (length chars) None)
      (sequences_low level cs kept (levels_low level cs (omega arith))) (All-replicate IsLowLevel (length chars) None tt)

strong_low : (c : Class) → level_of_strong c ≤ 1
strong_low R = omega arith
strong_low AL = omega arith
strong_low _ = omega arith

found_low : (o : Option Class) → level_of o ≤ 1
found_low None = omega arith
found_low (Some c) = strong_low c

pub base_low : (base : Base) (cs : List Class) → base_level base cs ≤ 1
base_low Auto cs = found_low (first_strong 0 cs)
base_low Ltr cs = omega arith
base_low Rtl cs = omega arith

pub levels_kept : (ucd : Data) (base : Base) (chars : List ℕ) (each : List (Option ℕ))
    → each ≡ levels_under ucd base chars → map is_some each ≡ map is_kept (map ucd.class chars)
levels_kept ucd base chars each e = ap (map is_some) e
    ∙ paragraph_kept ucd (base_level base (map ucd.class chars)) chars (base_low base (map ucd.class chars))

pub levels_stay_low : (ucd : Data) (base : Base) (chars : List ℕ) (each : List (Option ℕ))
    → each ≡ levels_under ucd base chars → All (λ l. IfSome l (λ n. n ≤ max_level)) each
levels_stay_low ucd base chars each e = subst (All IsLowLevel) (sym e)
    (paragraph_low ucd (base_level base (map ucd.class chars)) chars (base_low base (map ucd.class chars)))
