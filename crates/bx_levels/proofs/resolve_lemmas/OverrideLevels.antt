-- The type after overrides of a character: its own class without overrides, and the override's direction under one.
use Rattle.std.proofs.Common.{◌≡◌, ◌<◌, ◌+◌, ℕ, zero, suc, List, [], ◌∷◌, length, get_or, map, refl, sym, subst, arith, Bool, true, false, Option, None}
use Rattle.std.specs.Prelude.{◌||◌}
use Rattle.std.specs.List.{list_any}
use Rattle.std.proofs.lemmas.List.{length-map}
use Rattle.bx_ucd.specs.declared.class.Class.{Class}
use Rattle.bx_ucd.specs.declared.class.Class.TheVariants.{L, R, AL, EN, ES, ET, AN, CS, NSM, BN, B, S, WS, ON, LRE, LRO, RLE, RLO, PDF, LRI, RLI, FSI, PDI}
use Rattle.bx_levels.specs.declared.embedding.entry.Entry.{Entry}
use Rattle.bx_levels.specs.declared.embedding.entry.Override.{Override}
use Rattle.bx_levels.specs.declared.embedding.entry.Override.TheVariants.{Neutral, Left, Right}
use Rattle.bx_levels.specs.declared.embedding.state.State.{State}
use Rattle.bx_levels.specs.embedding.Explicit.{role_of, explicit_from, next_state, kept_by, start, top, embed, isolate, end_isolate, end_embedding}
use Rattle.bx_levels.specs.embedding.Explicit.{is_valid, forced_class}
use Rattle.bx_levels.specs.embedding.Stack.{entry, top_of, after_isolate, after_embedding}
use Rattle.bx_levels.specs.embedding.ParagraphLevel.{base_level}
use Rattle.bx_levels.specs.embedding.Laws.{states_from}
use Rattle.bx_levels.proofs.embedding_lemmas.Steps.{embed_stack}
use Rattle.bx_levels.specs.resolve.Levels.{type_of}
use Rattle.bx_levels.specs.resolve.Kept.{is_kept}
use Rattle.bx_levels.specs.resolve.Laws.{HasDirection, FollowsOverride, is_override, entry_by, LettersKeepDirection, OverridesGiveDirection}
use Rattle.bx_levels.proofs.resolve_lemmas.DirectionsAt.{types_keep_direction}

-- no entry of the stack forces a type
abbrev AreNeutral : List Entry → Type 0
AreNeutral [] = Unit {0}
AreNeutral (e ∷ es) = (e.forced ≡ Neutral) × AreNeutral es

neutral_top : (es : List Entry) → AreNeutral es → (top_of es).forced ≡ Neutral
neutral_top [] h = refl
neutral_top (e ∷ es) h = h.0

neutral_after : (es : List Entry) → AreNeutral es → AreNeutral (after_isolate es)
neutral_after [] h = tt
neutral_after (e ∷ es) h =
    let ih : AreNeutral (after_isolate es) = neutral_after es h.1 in
    elim (e.isolate) as (λ b. AreNeutral (elim b as (λ x. List Entry) [ true ↦ es | false ↦ after_isolate es ])) [ true ↦ h.1 | false ↦ ih ]

neutral_after_embedding : (es : List Entry) → AreNeutral es → AreNeutral (after_embedding es)
neutral_after_embedding [] h = tt
neutral_after_embedding (e ∷ []) h = h
neutral_after_embedding (e ∷ f ∷ es) h = elim (e.isolate) as
    (λ b. AreNeutral (elim b as (λ x. List Entry) [ true ↦ e ∷ f ∷ es | false ↦ f ∷ es ])) [ true ↦ h | false ↦ h.1 ]

neutral_embed : (s : State) (level : ℕ) → AreNeutral s.stack → AreNeutral (embed s level Neutral).stack
neutral_embed s level h = subst AreNeutral (sym (embed_stack s level Neutral))
    (elim (is_valid s level) as (λ b. AreNeutral (elim b as (λ x. List Entry) [ true ↦ entry level Neutral false ∷ s.stack | false ↦ s.stack ]))
    [ true ↦ (refl, h) | false ↦ h ])

neutral_isolate : (s : State) (level : ℕ) → AreNeutral s.stack → AreNeutral (isolate s level).stack
neutral_isolate s level h = elim (is_valid s level) as
    (λ b. AreNeutral (elim b as (λ x. State) [
      | true ↦ record s { stack = entry level Neutral true ∷ s.stack; valid_isolates = s.valid_isolates + 1 }
      | false ↦ record s { overflow_isolates = s.overflow_isolates + 1 }
    ]).stack) [ true ↦ (refl, h) | false ↦ h ]

neutral_end_isolate : (s : State) → AreNeutral s.stack → AreNeutral (end_isolate s).stack
neutral_end_isolate s h = elim (s.overflow_isolates) as
    (λ n. AreNeutral (elim n as (λ x. State) [
      | suc n ↦ record s { overflow_isolates = n }
      | zero ↦ elim (s.valid_isolates) as (λ x. State)
          [ zero ↦ s | suc n ↦ record s { stack = after_isolate s.stack; overflow_embeddings = 0; valid_isolates = n } ]
    ]).stack) [
      | suc n ↦ h
      | zero ↦ elim (s.valid_isolates) as
          (λ n. AreNeutral (elim n as (λ x. State)
          [ zero ↦ s | suc n ↦ record s { stack = after_isolate s.stack; overflow_embeddings = 0; valid_isolates = n } ]).stack)
          [ zero ↦ h | suc n ↦ neutral_after s.stack h ]
    ]

neutral_end_embedding : (s : State) → AreNeutral s.stack → AreNeutral (end_embedding s).stack
neutral_end_embedding s h = elim (s.overflow_isolates) as
    (λ n. AreNeutral (elim n as (λ x. State) [
      | suc n ↦ s
      | zero ↦ elim (s.overflow_embeddings) as (λ x. State)
          [ suc n ↦ record s { overflow_embeddings = n } | zero ↦ record s { stack = after_embedding s.stack } ]
    ]).stack) [
      | suc n ↦ h
      | zero ↦ elim (s.overflow_embeddings) as
          (λ n. AreNeutral (elim n as (λ x. State) [ suc n ↦ record s { overflow_embeddings = n } | zero ↦ record s { stack = after_embedding s.stack } ]).stack)
          [ zero ↦ neutral_after_embedding s.stack h | suc n ↦ h ]
    ]

neutral_next : (c : Class) (cs : List Class) (s : State) → is_override c ≡ false → AreNeutral s.stack → AreNeutral (next_state (role_of c) cs s).stack
neutral_next LRE cs s e h = neutral_embed s _ h
neutral_next RLE cs s e h = neutral_embed s _ h
neutral_next LRO cs s e h = absurd (cc)
neutral_next RLO cs s e h = absurd (cc)
neutral_next LRI cs s e h = neutral_isolate s _ h
neutral_next RLI cs s e h = neutral_isolate s _ h
neutral_next FSI cs s e h = neutral_isolate s _ h
neutral_next PDI cs s e h = neutral_end_isolate s h
neutral_next PDF cs s e h = neutral_end_embedding s h
neutral_next BN cs s e h = h
neutral_next _ cs s e h = h

-- a letter under an entry that forces no type
own_class : (c d : Class) (o : Override) (l : Option ℕ) → o ≡ Neutral → HasDirection (forced_class o c) l → HasDirection c l
own_class c d o l e h = subst (λ x. HasDirection (forced_class x c) l) e h

letter_by : (c : Class) (s t : State) (l : Option ℕ) → AreNeutral s.stack → HasDirection (type_of (kept_by (role_of c) c s t)) l → HasDirection c l
letter_by L s t l n h = own_class L L (top s).forced l (neutral_top s.stack n) h
letter_by R s t l n h = own_class R R (top s).forced l (neutral_top s.stack n) h
letter_by AL s t l n h = own_class AL AL (top s).forced l (neutral_top s.stack n) h
letter_by EN s t l n h = own_class EN EN (top s).forced l (neutral_top s.stack n) h
letter_by AN s t l n h = own_class AN AN (top s).forced l (neutral_top s.stack n) h
letter_by _ s t l n h = tt

or_first : (a b : Bool) → (a || b) ≡ false → a ≡ false
or_first false b e = refl
or_first true b e = absurd (cc)

or_second : (a b : Bool) → (a || b) ≡ false → b ≡ false
or_second false b e = e
or_second true b e = absurd (cc)

letter_at : (s : State) (cs : List Class) (i : ℕ) (l : Option ℕ) → list_any is_override cs ≡ false → AreNeutral s.stack
    → HasDirection (type_of (get_or (explicit_from s cs) i None)) l → HasDirection (get_or cs i ON) l
letter_at s [] i l e n h = tt
letter_at s (c ∷ cs) zero l e n h = letter_by c s (next_state (role_of c) cs s) l n h
letter_at s (c ∷ cs) (suc i) l e n h =
    let first : is_override c ≡ false = or_first (is_override c) (list_any is_override cs) e in
    letter_at (next_state (role_of c) cs s) cs i l (or_second (is_override c) (list_any is_override cs) e) (neutral_next c cs s first n) h

pub letters_keep_direction : LettersKeepDirection
letters_keep_direction ucd base chars i e =
    let cs : List Class = map ucd.class chars in
    letter_at (start (base_level base cs)) cs i _ e (refl, tt) (types_keep_direction ucd base chars i)

-- a character under an entry that forces a type
forced_by : (o : Override) (c : Class) (l : Option ℕ) → HasDirection (forced_class o c) l → FollowsOverride o l
forced_by Neutral c l h = tt
forced_by Left c l h = h
forced_by Right c l h = h

kept_under_by : (c : Class) (s t : State) (l : Option ℕ) → is_kept c ≡ true → HasDirection (type_of (kept_by (role_of c) c s t)) l
    → FollowsOverride (entry_by c s t).forced l
kept_under_by RLE s t l k h = absurd (cc)
kept_under_by LRE s t l k h = absurd (cc)
kept_under_by RLO s t l k h = absurd (cc)
kept_under_by LRO s t l k h = absurd (cc)
kept_under_by PDF s t l k h = absurd (cc)
kept_under_by BN s t l k h = absurd (cc)
kept_under_by PDI s t l k h = forced_by (top t).forced PDI l h
kept_under_by L s t l k h = forced_by (top s).forced L l h
kept_under_by R s t l k h = forced_by (top s).forced R l h
kept_under_by AL s t l k h = forced_by (top s).forced AL l h
kept_under_by EN s t l k h = forced_by (top s).forced EN l h
kept_under_by ES s t l k h = forced_by (top s).forced ES l h
kept_under_by ET s t l k h = forced_by (top s).forced ET l h
kept_under_by AN s t l k h = forced_by (top s).forced AN l h
kept_under_by CS s t l k h = forced_by (top s).forced CS l h
kept_under_by NSM s t l k h = forced_by (top s).forced NSM l h
kept_under_by B s t l k h = forced_by (top s).forced B l h
kept_under_by S s t l k h = forced_by (top s).forced S l h
kept_under_by WS s t l k h = forced_by (top s).forced WS l h
kept_under_by ON s t l k h = forced_by (top s).forced ON l h
kept_under_by LRI s t l k h = forced_by (top s).forced LRI l h
kept_under_by RLI s t l k h = forced_by (top s).forced RLI l h
kept_under_by FSI s t l k h = forced_by (top s).forced FSI l h

first_state : (s d : State) (cs : List Class) → get_or (states_from s cs) 0 d ≡ s
first_state s d [] = refl
first_state s d (c ∷ cs) = refl

override_at : (d s : State) (cs : List Class) (i : ℕ) (l : Option ℕ) → i < length cs → is_kept (get_or cs i ON) ≡ true
    → HasDirection (type_of (get_or (explicit_from s cs) i None)) l
    → FollowsOverride (entry_by (get_or cs i ON) (get_or (states_from s cs) i d) (get_or (states_from s cs) (i + 1) d)).forced l
override_at d s [] i l w k h = absurd (omega arith)
override_at d s (c ∷ cs) zero l w k h =
    let t : State = next_state (role_of c) cs s in
    subst (λ (x : State). FollowsOverride (entry_by c s x).forced l) (sym (first_state t d cs)) (kept_under_by c s t l k h)
override_at d s (c ∷ cs) (suc i) l w k h =
    let t : State = next_state (role_of c) cs s in
    let next : suc (i + 1) ≡ suc i + 1 = omega arith in
    subst (λ n. FollowsOverride (entry_by (get_or cs i ON) (get_or (states_from t cs) i d) (get_or (s ∷ states_from t cs) n d)).forced l) next
    (override_at d t cs i l (omega arith) k h)

pub overrides_give_direction : OverridesGiveDirection
overrides_give_direction ucd base chars i w k =
    let cs : List Class = map ucd.class chars in
    let level : ℕ = base_level base cs in
    let long : length cs ≡ length chars = length-map chars ucd.class in
    override_at (start level) (start level) cs i _ (omega (arith, long, w)) k (types_keep_direction ucd base chars i)
