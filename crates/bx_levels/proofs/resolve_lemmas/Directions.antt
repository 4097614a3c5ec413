-- W1 to N2 keep a type of L, EN or AN one of these, and turn R and AL to R.
use Rattle.std.proofs.Common.{◌≡◌, ◌+◌, ◌-◌, ℕ, zero, suc, List, [], ◌∷◌, ◌++◌, drop, take, map, refl, subst, arith, Bool, true, false, Option, Some, None}
use Rattle.std.specs.Prelude.{◌%◌}
use Rattle.bx_ucd.specs.Data.{Data}
use Rattle.bx_ucd.specs.declared.class.Class.{Class}
use Rattle.bx_ucd.specs.declared.class.Class.TheVariants.{L, R, AL, EN, AN, NSM, ON}
use Rattle.bx_ucd.specs.Class.{is_strong, is_nsm}
use Rattle.bx_levels.specs.embedding.Sequences.{direction}
use Rattle.bx_levels.specs.brackets.Pairs.{is_on, pairs}
use Rattle.bx_levels.specs.brackets.Resolve.{context_of, pair_direction, change_nsms, change_bracket, resolve_pair, resolve_pairs}
use Rattle.bx_levels.specs.resolve.Weak.{at_each, w1, w2, w3, w4, w5, w6, w1_at, w2_at, w3_at, w4_at, w5_at, w6_at, w7_at, weak, is_left_or_right}
use Rattle.bx_levels.specs.resolve.Weak.{nearest_that, number_after, left_number}
use Rattle.bx_levels.specs.resolve.Neutral.{n1, n1_at, n2_at, implicit, implicit_at, rise_even, rise_odd}
use Rattle.bx_levels.specs.resolve.Levels.{sequence_types, sequence_levels}
use Rattle.bx_levels.specs.resolve.Laws.{HasDirection}
use Rattle.bx_levels.proofs.resolve_lemmas.PairTypes.{AreOn, HaveEnds, pairs_ends}

abbrev is_from_left : Class → Bool
is_from_left L = true
is_from_left EN = true
is_from_left AN = true
is_from_left _ = false

abbrev is_from_right : Class → Bool
is_from_right R = true
is_from_right AL = true
is_from_right _ = false

abbrev is_r : Class → Bool
is_r R = true
is_r _ = false

-- `u` is what the rules so far made of the type `t`; before W3, an AL counts as R
abbrev Stays : (Class → Bool) → Class → Class → Type 0
Stays q t u = (is_from_left t ≡ true → is_from_left u ≡ true) × (is_from_right t ≡ true → q u ≡ true)

abbrev Stay : (Class → Bool) → List Class → List Class → Type 0
Stay q [] [] = Unit {0}
Stay q [] (u ∷ us) = ⊥
Stay q (t ∷ ts) [] = ⊥
Stay q (t ∷ ts) (u ∷ us) = Stays q t u × Stay q ts us

unchanged : (ts : List Class) → Stay is_from_right ts ts
unchanged [] = tt
unchanged (t ∷ ts) = ((λ e. e, λ e. e), unchanged ts)

module _ (p q : Class → Bool) (rule : List Class → Class → List Class → Class)
    (lefts : (b : List Class) (u : Class) (a : List Class) → is_from_left u ≡ true → is_from_left (rule b u a) ≡ true)
    (rights : (b : List Class) (u : Class) (a : List Class) → p u ≡ true → q (rule b u a) ≡ true) where
  stay_by_rule : (b ts us : List Class) → Stay p ts us → Stay q ts (at_each rule b us)
  stay_by_rule b [] [] h = tt
  stay_by_rule b [] (u ∷ us) h = absurd h
  stay_by_rule b (t ∷ ts) [] h = absurd h
  stay_by_rule b (t ∷ ts) (u ∷ us) h = ((λ e. lefts b u us (h.0.0 e), λ e. rights b u us (h.0.1 e)), stay_by_rule (u ∷ b) ts us h.1)

stay_by_map : (p q : Class → Bool) (f : Class → Class) → ((u : Class) → is_from_left u ≡ true → is_from_left (f u) ≡ true)
    → ((u : Class) → p u ≡ true → q (f u) ≡ true) → (ts us : List Class) → Stay p ts us → Stay q ts (map f us)
stay_by_map p q f lefts rights [] [] h = tt
stay_by_map p q f lefts rights [] (u ∷ us) h = absurd h
stay_by_map p q f lefts rights (t ∷ ts) [] h = absurd h
stay_by_map p q f lefts rights (t ∷ ts) (u ∷ us) h = ((λ e. lefts u (h.0.0 e), λ e. rights u (h.0.1 e)), stay_by_map p q f lefts rights ts us h.1)

-- W1 to W7
w1_left : (sos : Class) (b : List Class) (u : Class) (a : List Class) → is_from_left u ≡ true → is_from_left (w1_at sos b u a) ≡ true
w1_left sos b L a e = refl
w1_left sos b EN a e = refl
w1_left sos b AN a e = refl
w1_left sos b _ a e = absurd (cc)

w1_right : (sos : Class) (b : List Class) (u : Class) (a : List Class) → is_from_right u ≡ true → is_from_right (w1_at sos b u a) ≡ true
w1_right sos b R a e = refl
w1_right sos b AL a e = refl
w1_right sos b _ a e = absurd (cc)

number_left : (s : Class) → is_from_left (number_after s) ≡ true
number_left AL = refl
number_left _ = refl

w2_left : (sos : Class) (b : List Class) (u : Class) (a : List Class) → is_from_left u ≡ true → is_from_left (w2_at sos b u a) ≡ true
w2_left sos b L a e = refl
w2_left sos b EN a e = number_left (nearest_that is_strong sos b)
w2_left sos b AN a e = refl
w2_left sos b _ a e = absurd (cc)

w2_right : (sos : Class) (b : List Class) (u : Class) (a : List Class) → is_from_right u ≡ true → is_from_right (w2_at sos b u a) ≡ true
w2_right sos b R a e = refl
w2_right sos b AL a e = refl
w2_right sos b _ a e = absurd (cc)

w3_left : (u : Class) → is_from_left u ≡ true → is_from_left (w3_at u) ≡ true
w3_left L e = refl
w3_left EN e = refl
w3_left AN e = refl
w3_left _ e = absurd (cc)

w3_right : (u : Class) → is_from_right u ≡ true → is_r (w3_at u) ≡ true
w3_right R e = refl
w3_right AL e = refl
w3_right _ e = absurd (cc)

w4_left : (b : List Class) (u : Class) (a : List Class) → is_from_left u ≡ true → is_from_left (w4_at b u a) ≡ true
w4_left b L a e = refl
w4_left b EN a e = refl
w4_left b AN a e = refl
w4_left b _ a e = absurd (cc)

w4_right : (b : List Class) (u : Class) (a : List Class) → is_r u ≡ true → is_r (w4_at b u a) ≡ true
w4_right b R a e = refl
w4_right b _ a e = absurd (cc)

w5_left : (b : List Class) (u : Class) (a : List Class) → is_from_left u ≡ true → is_from_left (w5_at b u a) ≡ true
w5_left b L a e = refl
w5_left b EN a e = refl
w5_left b AN a e = refl
w5_left b _ a e = absurd (cc)

w5_right : (b : List Class) (u : Class) (a : List Class) → is_r u ≡ true → is_r (w5_at b u a) ≡ true
w5_right b R a e = refl
w5_right b _ a e = absurd (cc)

w6_left : (u : Class) → is_from_left u ≡ true → is_from_left (w6_at u) ≡ true
w6_left L e = refl
w6_left EN e = refl
w6_left AN e = refl
w6_left _ e = absurd (cc)

w6_right : (u : Class) → is_r u ≡ true → is_r (w6_at u) ≡ true
w6_right R e = refl
w6_right _ e = absurd (cc)

left_number_left : (s : Class) → is_from_left (left_number s) ≡ true
left_number_left L = refl
left_number_left _ = refl

w7_left : (sos : Class) (b : List Class) (u : Class) (a : List Class) → is_from_left u ≡ true → is_from_left (w7_at sos b u a) ≡ true
w7_left sos b L a e = refl
w7_left sos b EN a e = left_number_left (nearest_that is_left_or_right sos b)
w7_left sos b AN a e = refl
w7_left sos b _ a e = absurd (cc)

w7_right : (sos : Class) (b : List Class) (u : Class) (a : List Class) → is_r u ≡ true → is_r (w7_at sos b u a) ≡ true
w7_right sos b R a e = refl
w7_right sos b _ a e = absurd (cc)

weak_stay : (sos : Class) (ts : List Class) → Stay is_r ts (weak sos ts)
weak_stay sos ts =
    let a : List Class = w1 sos ts in
    let b : List Class = w2 sos a in
    let c : List Class = w3 b in
    let d : List Class = w4 c in
    let e : List Class = w5 d in
    let f : List Class = w6 e in
    let ha : Stay is_from_right ts a = stay_by_rule is_from_right is_from_right (w1_at sos) (w1_left sos) (w1_right sos) [] ts ts (unchanged ts) in
    let hb : Stay is_from_right ts b = stay_by_rule is_from_right is_from_right (w2_at sos) (w2_left sos) (w2_right sos) [] ts a ha in
    let hc : Stay is_r ts c = stay_by_map is_from_right is_r w3_at w3_left w3_right ts b hb in
    let hd : Stay is_r ts d = stay_by_rule is_r is_r w4_at w4_left w4_right [] ts c hc in
    let he : Stay is_r ts e = stay_by_rule is_r is_r w5_at w5_left w5_right [] ts d hd in
    let hf : Stay is_r ts f = stay_by_map is_r is_r w6_at w6_left w6_right ts e he in
    stay_by_rule is_r is_r (w7_at sos) (w7_left sos) (w7_right sos) [] ts f hf

-- N0 changes a type that is ON after W7, and an NSM of the text: neither was a letter or a number
abbrev IsFree : List Class → ℕ → Type 0
IsFree [] k = ⊥
IsFree (t ∷ ts) zero = (u : Class) → Stays is_r t u
IsFree (t ∷ ts) (suc k) = IsFree ts k

free_on : (t u : Class) → Stays is_r t u → is_on u ≡ true → (v : Class) → Stays is_r t v
free_on t ON h e v = (λ x. let y : is_from_left ON ≡ true = h.0 x in absurd (cc), λ x. let y : is_r ON ≡ true = h.1 x in absurd (cc))
free_on t _ h e v = absurd (cc)

all_free : (P : ℕ → Type 0) (j : ℕ) (ts us : List Class) → ((k : ℕ) → IsFree ts k → P (j + k)) → Stay is_r ts us → AreOn P j us
all_free P j [] [] f h = tt
all_free P j [] (u ∷ us) f h = absurd h
all_free P j (t ∷ ts) [] f h = absurd h
all_free P j (t ∷ ts) (u ∷ us) f h =
    let first : j + 0 ≡ j = omega arith in
    let more : (k : ℕ) → j + suc k ≡ j + 1 + k = λ k. omega arith in
    (λ e. subst P first (f 0 (free_on t u h.0 e)), all_free P (j + 1) ts us (λ k x. subst P (more k) (f (suc k) x)) h.1)

nsms_stay : (d : Class) (ts us : List Class) → Stay is_r ts us → Stay is_r ts (change_nsms d (map is_nsm ts) us)
nsms_stay d [] us h = h
nsms_stay d (NSM ∷ ts) [] h = h
nsms_stay d (NSM ∷ ts) (u ∷ us) h = ((λ x. absurd (cc), λ x. absurd (cc)), nsms_stay d ts us h.1)
nsms_stay d (_ ∷ ts) us h = h

bracket_stays : (d : Class) (ts us : List Class) (p : ℕ) → IsFree ts p → Stay is_r ts us → Stay is_r ts (change_bracket d (map is_nsm ts) us p)
bracket_stays d [] us p f h = absurd f
bracket_stays d (t ∷ ts) [] p f h = absurd h
bracket_stays d (t ∷ ts) (u ∷ us) zero f h = (f d, nsms_stay d ts us h.1)
bracket_stays d (t ∷ ts) (u ∷ us) (suc p) f h =
    let next : suc (p + 1) ≡ suc p + 1 = omega arith in
    subst (λ n. Stay is_r (t ∷ ts) (u ∷ (take p us ++ d ∷ change_nsms d (drop n (is_nsm t ∷ map is_nsm ts)) (drop n (u ∷ us))))) next
    (h.0, bracket_stays d ts us p f h.1)

pair_stays : (ts us : List Class) (p : ℕ × ℕ) (m : Option Class) → IsFree ts p.0 → IsFree ts p.1 → Stay is_r ts us
    → Stay is_r ts (elim m as (λ x. List Class) [ None ↦ us | Some d ↦ change_bracket d (map is_nsm ts) (change_bracket d (map is_nsm ts) us p.0) p.1 ])
pair_stays ts us p None a b h = h
pair_stays ts us p (Some d) a b h = bracket_stays d ts (change_bracket d (map is_nsm ts) us p.0) p.1 b (bracket_stays d ts us p.0 a h)

pairs_stay : (e sos : Class) (ts : List Class) (ps : List (ℕ × ℕ)) (us : List Class) → HaveEnds (IsFree ts) ps → Stay is_r ts us
    → Stay is_r ts (resolve_pairs e sos (map is_nsm ts) ps us)
pairs_stay e sos ts [] us i h = h
pairs_stay e sos ts (p ∷ ps) us i h =
    let m : Option Class = pair_direction e (context_of sos us p.0) (take (p.1 - p.0 - 1) (drop (p.0 + 1) us)) in
    pairs_stay e sos ts ps (resolve_pair e sos (map is_nsm ts) p us) i.2 (pair_stays ts us p m i.0 i.1 h)

-- N1 and N2
n1_left : (sos eos : Class) (b : List Class) (u : Class) (a : List Class) → is_from_left u ≡ true → is_from_left (n1_at sos eos b u a) ≡ true
n1_left sos eos b L a e = refl
n1_left sos eos b EN a e = refl
n1_left sos eos b AN a e = refl
n1_left sos eos b _ a e = absurd (cc)

n1_right : (sos eos : Class) (b : List Class) (u : Class) (a : List Class) → is_r u ≡ true → is_r (n1_at sos eos b u a) ≡ true
n1_right sos eos b R a e = refl
n1_right sos eos b _ a e = absurd (cc)

n2_left : (d u : Class) → is_from_left u ≡ true → is_from_left (n2_at d u) ≡ true
n2_left d L e = refl
n2_left d EN e = refl
n2_left d AN e = refl
n2_left d _ e = absurd (cc)

n2_right : (d u : Class) → is_r u ≡ true → is_r (n2_at d u) ≡ true
n2_right d R e = refl
n2_right d _ e = absurd (cc)

types_stay : (ucd : Data) (level : ℕ) (sos eos : Class) (chars : List ℕ) (ts : List Class) → Stay is_r ts (sequence_types ucd level sos eos chars ts)
types_stay ucd level sos eos chars ts =
    let e : Class = direction level in
    let ws : List Class = weak sos ts in
    let found : List (ℕ × ℕ) = pairs ucd chars ws in
    let paired : List Class = resolve_pairs e sos (map is_nsm ts) found ws in
    let h : Stay is_r ts ws = weak_stay sos ts in
    let ends : HaveEnds (IsFree ts) found = pairs_ends (IsFree ts) ucd chars ws
    (all_free (IsFree ts) 0 ts ws (λ k x. let same : k ≡ 0 + k = omega arith in subst (IsFree ts) same x) h) in
    let hp : Stay is_r ts paired = pairs_stay e sos ts found ws ends h in
    stay_by_map is_r is_r (n2_at e) (n2_left e) (n2_right e) ts (n1 sos eos paired)
    (stay_by_rule is_r is_r (n1_at sos eos) (n1_left sos eos) (n1_right sos eos) [] ts paired hp)

-- I1 and I2
left_even : (level n : ℕ) (u : Class) → level % 2 ≡ n → is_from_left u ≡ true
    → (elim n as (λ x. ℕ) [ zero ↦ level + rise_even u | suc m ↦ level + rise_odd u ]) % 2 ≡ 0
left_even level zero L h e = omega arith
left_even level zero EN h e = omega arith
left_even level zero AN h e = omega arith
left_even level (suc m) L h e = omega arith
left_even level (suc m) EN h e = omega arith
left_even level (suc m) AN h e = omega arith
left_even level n _ h e = absurd (cc)

right_odd : (level n : ℕ) (u : Class) → level % 2 ≡ n → is_r u ≡ true
    → (elim n as (λ x. ℕ) [ zero ↦ level + rise_even u | suc m ↦ level + rise_odd u ]) % 2 ≡ 1
right_odd level zero R h e = omega arith
right_odd level (suc m) R h e = omega arith
right_odd level n _ h e = absurd (cc)

has_direction : (level : ℕ) (t u : Class) → Stays is_r t u → HasDirection t (Some (implicit_at level u))
has_direction level L u h = left_even level (level % 2) u refl (h.0 refl)
has_direction level EN u h = left_even level (level % 2) u refl (h.0 refl)
has_direction level AN u h = left_even level (level % 2) u refl (h.0 refl)
has_direction level R u h = right_odd level (level % 2) u refl (h.1 refl)
has_direction level AL u h = right_odd level (level % 2) u refl (h.1 refl)
has_direction level _ u h = tt

-- each level of a sequence has the direction of its type
abbrev pub HaveDirections : List Class → List ℕ → Type 0
HaveDirections [] ls = Unit {0}
HaveDirections (t ∷ ts) [] = Unit {0}
HaveDirections (t ∷ ts) (l ∷ ls) = HasDirection t (Some l) × HaveDirections ts ls

have_directions : (level : ℕ) (ts us : List Class) → Stay is_r ts us → HaveDirections ts (implicit level us)
have_directions level [] us h = tt
have_directions level (t ∷ ts) [] h = absurd h
have_directions level (t ∷ ts) (u ∷ us) h = (has_direction level t u h.0, have_directions level ts us h.1)

pub sequence_directions : (ucd : Data) (level : ℕ) (sos eos : Class) (chars : List ℕ) (ts : List Class)
    → HaveDirections ts (sequence_levels ucd level sos eos chars ts)
sequence_directions ucd level sos eos chars ts =
    have_directions level ts (sequence_types ucd level sos eos chars ts) (types_stay ucd level sos eos chars ts)
