-- Rules one after another, as one run.
use Rattle.std.proofs.Common.{append_assoc, ◌≡◌, ◌<◌, ◌+◌, ◌∙◌, ℕ, List, [], ◌∷◌, ◌++◌, length, get_or, set, drop, take, refl, ap, subst, arith, map, Bool}
use Rattle.std.proofs.Common.{true, false, Option, Some, None}
use Rattle.std.specs.Prelude.{◌&&◌, ◌||◌}
use Rattle.std.proofs.lemmas.List.{at_drop_more, take_more, take_more_set, drop-set-lt}
use Rattle.std.proofs.Math.Seq.{drop-length}
use Rattle.bx_ucd.specs.declared.class.Class.TheVariants.{L, R, AL, AN, EN, ES, ET, CS, B, S, WS, ON}
use Rattle.bx_ucd.specs.declared.class.Class.{Class}
use Rattle.bx_ucd.specs.Class.{is_neutral}
use Rattle.bx_levels.specs.declared.resolve.before.Before.{Before}
use Rattle.bx_levels.specs.declared.resolve.before.Strong.{Strong}
use Rattle.bx_levels.specs.declared.resolve.before.Strong.TheVariants.{Left, Right, Arabic}
use Rattle.bx_levels.specs.declared.resolve.before.Neighbour.{Neighbour}
use Rattle.bx_levels.specs.declared.resolve.before.Neighbour.TheVariants.{EuropeanNumber, ArabicNumber, Other}
use Rattle.bx_levels.specs.declared.resolve.before.Terminators.{Terminators}
use Rattle.bx_levels.specs.declared.resolve.before.Terminators.TheVariants.{Numbers, Neutrals, Undecided}
use Rattle.bx_levels.specs.resolve.Weak.{w1, w2, w3, w4, w5, w6, w7, weak, w3_at, w6_at, is_en, is_an, is_et, is_left_or_right, beside, separator, is_en_past}
use Rattle.bx_levels.specs.resolve.Weak.{number_after, left_number, terminator_of}
use Rattle.bx_levels.specs.resolve.Turns.{after_w1, after_w2, after_w4, after_w6, after_w7, begin, decided, is_separator, is_settled, left_number_by, nsm_class_next}
use Rattle.bx_levels.specs.resolve.Turns.{neighbour_of, next, number_by, rest_after_w3, strong_next, strong_of, terminator_by, terminators_next, written}
use Rattle.bx_levels.specs.resolve.Neutral.{n1, n2, n2_at}
use Rattle.bx_levels.specs.resolve.Kept.{taken, all_taken}
use Rattle.bx_levels.proofs.resolve_lemmas.Run.{run, w1_run, w2_run, n1_run, next_nsm_class, out_nsm_class, next_strong, out_number, next_beside, out_separator, next_past}
use Rattle.bx_levels.proofs.resolve_lemmas.Run.{out_terminator, next_side, out_left, w4_run, w5_run, w7_run, next_neutral, out_neutral}

map_run : {S : Type 0} (next : S → Class → S) (out : S → Class → List Class → Class) (f : Class → Class) (s : S) (ts : List Class)
    → map f (run next out s ts) ≡ run next (λ u t a. f (out u t a)) s ts
map_run next out f s [] = refl
map_run next out f s (t ∷ ts) = ap (λ r. f (out s t ts) ∷ r) (map_run next out f (next s t) ts)

-- the second rule looks at the result of the first on the rest
module _ {S U : Type 0} (n : S → Class → S) (o : S → Class → List Class → Class) (m : U → Class → U) (p : U → Class → List Class → Class)
    (early : S → Class → Class) (same : (s : S) (t : Class) (a : List Class) → o s t a ≡ early s t) where
  abbrev next_both : S × U → Class → S × U
  next_both (s, u) t = (n s t, m u (early s t))

  abbrev out_both : S × U → Class → List Class → Class
  out_both (s, u) t a = p u (early s t) (run n o (n s t) a)

  run_run : (s : S) (u : U) (ts : List Class) → run m p u (run n o s ts) ≡ run next_both out_both (s, u) ts
  run_run s u [] = refl
  run_run s u (t ∷ ts) =
      let ih : run m p (m u (early s t)) (run n o (n s t) ts) ≡ run next_both out_both (n s t, m u (early s t)) ts = run_run (n s t) (m u (early s t)) ts in
      let e : o s t ts ≡ early s t = same s t ts in
      rw e (ap (λ r. p u (early s t) (run n o (n s t) ts) ∷ r) ih)

-- W1, W2 and W3
abbrev pub next_first : Class × Class → Class → Class × Class
next_first (s, u) t = (next_nsm_class s t, next_strong u (after_w1 s t))

abbrev pub out_first : Class × Class → Class → List Class → Class
out_first (s, u) t a = w3_at (out_number u (after_w1 s t) a)

pub first_run : (sos : Class) (ts : List Class) → w3 (w2 sos (w1 sos ts)) ≡ run next_first out_first (sos, sos) ts
first_run sos ts = ap (λ xs. w3 (w2 sos xs)) (w1_run sos ts) ∙ ap w3 (w2_run sos (run next_nsm_class out_nsm_class sos ts))
    ∙ ap w3 (run_run next_nsm_class out_nsm_class next_strong out_number after_w1 (λ s t a. refl) sos sos ts) ∙ map_run _ _ w3_at (sos, sos) ts

-- N1, and N2 where an embedding direction is given
abbrev pub out_taken : Option Class → Class → Class → Class → List Class → Class
out_taken embedding eos s t a = taken embedding (out_neutral eos s t a)

pub neutral_run : (embedding : Option Class) (sos eos : Class) (ts : List Class)
    → all_taken embedding (n1 sos eos ts) ≡ run next_neutral (out_taken embedding eos) sos ts
neutral_run None sos eos ts = n1_run sos eos ts
neutral_run (Some embedding) sos eos ts =
    ap (n2 embedding) (n1_run sos eos ts) ∙ map_run next_neutral (out_neutral eos) (n2_at embedding) sos ts

pub keeps_other : (embedding : Option Class) (t : Class) → is_neutral t ≡ false → taken embedding t ≡ t
keeps_other None t e = refl
keeps_other (Some embedding) t e = rw (e, n2_at)

-- a run whose state depends on the rest
module _ {S : Type 0} (next : S → Class → List Class → S) (out : S → Class → List Class → Class) where
  abbrev pub go : S → List Class → List Class
  go s [] = []
  go s (t ∷ ts) = out s t ts ∷ go (next s t ts) ts

  pub go_write : (ts : List Class) (i : ℕ) (s : S) (x : Class) (u : S) → i < length ts → x ≡ out s (get_or ts i L) (drop (i + 1) ts)
      → u ≡ next s (get_or ts i L) (drop (i + 1) ts) → take i ts ++ go s (drop i ts) ≡ take (i + 1) (set ts i x) ++ go u (drop (i + 1) (set ts i x))
  go_write ts i s x u h e k =
      let d : drop (i + 1) (set ts i x) ≡ drop (i + 1) ts = drop-set-lt (i + 1) ts i x (omega arith) in
      let a : take (i + 1) (set ts i x) ≡ take i ts ++ x ∷ [] = take_more_set ts i x h in
      let b : go s (drop i ts) ≡ out s (get_or ts i L) (drop (i + 1) ts) ∷ go (next s (get_or ts i L) (drop (i + 1) ts)) (drop (i + 1) ts) =
      at_drop_more (go s) ts i L h in
      let f : (take i ts ++ x ∷ []) ++ go u (drop (i + 1) ts) ≡ take i ts ++ (x ∷ go u (drop (i + 1) ts)) =
      append_assoc (take i ts) (x ∷ []) (go u (drop (i + 1) ts)) in
      cc

-- W4 makes no ET, and after an ET it does not change whether the next other type is EN
et_of : (b t a : Class) → is_et (separator b t a) ≡ true → t ≡ ET
et_of b ES a e = (elim (is_en b && is_en a) as (λ v. is_et (elim v as (λ x. Class) [ true ↦ EN | false ↦ ES ]) ≡ true → ES ≡ ET)
    [ true ↦ λ h. absurd (cc) | false ↦ λ h. absurd (cc) ]) e
et_of b CS a e = (elim (is_en b && is_en a) as
    (λ v. is_et (elim v as (λ x. Class) [ true ↦ EN | false ↦ elim (is_an b && is_an a) as (λ x. Class) [ true ↦ AN | false ↦ CS ] ]) ≡ true → CS ≡ ET) [
      | true ↦ λ h. absurd (cc)
      | false ↦ elim (is_an b && is_an a) as (λ v. is_et (elim v as (λ x. Class) [ true ↦ AN | false ↦ CS ]) ≡ true → CS ≡ ET)
          [ true ↦ λ h. absurd (cc) | false ↦ λ h. absurd (cc) ]
    ]) e
et_of b ET a e = refl
et_of b _ a e = absurd (cc)

past_same : (ts : List Class) → is_en_past (run next_beside out_separator ET ts) ≡ is_en_past ts
past_same [] = refl
past_same (ET ∷ ts) = past_same ts
past_same (ES ∷ ts) = refl
past_same (CS ∷ ts) = refl
past_same (_ ∷ ts) = refl

past_behind : (b t a : Class) (ts : List Class) → is_et (separator b t a) ≡ true → is_en_past (run next_beside out_separator t ts) ≡ is_en_past ts
past_behind b t a ts e = ap (λ u. is_en_past (run next_beside out_separator u ts)) (et_of b t a e) ∙ past_same ts

-- W1 to W3, as a list; sos is both the type before the first character and the last strong type
number_is : (strong : Class) → number_after strong ≡ number_by (strong_of strong)
number_is L = refl
number_is AL = refl
number_is _ = refl

strong_is : (strong t : Class) → strong_of (next_strong strong t) ≡ strong_next (strong_of strong) t
strong_is strong L = refl
strong_is strong R = refl
strong_is strong AL = refl
strong_is strong _ = refl

third_is : (strong t : Class) → w3_at (elim (is_en t) as (λ _. Class) [ true ↦ number_after strong | false ↦ t ]) ≡ w3_at (after_w2 (strong_of strong) t)
third_is strong t = ap (λ n. w3_at (elim (is_en t) as (λ _. Class) [ true ↦ n | false ↦ t ])) (number_is strong)

third_list : (nsm_class strong : Class) (ts : List Class) → run next_first out_first (nsm_class, strong) ts ≡ rest_after_w3 nsm_class (strong_of strong) ts
third_list nsm_class strong [] = refl
third_list nsm_class strong (t ∷ ts) =
    let first : Class = after_w1 nsm_class t in
    let m : Class = nsm_class_next nsm_class t in
    ap (λ u. u ∷ run next_first out_first (m, next_strong strong first) ts) (third_is strong first)
    ∙ ap (λ r. w3_at (after_w2 (strong_of strong) first) ∷ r)
    (third_list m (next_strong strong first) ts ∙ ap (λ u. rest_after_w3 m u ts) (strong_is strong first))

-- W4: of the type before, only numbers count
fourth_is : (b t a : Class) → separator b t a ≡ after_w4 t (neighbour_of b) a
fourth_is EN ES EN = refl
fourth_is EN ES _ = refl
fourth_is _ ES a = refl
fourth_is EN CS EN = refl
fourth_is EN CS _ = refl
fourth_is AN CS AN = refl
fourth_is AN CS _ = refl
fourth_is _ CS a = refl
fourth_is b _ a = refl

pub no_separator : (t : Class) (neighbour : Neighbour) (a : Class) → is_separator t ≡ false → after_w4 t neighbour a ≡ t
no_separator ES neighbour a e = absurd (cc)
no_separator CS neighbour a e = absurd (cc)
no_separator _ neighbour a e = refl

-- W5: what is known of a run of ET, where `past` tells whether an EN precedes it and `follows` whether one follows it
abbrev Agrees : Terminators → Bool → Bool → Type 0
Agrees Numbers past follows = (past || follows) ≡ true
Agrees Neutrals past follows = (past || follows) ≡ false
Agrees Undecided past follows = past ≡ false

decided_agrees : (known : Terminators) (past follows : Bool) → Agrees known past follows → Agrees (decided known follows) past follows
decided_agrees Numbers past follows e = e
decided_agrees Neutrals past follows e = e
decided_agrees Undecided true follows e = absurd (cc)
decided_agrees Undecided false true e = refl
decided_agrees Undecided false false e = refl

terminator_is : (known : Terminators) (past follows : Bool) → Agrees known past follows
    → w6_at (terminator_of past follows) ≡ terminator_by (decided known follows)
terminator_is Numbers true follows e = refl
terminator_is Numbers false true e = refl
terminator_is Numbers false false e = absurd (cc)
terminator_is Neutrals true follows e = absurd (cc)
terminator_is Neutrals false true e = absurd (cc)
terminator_is Neutrals false false e = refl
terminator_is Undecided true follows e = absurd (cc)
terminator_is Undecided false true e = refl
terminator_is Undecided false false e = refl

-- a type after W4, `t` after W3 and `f` after W4
module _ (known : Terminators) (past : Bool) (t f : Class) (ts : List Class) (et : is_et f ≡ true → t ≡ ET) (agrees : Agrees known past (is_en_past (t ∷ ts))) where
  at_et : is_et f ≡ true → Agrees known past (is_en_past ts)
  at_et e = subst (λ u. Agrees known past (is_en_past (u ∷ ts))) (et e) agrees

  sixth_by : (v : Bool) → is_et f ≡ v
      → w6_at (elim v as (λ _. Class) [ true ↦ terminator_of past (is_en_past (run next_beside out_separator t ts)) | false ↦ f ])
      ≡ elim v as (λ _. Class) [
        | true ↦ terminator_by (elim v as (λ _. Terminators)
            [ true ↦ decided known (is_en_past ts) | false ↦ elim (is_en f) as (λ _. Terminators) [ true ↦ Numbers | false ↦ Undecided ] ])
        | false ↦ w6_at f
      ]
  sixth_by true e =
      ap (λ u. w6_at (terminator_of past u)) (ap (λ u. is_en_past (run next_beside out_separator u ts)) (et e) ∙ past_same ts)
      ∙ terminator_is known past (is_en_past ts) (at_et e)
  sixth_by false e = refl

  sixth_is : w6_at (out_terminator past f (run next_beside out_separator t ts)) ≡ after_w6 (terminators_next known f ts) f
  sixth_is = sixth_by (is_et f) refl

  agrees_by : (v u : Bool) → is_et f ≡ v → Agrees
      (elim v as (λ _. Terminators) [ true ↦ decided known (is_en_past ts) | false ↦ elim u as (λ _. Terminators) [ true ↦ Numbers | false ↦ Undecided ] ])
      (elim v as (λ _. Bool) [ true ↦ past | false ↦ u ]) (is_en_past ts)
  agrees_by true u e = decided_agrees known past (is_en_past ts) (at_et e)
  agrees_by false true e = refl
  agrees_by false false e = refl

  agrees_next : Agrees (terminators_next known f ts) (next_past past f) (is_en_past ts)
  agrees_next = agrees_by (is_et f) (is_en f) refl

-- W7: after W4 to W6 the nearest L or R is the nearest strong type before W3
no_side : (known : Terminators) (t : Class) (neighbour : Neighbour) (a : Class) → is_left_or_right t ≡ false
    → is_left_or_right (after_w6 known (after_w4 t neighbour a)) ≡ false
no_side known L neighbour a e = absurd (cc)
no_side known R neighbour a e = absurd (cc)
no_side known ES EuropeanNumber EN e = refl
no_side known ES EuropeanNumber _ e = refl
no_side known ES ArabicNumber a e = refl
no_side known ES Other a e = refl
no_side known CS EuropeanNumber EN e = refl
no_side known CS EuropeanNumber _ e = refl
no_side known CS ArabicNumber AN e = refl
no_side known CS ArabicNumber _ e = refl
no_side known CS Other a e = refl
no_side Numbers ET neighbour a e = refl
no_side Neutrals ET neighbour a e = refl
no_side Undecided ET neighbour a e = refl
no_side known _ neighbour a e = refl

kept_side : (side u : Class) (strong : Strong) → is_left_or_right u ≡ false → left_number side ≡ left_number_by strong
    → left_number (next_side side u) ≡ left_number_by strong
kept_side side u strong e h = ap (λ v. left_number (elim v as (λ _. Class) [ true ↦ u | false ↦ side ])) e ∙ h

side_is : (side : Class) (strong : Strong) (known : Terminators) (neighbour : Neighbour) (a t : Class) → left_number side ≡ left_number_by strong
    → left_number (next_side side (after_w6 known (after_w4 (w3_at (after_w2 strong t)) neighbour a))) ≡ left_number_by (strong_next strong t)
side_is side strong known neighbour a L h = refl
side_is side strong known neighbour a R h = refl
side_is side strong known neighbour a AL h = refl
side_is side Arabic known neighbour a EN h = h
side_is side Left known neighbour a EN h = h
side_is side Right known neighbour a EN h = h
side_is side strong known neighbour a t h = kept_side side (after_w6 known (after_w4 (w3_at (after_w2 strong t)) neighbour a)) strong
    (no_side known (w3_at (after_w2 strong t)) neighbour a refl) h

seventh_is : (side t : Class) (strong : Strong) → left_number (next_side side t) ≡ left_number_by strong → out_left side t [] ≡ after_w7 strong t
seventh_is side EN strong h = h
seventh_is side _ strong h = refl

-- W4 to W7 on the types after W3
abbrev last_rules : Class → Bool → Class → List Class → List Class
last_rules b past side ts = run next_side out_left side (map w6_at (run next_past out_terminator past (run next_beside out_separator b ts)))

all_from : (nsm_class : Class) (strong : Strong) (b : Class) (known : Terminators) (past : Bool) (side : Class) (ts : List Class)
    → left_number side ≡ left_number_by strong → Agrees known past (is_en_past (rest_after_w3 nsm_class strong ts))
    → last_rules b past side (rest_after_w3 nsm_class strong ts)
    ≡ go next written (record { nsm_class = nsm_class; strong = strong; neighbour = neighbour_of b; terminators = known }) ts
all_from nsm_class strong b known past side [] h k = refl
all_from nsm_class strong b known past side (t ∷ ts) h k =
    let x : Class = w3_at (after_w2 strong (after_w1 nsm_class t)) in
    let m : Class = nsm_class_next nsm_class t in
    let n : Strong = strong_next strong (after_w1 nsm_class t) in
    let r : List Class = rest_after_w3 m n ts in
    let f : Class = separator b x (beside r) in
    let g : Class = after_w4 x (neighbour_of b) (beside r) in
    let u : Terminators = terminators_next known g r in
    let w : Class = after_w6 u g in
    let four : f ≡ g = fourth_is b x (beside r) in
    let six : w6_at (out_terminator past f (run next_beside out_separator x r)) ≡ w =
    sixth_is known past x f r (et_of b x (beside r)) k ∙ ap (λ y. after_w6 (terminators_next known y r) y) four in
    let agrees : Agrees u (next_past past g) (is_en_past r) =
    subst (λ y. Agrees (terminators_next known y r) (next_past past y) (is_en_past r)) four (agrees_next known past x f r (et_of b x (beside r)) k) in
    let sides : left_number (next_side side w) ≡ left_number_by n = side_is side strong u (neighbour_of b) (beside r) (after_w1 nsm_class t) h in
    ap (λ y. out_left side y [] ∷ last_rules x (next_past past f) (next_side side y) r) six
    ∙ ap (λ y. out_left side w [] ∷ last_rules x (next_past past y) (next_side side w) r) four
    ∙ ap (λ y. y ∷ last_rules x (next_past past g) (next_side side w) r) (seventh_is side w n sides)
    ∙ ap (λ ys. after_w7 n w ∷ ys) (all_from m n x u (next_past past g) (next_side side w) ts sides agrees)

left_is : (sos : Class) → left_number sos ≡ left_number_by (strong_of sos)
left_is L = refl
left_is AL = refl
left_is _ = refl

last_run : (sos : Class) (ts : List Class) → w7 sos (w6 (w5 (w4 ts))) ≡ last_rules ON false sos ts
last_run sos ts = ap (λ xs. w7 sos (w6 (w5 xs))) (w4_run ts) ∙ ap (λ xs. w7 sos (w6 xs)) (w5_run (run next_beside out_separator ON ts))
    ∙ w7_run sos (map w6_at (run next_past out_terminator false (run next_beside out_separator ON ts)))

pub weak_run : (sos : Class) (ts : List Class) → weak sos ts ≡ go next written (begin sos) ts
weak_run sos ts = ap (λ xs. w7 sos (w6 (w5 (w4 xs)))) (first_run sos ts ∙ third_list sos sos ts) ∙ last_run sos (rest_after_w3 sos (strong_of sos) ts)
    ∙ all_from sos (strong_of sos) ON Undecided false sos ts (left_is sos) refl

-- a look ahead, one character on
past_at : (t : Class) (ts : List Class) (v : Bool) → is_et t ≡ v → is_en_past (t ∷ ts) ≡ elim v [ true ↦ is_en_past ts | false ↦ is_en t ]
past_at t ts true e = rw (e, is_en_past)
past_at t ts false e = rw (e, is_en_past)

-- an ET after W3 is not strong
et_not_strong : (strong : Strong) (t : Class) → is_et (w3_at (after_w2 strong t)) ≡ true → strong_next strong t ≡ strong
et_not_strong strong L e = absurd (cc)
et_not_strong strong R e = absurd (cc)
et_not_strong strong AL e = absurd (cc)
et_not_strong strong _ e = refl

pub past_et : (nsm_class : Class) (strong : Strong) (ts : List Class) (i : ℕ) → i < length ts → is_et (w3_at (after_w2 strong (after_w1 nsm_class (get_or ts i L)))) ≡ true
    → is_en_past (rest_after_w3 nsm_class strong (drop i ts)) ≡ is_en_past (rest_after_w3 (nsm_class_next nsm_class (get_or ts i L)) strong (drop (i + 1) ts))
past_et nsm_class strong ts i h e =
    let t : Class = get_or ts i L in
    let m : Class = nsm_class_next nsm_class t in
    ap is_en_past (at_drop_more (rest_after_w3 nsm_class strong) ts i L h)
    ∙ past_at (w3_at (after_w2 strong (after_w1 nsm_class t))) (rest_after_w3 m (strong_next strong (after_w1 nsm_class t)) (drop (i + 1) ts)) true e
    ∙ ap (λ u. is_en_past (rest_after_w3 m u (drop (i + 1) ts))) (et_not_strong strong (after_w1 nsm_class t) e)

pub past_other : (nsm_class : Class) (strong : Strong) (ts : List Class) (i : ℕ) → i < length ts
    → is_et (w3_at (after_w2 strong (after_w1 nsm_class (get_or ts i L)))) ≡ false
    → is_en_past (rest_after_w3 nsm_class strong (drop i ts)) ≡ is_en (w3_at (after_w2 strong (after_w1 nsm_class (get_or ts i L))))
past_other nsm_class strong ts i h e =
    let t : Class = get_or ts i L in
    ap is_en_past (at_drop_more (rest_after_w3 nsm_class strong) ts i L h)
    ∙ past_at (w3_at (after_w2 strong (after_w1 nsm_class t))) (rest_after_w3 (nsm_class_next nsm_class t) (strong_next strong (after_w1 nsm_class t)) (drop (i + 1) ts)) false e

pub past_end : (nsm_class : Class) (strong : Strong) (ts : List Class) → is_en_past (rest_after_w3 nsm_class strong (drop (length ts) ts)) ≡ false
past_end nsm_class strong ts = ap (λ xs. is_en_past (rest_after_w3 nsm_class strong xs)) (drop-length ts)

-- a settled type stays
settled_written : (before : Before) (t : Class) (rest : List Class) → is_settled t ≡ true → t ≡ written before t rest
settled_written before L rest e = refl
settled_written before R rest e = refl
settled_written before B rest e = refl
settled_written before S rest e = refl
settled_written before WS rest e = refl
settled_written before ON rest e = refl
settled_written before _ rest e = absurd (cc)

pub settled_keep : (ts : List Class) (i : ℕ) (before new : Before) → i < length ts → is_settled (get_or ts i L) ≡ true
    → new ≡ next before (get_or ts i L) (drop (i + 1) ts)
    → take i ts ++ go next written before (drop i ts) ≡ take (i + 1) ts ++ go next written new (drop (i + 1) ts)
settled_keep ts i before new h e k =
    let t : Class = get_or ts i L in
    let rest : List Class = drop (i + 1) ts in
    let a : take (i + 1) ts ≡ take i ts ++ t ∷ [] = take_more ts i L h in
    let b : go next written before (drop i ts) ≡ written before t rest ∷ go next written (next before t rest) rest =
    at_drop_more (go next written before) ts i L h in
    let c : t ≡ written before t rest = settled_written before t rest e in
    let f : (take i ts ++ t ∷ []) ++ go next written new rest ≡ take i ts ++ (t ∷ go next written new rest) =
    append_assoc (take i ts) (t ∷ []) (go next written new rest) in
    cc
