-- A rule over a whole list, as a run with a state: the types done, and the result of the run on the rest.
use Rattle.std.proofs.Common.{append_assoc, ◌≡◌, ◌<◌, ◌+◌, ◌∙◌, ℕ, List, [], ◌∷◌, ◌++◌, length, get_or, drop, take, set, refl, arith, Bool, true, false}
use Rattle.std.proofs.lemmas.List.{at_drop_more, take_more, take_more_set, drop-set-lt}
use Rattle.bx_ucd.specs.declared.class.Class.{Class}
use Rattle.bx_ucd.specs.declared.class.Class.TheVariants.{L}
use Rattle.bx_ucd.specs.Class.{is_strong, is_nsm, is_neutral}
use Rattle.bx_levels.specs.resolve.Weak.{at_each, w1_at, w2_at, w4_at, nsm_class_at, nsm_class_after, is_en, nearest_that, number_after, beside}
use Rattle.bx_levels.specs.resolve.Weak.{separator, w5_at, w7_at, is_en_past, is_et, terminator_of, is_left_or_right, left_number}
use Rattle.bx_levels.specs.resolve.Neutral.{n1_at, side, side_of, agreed}

module _ {S : Type 0} (next : S → Class → S) (out : S → Class → List Class → Class) where
  abbrev pub run : S → List Class → List Class
  run s [] = []
  run s (t ∷ ts) = out s t ts ∷ run (next s t) ts

  -- a turn that writes
  pub run_write : (ts : List Class) (i : ℕ) (s : S) (x : Class) (u : S) → i < length ts → x ≡ out s (get_or ts i L) (drop (i + 1) ts)
      → u ≡ next s (get_or ts i L) → take i ts ++ run s (drop i ts) ≡ take (i + 1) (set ts i x) ++ run u (drop (i + 1) (set ts i x))
  run_write ts i s x u h e k =
      let d : drop (i + 1) (set ts i x) ≡ drop (i + 1) ts = drop-set-lt (i + 1) ts i x (omega arith) in
      let a : take (i + 1) (set ts i x) ≡ take i ts ++ x ∷ [] = take_more_set ts i x h in
      let b : run s (drop i ts) ≡ out s (get_or ts i L) (drop (i + 1) ts) ∷ run (next s (get_or ts i L)) (drop (i + 1) ts) = at_drop_more (run s) ts i L h in
      let f : (take i ts ++ x ∷ []) ++ run u (drop (i + 1) ts) ≡ take i ts ++ (x ∷ run u (drop (i + 1) ts)) =
      append_assoc (take i ts) (x ∷ []) (run u (drop (i + 1) ts)) in
      cc

  -- a turn that leaves the element
  pub run_keep : (ts : List Class) (i : ℕ) (s : S) (u : S) → i < length ts → get_or ts i L ≡ out s (get_or ts i L) (drop (i + 1) ts)
      → u ≡ next s (get_or ts i L) → take i ts ++ run s (drop i ts) ≡ take (i + 1) ts ++ run u (drop (i + 1) ts)
  run_keep ts i s u h e k =
      let a : take (i + 1) ts ≡ take i ts ++ get_or ts i L ∷ [] = take_more ts i L h in
      let b : run s (drop i ts) ≡ out s (get_or ts i L) (drop (i + 1) ts) ∷ run (next s (get_or ts i L)) (drop (i + 1) ts) = at_drop_more (run s) ts i L h in
      let f : (take i ts ++ get_or ts i L ∷ []) ++ run u (drop (i + 1) ts) ≡ take i ts ++ (get_or ts i L ∷ run u (drop (i + 1) ts)) =
      append_assoc (take i ts) (get_or ts i L ∷ []) (run u (drop (i + 1) ts)) in
      cc

  -- a rule whose look back is a state
  pub at_each-run : (rule : List Class → Class → List Class → Class) (state : List Class → S) → ((b : List Class) (t : Class) → state (t ∷ b) ≡ next
      (state b) t)
      → ((b : List Class) (t : Class) (a : List Class) → rule b t a ≡ out (state b) t a) → (b ts : List Class) → at_each rule b ts ≡ run (state b) ts
  at_each-run rule state h k b [] = refl
  at_each-run rule state h k b (t ∷ ts) = let e : at_each rule (t ∷ b) ts ≡ run (state (t ∷ b)) ts = at_each-run rule state h k (t ∷ b) ts
      in let f : rule b t ts
      ≡ out (state b) t ts = k b t ts in let g : state (t ∷ b) ≡ next (state b) t = h b t in cc

abbrev pub next_nsm_class : Class → Class → Class
next_nsm_class s t = elim (is_nsm t) [ true ↦ s | false ↦ nsm_class_after t ]

abbrev pub out_nsm_class : Class → Class → List Class → Class
out_nsm_class s t a = elim (is_nsm t) [ true ↦ s | false ↦ t ]

pub w1_run : (sos : Class) (ts : List Class) → at_each (w1_at sos) [] ts ≡ run next_nsm_class out_nsm_class sos ts
w1_run sos ts = at_each-run next_nsm_class out_nsm_class (w1_at sos) (nsm_class_at sos) (λ b t. refl) (λ b t a. refl) [] ts

abbrev pub next_strong : Class → Class → Class
next_strong s t = elim (is_strong t) [ true ↦ t | false ↦ s ]

abbrev pub out_number : Class → Class → List Class → Class
out_number s t a = elim (is_en t) [ true ↦ number_after s | false ↦ t ]

pub w2_run : (sos : Class) (ts : List Class) → at_each (w2_at sos) [] ts ≡ run next_strong out_number sos ts
w2_run sos ts = at_each-run next_strong out_number (w2_at sos) (nearest_that is_strong sos) (λ b t. refl) (λ b t a. refl) [] ts

abbrev pub next_beside : Class → Class → Class
next_beside s t = t

abbrev pub out_separator : Class → Class → List Class → Class
out_separator s t a = separator s t (beside a)

pub w4_run : (ts : List Class) → at_each w4_at [] ts ≡ run next_beside out_separator (beside []) ts
w4_run ts = at_each-run next_beside out_separator w4_at beside (λ b t. refl) (λ b t a. refl) [] ts

abbrev pub next_past : Bool → Class → Bool
next_past s t = elim (is_et t) [ true ↦ s | false ↦ is_en t ]

abbrev pub out_terminator : Bool → Class → List Class → Class
out_terminator s t a = elim (is_et t) [ true ↦ terminator_of s (is_en_past a) | false ↦ t ]

pub w5_run : (ts : List Class) → at_each w5_at [] ts ≡ run next_past out_terminator false ts
w5_run ts = at_each-run next_past out_terminator w5_at is_en_past (λ b t. refl) (λ b t a. refl) [] ts

abbrev pub next_side : Class → Class → Class
next_side s t = elim (is_left_or_right t) [ true ↦ t | false ↦ s ]

abbrev pub out_left : Class → Class → List Class → Class
out_left s t a = elim (is_en t) [ true ↦ left_number s | false ↦ t ]

pub w7_run : (sos : Class) (ts : List Class) → at_each (w7_at sos) [] ts ≡ run next_side out_left sos ts
w7_run sos ts = at_each-run next_side out_left (w7_at sos) (nearest_that is_left_or_right sos) (λ b t. refl) (λ b t a. refl) [] ts

past_cons : (t : Class) (ts : List Class) → is_et t ≡ true → is_en_past (t ∷ ts) ≡ is_en_past ts
past_cons t ts e = rw (e, is_en_past)

-- within a run of ET the answer stays
pub past_more : (ts : List Class) (i : ℕ) → i < length ts → is_et (get_or ts i L) ≡ true → is_en_past (drop i ts) ≡ is_en_past (drop (i + 1) ts)
past_more ts i h e = at_drop_more is_en_past ts i L h ∙ past_cons (get_or ts i L) (drop (i + 1) ts) e

abbrev pub next_neutral : Class → Class → Class
next_neutral s t = elim (is_neutral t) [ true ↦ s | false ↦ side_of t ]

abbrev pub out_neutral : Class → Class → Class → List Class → Class
out_neutral eos s t a = elim (is_neutral t) [ true ↦ agreed t s (side eos a) | false ↦ t ]

pub n1_run : (sos eos : Class) (ts : List Class) → at_each (n1_at sos eos) [] ts ≡ run next_neutral (out_neutral eos) sos ts
n1_run sos eos ts = at_each-run next_neutral (out_neutral eos) (n1_at sos eos) (side sos) (λ b t. refl) (λ b t a. refl) [] ts

side_cons : (eos t : Class) (ts : List Class) → is_neutral t ≡ true → side eos (t ∷ ts) ≡ side eos ts
side_cons eos t ts e = rw (e, side)

-- within a run of neutrals the side stays
pub side_more : (eos : Class) (ts : List Class) (i : ℕ) → i < length ts → is_neutral (get_or ts i L) ≡ true → side eos (drop i ts) ≡ side eos (drop (i + 1) ts)
side_more eos ts i h e = at_drop_more (side eos) ts i L h ∙ side_cons eos (get_or ts i L) (drop (i + 1) ts) e
