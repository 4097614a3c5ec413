-- A prefix of the sought letters and the letters that follow it: where the sought ones are found.
use Rattle.std.proofs.Common.{◌≡◌, ◌≢◌, ◌≤◌, ◌<◌, ◌+◌, ◌-◌, ◌∙◌, inl, inr, ℕ, zero, suc, Bool, true, false, List, [], ◌∷◌, ◌++◌, length, map, get_or}
use Rattle.std.proofs.Common.{Option, None, take, drop, refl, ap, ap₂, sym, arith, length-append, length-drop, length-take-le, append_assoc}
use Rattle.std.proofs.lemmas.Bool.Decides.{nat_tests}
use Rattle.std.proofs.lemmas.Bool.{cases_lt}
use Rattle.std.proofs.lemmas.List.{map-append, length-map, drop-take, take_more, same_from_push, drop-map, take_all}
use Rattle.bx_find.specs.Borders.{IsBorder}
use Rattle.bx_find.specs.Matches.{begins, begins_some}
use Rattle.bx_find.specs.Prefix.{Placed, found, with_letters, found_after}

-- the letters of some pairs
abbrev pub letters_in : List Placed → List ℕ
letters_in ps = map (λ (q : Placed). q.1) ps

abbrev pub places_in : List Placed → List (Option ℕ)
places_in ps = map (λ (q : Placed). q.0) ps

pub not_true : (b : Bool) → (b ≡ true → ⊥) → b ≡ false
not_true true h = absurd (h refl)
not_true false h = refl

-- ---- lists that begin with others

begins-front : (ls ys zs : List ℕ) → length ys ≤ length ls → begins ls (ys ++ zs) ≡ true → take (length ys) ls ≡ ys
begins-front ls [] zs h e = refl
begins-front [] (y ∷ ys) zs h e = absurd (omega arith)
begins-front (l ∷ ls) (y ∷ ys) zs h e =
    let same : l ≡ y = grind (arith, nat_tests) in
    let rest : begins ls (ys ++ zs) ≡ true = grind (arith, nat_tests) in
    ap₂ ◌∷◌ same (begins-front ls ys zs (omega arith) rest)

begins-all : (ls zs : List ℕ) → begins ls (ls ++ zs) ≡ true
begins-all [] zs = refl
begins-all (l ∷ ls) zs = let rest = begins-all ls zs in grind (arith, nat_tests)

pub begins-some : (ls xs : List ℕ) → 0 < length ls → begins_some ls xs ≡ begins ls xs
begins-some [] xs h = absurd (omega arith)
begins-some (l ∷ ls) xs h = refl

pub found-not : (ls : List ℕ) (p : Placed) (ps : List Placed) → begins_some ls (p.1 ∷ letters_in ps) ≡ false → found ls (p ∷ ps) ≡ found ls ps
found-not ls p ps e = rw (e, found) refl

pub found-here : (ls : List ℕ) (p : Placed) (ps : List Placed) → begins_some ls (p.1 ∷ letters_in ps) ≡ true → found ls (p ∷ ps) ≡ p.0 ∷ found ls ps
found-here ls p ps e = rw (e, found) refl

-- ---- places with letters

pub length-with : (os : List (Option ℕ)) (ls : List ℕ) → length os ≤ length ls → length (with_letters os ls) ≡ length os
length-with [] ls h = refl
length-with (o ∷ os) [] h = absurd (omega arith)
length-with (o ∷ os) (l ∷ ls) h = ap suc (length-with os ls (omega arith))

letters-with : (os : List (Option ℕ)) (ls : List ℕ) → length os ≤ length ls → letters_in (with_letters os ls) ≡ take (length os) ls
letters-with [] ls h = refl
letters-with (o ∷ os) [] h = absurd (omega arith)
letters-with (o ∷ os) (l ∷ ls) h = ap (λ ks. l ∷ ks) (letters-with os ls (omega arith))

places-with : (os : List (Option ℕ)) (ls : List ℕ) → length os ≤ length ls → places_in (with_letters os ls) ≡ os
places-with [] ls h = refl
places-with (o ∷ os) [] h = absurd (omega arith)
places-with (o ∷ os) (l ∷ ls) h = ap (λ ks. o ∷ ks) (places-with os ls (omega arith))

head-same : (x y : ℕ) (xs ys : List ℕ) → x ∷ xs ≡ y ∷ ys → (x ≡ y) × (xs ≡ ys)
head-same x y xs ys e = (cc, cc)

named : (w : List Placed) (ls : List ℕ) → length w ≤ length ls → letters_in w ≡ take (length w) ls → w ≡ with_letters (places_in w) ls
named [] ls h e = refl
named (p ∷ w) [] h e = absurd (omega arith)
named (p ∷ w) (l ∷ ls) h e =
    let same = head-same p.1 l (letters_in w) (take (length w) ls) e in
    ap₂ (λ k (ps : List Placed). (p.0, k) ∷ ps) same.0 (named w ls (omega arith) same.1)

with-more : (os : List (Option ℕ)) (ls : List ℕ) (at : Option ℕ) → length os < length ls → with_letters (os ++ at ∷ []) ls ≡ with_letters os ls ++ (at, get_or ls (length os) 0) ∷ []
with-more os [] at h = absurd (omega arith)
with-more [] (l ∷ ls) at h = refl
with-more (o ∷ os) (l ∷ ls) at h = ap (λ (ps : List Placed). (o, l) ∷ ps) (with-more os ls at (omega arith))

-- the next letter fits
pub one_more : (os : List (Option ℕ)) (ls : List ℕ) (at : Option ℕ) (ps : List Placed) → length os < length ls
    → found_after ls os ((at, get_or ls (length os) 0) ∷ ps) ≡ found_after ls (os ++ at ∷ []) ps
one_more os ls at ps h =
    ap (found ls) (sym (append_assoc (with_letters os ls) ((at, get_or ls (length os) 0) ∷ []) ps)
    ∙ ap (λ (qs : List Placed). qs ++ ps) (sym (with-more os ls at h)))

first-of : (ls : List ℕ) (c : ℕ) → 0 < length ls → take 1 ls ≡ c ∷ [] → get_or ls 0 0 ≡ c
first-of [] c h e = absurd (omega arith)
first-of (l ∷ ls) c h e = cc

-- the prefix is empty, and the next letter is not the first
pub none_read : (ls : List ℕ) (at : Option ℕ) (c : ℕ) (ps : List Placed) → 0 < length ls → get_or ls 0 0 ≢ c → found_after ls [] ((at, c) ∷ ps) ≡ found_after ls [] ps
none_read ls at c ps h other =
    found-not ls (at, c) ps (begins-some ls (c ∷ letters_in ps) h ∙ not_true _ (λ e. let front = begins-front ls (c ∷ []) (letters_in ps) (omega arith) e in
    other (first-of ls c h front)))

drop-nil : {A : Type 0} (n : ℕ) → drop n (let e : List A = [] in e) ≡ []
drop-nil zero = refl
drop-nil (suc n) = refl

tail-of : (j : ℕ) (xs ys : List ℕ) (y : ℕ) → y ∷ ys ≡ drop j xs → ys ≡ drop (suc j) xs
tail-of zero [] ys y e = absurd (cc)
tail-of zero (x ∷ xs) ys y e = (head-same y x ys xs e).1
tail-of (suc j) [] ys y e = absurd (cc)
tail-of (suc j) (x ∷ xs) ys y e = tail-of j xs ys y e

module _ (ls : List ℕ) (k f : ℕ) (within : k ≤ length ls) (border : IsBorder ls k f) where
  -- an end of the first k letters that is longer than the border begins nothing
  begins-nothing : (ys zs : List ℕ) → f < length ys → length ys < k → ys ≡ drop (k - length ys) (take k ls) → begins ls (ys ++ zs) ≡ false
  begins-nothing ys zs above below e = not_true _ (λ b.
      let n : (k - length ys) + length ys ≡ k = omega arith in
      let m : length ys ≡ k - (k - length ys) = omega arith in
      let cut : drop (k - length ys) (take k ls) ≡ take (length ys) (drop (k - length ys) ls) =
      ap (λ i. drop (k - length ys) (take i ls)) (sym n) ∙ drop-take (k - length ys) (length ys) ls in
      border.greatest (length ys) above below
      (begins-front ls ys zs (omega arith) b ∙ e ∙ cut ∙ ap (λ i. take i (drop (k - length ys) ls)) m))

  falls-by : (w t : List Placed) → length w < k → f ≤ length w → letters_in w ≡ drop (k - length w) (take k ls)
      → found ls (w ++ t) ≡ found ls (drop (length w - f) w ++ t)
  falls-by [] t below above e = ap (λ (ps : List Placed). found ls (ps ++ t)) (sym (drop-nil (0 - f)))
  falls-by (p ∷ w) t below above e = elim (cases_lt f (suc (length w))) [
    | inl l ↦
        let none : begins ls (letters_in (p ∷ w) ++ letters_in t) ≡ false =
        begins-nothing (letters_in (p ∷ w)) (letters_in t) (omega (arith, length-map (p ∷ w) (λ (q : Placed). q.1))) (omega (arith, length-map (p ∷ w) (λ (q : Placed). q.1)))
        (e ∙ ap (λ i. drop (k - i) (take k ls)) (sym (length-map (p ∷ w) (λ (q : Placed). q.1)))) in
        let next : suc (k - suc (length w)) ≡ k - length w = omega arith in
        let rest = tail-of (k - suc (length w)) (take k ls) (letters_in w) p.1 e ∙ ap (λ i. drop i (take k ls)) next in
        let more : suc (length w - f) ≡ suc (length w) - f = omega arith in
        found-not ls p (w ++ t) (begins-some ls _ (omega arith) ∙ ap (λ xs. begins ls (p.1 ∷ xs)) (map-append (λ (q : Placed). q.1) w t) ∙ none)
        ∙ falls-by w t (omega arith) (omega arith) rest
        ∙ ap (λ i. found ls (drop i (p ∷ w) ++ t)) more
    | inr l ↦ let none : suc (length w) - f ≡ 0 = omega arith in ap (λ i. found ls (drop i (p ∷ w) ++ t)) (sym none)
  ]

  -- what remains of the prefix
  remains : (os : List (Option ℕ)) → length os ≡ k → drop (k - f) (with_letters os ls) ≡ with_letters (drop (k - f) os) ls
  remains os e =
      let w : List Placed = drop (k - f) (with_letters os ls) in
      let below = border.below in
      let fits : length os ≤ length ls = omega arith in
      let len : length w ≡ f = length-drop (k - f) (with_letters os ls) ∙ omega (arith, length-with os ls fits) in
      let n : (k - f) + f ≡ k = omega arith in
      let m : k - (k - f) ≡ f = omega arith in
      let cut : drop (k - f) (take k ls) ≡ take f ls =
      ap (λ i. drop (k - f) (take i ls)) (sym n) ∙ drop-take (k - f) f ls ∙ ap (λ i. take i (drop (k - f) ls)) (sym m) ∙ sym border.ends in
      let letters : letters_in w ≡ take (length w) ls =
      sym (drop-map (λ (q : Placed). q.1) (k - f) (with_letters os ls)) ∙ ap (drop (k - f)) (letters-with os ls fits ∙ ap (λ i. take i ls) e) ∙ cut
      ∙ ap (λ i. take i ls) (sym len) in
      named w ls (omega arith) letters
      ∙ ap (λ (os : List (Option ℕ)). with_letters os ls) (sym (drop-map (λ (q : Placed). q.0) (k - f) (with_letters os ls)) ∙ ap (drop (k - f)) (places-with os ls fits))

  -- past the oldest letter of the prefix, only the border may begin those sought
  past-oldest : (os : List (Option ℕ)) (p : Placed) (w t : List Placed) → length os ≡ k → with_letters os ls ≡ p ∷ w
      → found ls (w ++ t) ≡ found_after ls (drop (k - f) os) t
  past-oldest os p w t e whole =
      let below = border.below in
      let fits : length os ≤ length ls = omega arith in
      let len : suc (length w) ≡ k = ap length (sym whole) ∙ length-with os ls fits ∙ e in
      let all : p.1 ∷ letters_in w ≡ drop 0 (take k ls) = ap letters_in (sym whole) ∙ letters-with os ls fits ∙ ap (λ i. take i ls) e in
      let one : 1 ≡ k - length w = omega arith in
      let rest = tail-of 0 (take k ls) (letters_in w) p.1 all ∙ ap (λ i. drop i (take k ls)) one in
      let more : suc (length w - f) ≡ k - f = omega arith in
      falls-by w t (omega arith) (omega arith) rest
      ∙ ap (λ (ps : List Placed). found ls (ps ++ t)) (ap (λ i. drop i (p ∷ w)) more ∙ ap (drop (k - f)) (sym whole) ∙ remains os e)

first-pair : (os : List (Option ℕ)) (ls : List ℕ) → 0 < length os → length os ≤ length ls
    → (w : List Placed) × (with_letters os ls ≡ (get_or os 0 None, get_or ls 0 0) ∷ w)
first-pair [] ls h g = absurd (omega arith)
first-pair (o ∷ os) [] h g = absurd (omega arith)
first-pair (o ∷ os) (l ∷ ls) h g = (with_letters os ls, refl)

-- the next letter does not fit: the border of the prefix remains
pub fallen : (ls : List ℕ) (os : List (Option ℕ)) (at : Option ℕ) (c k f : ℕ) (ps : List Placed) → length os ≡ k → 0 < k → k < length ls → get_or ls k 0 ≢ c → IsBorder ls k f
    → found_after ls os ((at, c) ∷ ps) ≡ found_after ls (drop (k - f) os) ((at, c) ∷ ps)
fallen ls os at c k f ps e some below other border =
    let fits : length os ≤ length ls = omega arith in
    let (w, whole) = first-pair os ls (omega arith) fits in
    let first : Placed = (get_or os 0 None, get_or ls 0 0) in
    let prefix : letters_in (first ∷ w) ≡ take k ls = ap letters_in (sym whole) ∙ letters-with os ls fits ∙ ap (λ i. take i ls) e in
    let len : length (take k ls) ≡ k = length-take-le k ls (omega arith) in
    let none : begins ls (take k ls ++ c ∷ letters_in ps) ≡ false = not_true _ (λ b.
    let seam = append_assoc (take k ls) (c ∷ []) (letters_in ps) in
    let long : length (take k ls ++ c ∷ []) ≡ k + 1 = length-append (take k ls) (c ∷ []) ∙ ap (λ i. i + 1) len in
    let front = begins-front ls (take k ls ++ c ∷ []) (letters_in ps) (omega arith) (ap (begins ls) seam ∙ b) in
    let pushed = sym (take_more ls k 0 below) ∙ ap (λ i. take i ls) (sym long) ∙ front in
    other (same_from_push (take k ls) (take k ls) (get_or ls k 0) c pushed).1) in
    let spelt : letters_in (first ∷ w ++ (at, c) ∷ ps) ≡ take k ls ++ c ∷ letters_in ps =
    map-append (λ (q : Placed). q.1) (first ∷ w) ((at, c) ∷ ps) ∙ ap (λ ks. ks ++ c ∷ letters_in ps) prefix in
    ap (λ (qs : List Placed). found ls (qs ++ (at, c) ∷ ps)) whole
    ∙ found-not ls first (w ++ (at, c) ∷ ps) (begins-some ls _ (omega arith) ∙ ap (begins ls) spelt ∙ none)
    ∙ past-oldest ls k f (omega arith) border os first w ((at, c) ∷ ps) e whole

-- the prefix is whole: they are found at the oldest
pub whole_prefix : (ls : List ℕ) (os : List (Option ℕ)) (k f : ℕ) (ps : List Placed) → length os ≡ k → 0 < k → k ≡ length ls → IsBorder ls k f
    → found_after ls os ps ≡ get_or os 0 None ∷ found_after ls (drop (k - f) os) ps
whole_prefix ls os k f ps e some all border =
    let fits : length os ≤ length ls = omega arith in
    let (w, whole) = first-pair os ls (omega arith) fits in
    let first : Placed = (get_or os 0 None, get_or ls 0 0) in
    let prefix : letters_in (first ∷ w) ≡ ls =
    ap letters_in (sym whole) ∙ letters-with os ls fits ∙ take_all (length os) ls (omega arith) in
    let spelt : letters_in (first ∷ w ++ ps) ≡ ls ++ letters_in ps =
    map-append (λ (q : Placed). q.1) (first ∷ w) ps ∙ ap (λ ks. ks ++ letters_in ps) prefix in
    ap (λ (qs : List Placed). found ls (qs ++ ps)) whole
    ∙ found-here ls first (w ++ ps) (begins-some ls _ (omega arith) ∙ ap (begins ls) spelt ∙ begins-all ls (letters_in ps))
    ∙ ap (λ (is : List (Option ℕ)). get_or os 0 None ∷ is) (past-oldest ls k f (omega arith) border os first w ps e whole)
