-- The unit at an offset of a body, found by a walk over its units.
use Rattle.std.proofs.Common.{◌≡◌, ℕ, ◌+◌, ◌-◌, ◌<◌, ◌≤◌, nat_le, nat_lt, cond, min, Bool, true, false, List, [], ◌∷◌, ◌++◌, length, drop, reverse, find, Some, None}
use Rattle.std.proofs.Common.{unwrap_or, sym, ap, ◌∙◌, arith, append_assoc}
use Rattle.std.specs.Option.{option_or}
use Rattle.std.proofs.lemmas.Bool.Decides.{nat_tests}
use Rattle.std.proofs.lemmas.List.{reverse-append}
use Rattle.std.proofs.lemmas.List.Folds.{find-append}
use Rattle.unicode_segmentation.specs.Grapheme.{graphemes}
use Rattle.bx_view.specs.Numbers.{boundaries}
use Rattle.bx_view.specs.Words.{unit_start, unit_stop}
use Rattle.bx_view.proofs.Within.{Within, within-append, within-reverse}
use Rattle.bx_view.proofs.WordParts.{IsPart, none-found, size, within-weaker}

-- ---- boundaries of units

bounds-append : (start : ℕ) (us vs : List (List ℕ)) → (ps : List ℕ) × ((boundaries start (us ++ vs) ≡ ps ++ boundaries (start + size us) vs) × Within (λ o. o ≤ start + size us) ps)
bounds-append start [] vs = let none : start ≡ start + 0 = omega arith in ([], (ap (λ n. boundaries n vs) none, tt))
bounds-append start (u ∷ us) vs =
    let (ps, (e, upto)) = bounds-append (start + length u) us vs in
    let sum : start + length u + size us ≡ start + size (u ∷ us) = omega arith in (
      start ∷ ps,
      (
        ap (λ os. start ∷ os) (e ∙ ap (λ n. ps ++ boundaries n vs) sum),
        (omega arith, within-weaker (λ o. o ≤ start + length u + size us) (λ o. o ≤ start + size (u ∷ us)) (λ o h. omega (arith, h, sum)) ps upto),
      ),
    )

pub bounds-on : (at : ℕ) (us : List (List ℕ)) → Within (λ o. at ≤ o) (boundaries at us)
bounds-on at [] = (omega arith, tt)
bounds-on at (u ∷ us) =
    (omega arith, within-weaker (λ o. at + length u ≤ o) (λ o. at ≤ o) (λ o h. omega (arith, h)) (boundaries (at + length u) us) (bounds-on (at + length u) us))

-- the boundaries of a body are some up to an offset, and those from the offset on
pub record IsReached (body : List ℕ) (at : ℕ) : Type 0 where
  pub ahead : List ℕ
  pub places : boundaries 0 (graphemes true body) ≡ ahead ++ boundaries at (graphemes true (drop at body))
  pub upto : Within (λ o. o ≤ at) ahead

pub reached-part : (body : List ℕ) (at : ℕ) → IsPart body at → IsReached body at
reached-part body at part =
    let rest = graphemes true (drop at body) in
    let (ps, (e, upto)) = bounds-append 0 part.front rest in
    let here : 0 + size part.front ≡ at = omega (arith, part.size_is) in
    record {
      ahead = ps;
      places = ap (boundaries 0) part.parts ∙ e ∙ ap (λ n. ps ++ boundaries n rest) here;
      upto = within-weaker (λ o. o ≤ 0 + size part.front) (λ o. o ≤ at) (λ o h. omega (arith, h, here)) ps upto;
    }

-- the boundary after one that is reached
pub reached-next : (body : List ℕ) (at stop : ℕ) → IsReached body at → at < stop
    → boundaries at (graphemes true (drop at body)) ≡ at ∷ boundaries stop (graphemes true (drop stop body)) → IsReached body stop
reached-next body at stop r later next =
    let rest = boundaries stop (graphemes true (drop stop body)) in
    record {
      ahead = r.ahead ++ at ∷ [];
      places = r.places ∙ ap (λ os. r.ahead ++ os) next ∙ sym (append_assoc r.ahead (at ∷ []) rest);
      upto = within-append (λ o. o ≤ stop) r.ahead (at ∷ []) (within-weaker (λ o. o ≤ at) (λ o. o ≤ stop) (λ o h. omega (arith, h, later)) r.ahead r.upto)
          (omega (arith, later), tt);
    }

-- ---- the unit from `at` to `stop`, which has the offset

head-found : (offset stop : ℕ) (us : List (List ℕ)) → offset < stop → find (nat_lt offset) (boundaries stop us) ≡ Some stop
head-found offset stop [] h = let past : nat_lt offset stop ≡ true = grind (arith, nat_tests) in ap (λ b. cond b (Some stop) None) past
head-found offset stop (u ∷ us) h =
    let past : nat_lt offset stop ≡ true = grind (arith, nat_tests) in
    ap (λ b. cond b (Some stop) (find (nat_lt offset) (boundaries (stop + length u) us))) past

module _ (body : List ℕ) (at stop offset : ℕ) (r : IsReached body at) (low : at ≤ offset) (high : offset < stop)
    (next : boundaries at (graphemes true (drop at body)) ≡ at ∷ boundaries stop (graphemes true (drop stop body))) where
  abbrev rest : List (List ℕ)
  rest = graphemes true (drop stop body)

  whole : boundaries 0 (graphemes true body) ≡ r.ahead ++ at ∷ boundaries stop rest
  whole = r.places ∙ ap (λ os. r.ahead ++ os) next

  pub stop-is : stop ≡ unit_stop body offset
  stop-is =
      let after : ℕ → Bool = nat_lt offset in
      let not : after at ≡ false = grind (arith, nat_tests) in
      sym (ap (λ os. unwrap_or (find after os) offset) whole
      ∙ ap (λ x. unwrap_or x offset) (find-append after r.ahead (at ∷ boundaries stop rest)
      ∙ ap (λ x. option_or x (find after (at ∷ boundaries stop rest))) (none-found after r.ahead
      (within-weaker (λ o. o ≤ at) (λ o. after o ≡ false) (λ o h. grind (arith, nat_tests)) r.ahead r.upto))
      ∙ ap (λ b. cond b (Some at) (find after (boundaries stop rest))) not ∙ head-found offset stop rest high))

  pub start-is : offset < length body → at ≡ unit_start body offset
  start-is within =
      let last = min offset (length body - 1) in
      let upto : ℕ → Bool = λ o. nat_le o last in
      let here : upto at ≡ true = grind (arith, nat_tests) in
      let others = boundaries stop rest in
      let none : find upto (reverse others) ≡ None =
      none-found upto (reverse others) (within-reverse (λ o. upto o ≡ false) others
      (within-weaker (λ o. stop ≤ o) (λ o. upto o ≡ false) (λ o h. grind (arith, nat_tests)) others (bounds-on stop rest))) in
      sym (ap (λ os. unwrap_or (find upto (reverse os)) 0) whole
      ∙ ap (λ x. unwrap_or x 0) (ap (find upto) (reverse-append r.ahead (at ∷ others)) ∙ find-append upto (reverse (at ∷ others)) (reverse r.ahead)
      ∙ ap (λ x. option_or x (find upto (reverse r.ahead))) (ap (find upto) (reverse-append (at ∷ []) others) ∙ find-append upto (reverse others) (at ∷ [])
      ∙ ap (λ x. option_or x (find upto (at ∷ []))) none ∙ ap (λ b. cond b (Some at) None) here)))

-- a start by an offset that is not past the last unit
pub start-before-end : (body : List ℕ) (offset : ℕ) → unit_start body (min offset (length body - 1)) ≡ unit_start body offset
start-before-end body offset =
    let same : min (min offset (length body - 1)) (length body - 1) ≡ min offset (length body - 1) = omega arith in
    ap (λ n. unwrap_or (find (λ o. nat_le o n) (reverse (boundaries 0 (graphemes true body)))) 0) same
