-- A step leads to the next or the previous place, and the place from an offset on is the least one not before it.
use Rattle.std.proofs.Common.{◌≡◌, ℕ, zero, suc, ◌+◌, ◌<◌, ◌≤◌, nat_le, nat_lt, cond, Bool, true, false, List, [], ◌∷◌, length, get_or, reverse, find}
use Rattle.std.proofs.Common.{Option, Some, None, unwrap_or, IsUtf8, refl, sym, ap, subst, ◌∙◌, arith}
use Rattle.std.specs.Prelude.{Contains}
use Rattle.std.proofs.lemmas.Bool.Decides.{nat_tests}
use Rattle.bx_ucd.specs.Data.{Data}
use Rattle.bx_common.specs.declared.base.Base.{Base}
use Rattle.bx_paragraph.specs.BodyRows.{last_offset}
use Rattle.bx_view.specs.declared.moves.Logical.TheVariants.{Back, Forward}
use Rattle.bx_view.specs.Laws.{FindsLeastPlace, IsGreatestBefore, IsLeastBehind, IsLeastPlace, PlacesGoOn}
use Rattle.bx_view.specs.Moves.{place_from, step_logical}
use Rattle.bx_view.specs.Places.{text_places}
use Rattle.bx_view.specs.TextRows.{places, text_rows}
use Rattle.bx_view.proofs.NextStops.{Ascends, cons-contains, first-is-least, in-rest, last-is-greatest, unreversed, within-contains}
use Rattle.bx_view.proofs.PlacesRise.{places-rise}
use Rattle.bx_view.proofs.Rising.{Rises}
use Rattle.bx_view.proofs.TextPlaces.{begin-is-place, end-is-place, places-are}
use Rattle.bx_view.proofs.Within.{Within}
use Rattle.bx_view.proofs.WordParts.{all-fail, none-found, within-weaker}
use Rattle.bx_view.proofs.WordsOn.{none-below-0}

-- ---- offsets that rise

rises-from : (low : ℕ) (os : List ℕ) (high : ℕ) → Rises low os high → Within (λ p. low ≤ p) os
rises-from low [] high r = tt
rises-from low (o ∷ os) high r =
    (r.0, within-weaker (λ p. o + 1 ≤ p) (λ p. low ≤ p) (λ p h. omega (arith, h, r.0)) os (rises-from (o + 1) os high r.1))

rises-to : (low : ℕ) (os : List ℕ) (high : ℕ) → Rises low os (high + 1) → Within (λ p. p ≤ high) os × (low ≤ high + 1)
rises-to low [] high r = (tt, r)
rises-to low (o ∷ os) high r = let rest = rises-to (o + 1) os high r.1 in ((omega (arith, rest.1), rest.0), omega (arith, r.0, rest.1))

ascends-rising : (low : ℕ) (os : List ℕ) (high : ℕ) → Rises low os high → Ascends os
ascends-rising low [] high r = tt
ascends-rising low (o ∷ os) high r =
    (within-weaker (λ p. o + 1 ≤ p) (λ p. o ≤ p) (λ p h. omega (arith, h)) os (rises-from (o + 1) os high r.1), ascends-rising (o + 1) os high r.1)

-- the last of offsets that contain the end
last-is-end : (low : ℕ) (os : List ℕ) (high : ℕ) → Rises low os (high + 1) → Contains os high → last_offset os ≡ high
last-is-end low [] high r c = absurd (omega (arith, c.1))
last-is-end low (o ∷ []) high r c =
    within-contains (λ p. o ≡ p) (o ∷ []) (refl, tt) high c
last-is-end low (o ∷ p ∷ os) high r c =
    let before : o < high = let next = rises-to (p + 1) os high r.1.1 in omega (arith, r.1.0, next.1) in
    last-is-end (o + 1) (p ∷ os) high r.1 (rest-contains o (p ∷ os) high before c)
  where
    at-rest : (q : ℕ) (qs : List ℕ) (n i : ℕ) → q < n → i < suc (length qs) → get_or (q ∷ qs) i n ≡ n → Contains qs n
    at-rest q qs n zero h within e = absurd (omega (arith, h, e))
    at-rest q qs n (suc i) h within e = (i, omega (arith, within), e)

    rest-contains : (q : ℕ) (qs : List ℕ) (n : ℕ) → q < n → Contains (q ∷ qs) n → Contains qs n
    rest-contains q qs n h c = at-rest q qs n c.0 h c.1 c.2

-- ---- a search finds one that passes

found-at : (test : ℕ → Bool) (os : List ℕ) (p : ℕ) → Contains os p → test p ≡ true → (x : Option ℕ) → find test os ≡ x → (n : ℕ) × (find test os ≡ Some n)
found-at test os p c passes None e = let fails : test p ≡ false = within-contains (λ q. test q ≡ false) os (all-fail test os e) p c in absurd (cc)
found-at test os p c passes (Some n) e = (n, e)

found-back : (test : ℕ → Bool) (os : List ℕ) (p : ℕ) → Contains os p → test p ≡ true → (x : Option ℕ) → find test (reverse os) ≡ x
    → (n : ℕ) × (find test (reverse os) ≡ Some n)
found-back test os p c passes None e =
    let fails : test p ≡ false = within-contains (λ q. test q ≡ false) os (unreversed (λ q. test q ≡ false) os (all-fail test (reverse os) e)) p c in
    absurd (cc)
found-back test os p c passes (Some n) e = (n, e)

-- ---- the least one not before

module _ (offset : ℕ) where
  pub record IsLeastFrom (os : List ℕ) (n : ℕ) : Type 0 where
    pub is_one : Contains os n
    pub not_before : offset ≤ n
    pub least : (p : ℕ) → Contains os p → offset ≤ p → n ≤ p

  least-at : (o : ℕ) (os : List ℕ) → Within (λ p. o ≤ p) os → ((n : ℕ) → find (nat_le offset) os ≡ Some n → IsLeastFrom os n)
      → (b : Bool) → nat_le offset o ≡ b → (n : ℕ) → cond b (Some o) (find (nat_le offset) os) ≡ Some n → IsLeastFrom (o ∷ os) n
  least-at o os on rest true e n found =
      let same : o ≡ n = cc in
      let from : offset ≤ o = grind (arith, nat_tests) in
      subst (IsLeastFrom (o ∷ os)) same record {
        is_one = (0, omega arith, refl);
        not_before = from;
        least = λ p c h. cons-contains (λ q. o ≤ q) o os (omega arith) (within-contains (λ q. o ≤ q) os on) p c;
      }
  least-at o os on rest false e n found =
      let later = rest n found in
      let here : ¬ (offset ≤ o) = grind (arith, nat_tests) in record {
        is_one = in-rest o os n later.is_one;
        not_before = later.not_before;
        least = cons-contains (λ q. offset ≤ q → n ≤ q) o os (λ h. absurd (here h)) later.least;
      }

  least-found : (os : List ℕ) → Ascends os → (n : ℕ) → find (nat_le offset) os ≡ Some n → IsLeastFrom os n
  least-found [] a n found = absurd (cc)
  least-found (o ∷ os) a n found = least-at o os a.0 (least-found os a.1) (nat_le offset o) refl n found

-- ---- of a text

module _ (ucd : Data) (base : Base) (w : ℕ) (some : 1 ≤ w) (text : List ℕ) (utf8 : IsUtf8 text) where
  abbrev os : List ℕ
  os = places (text_rows ucd base w text)

  rise : Rises 0 os (length text + 1)
  rise = places-rise ucd base w some text utf8

  ascends : Ascends os
  ascends = ascends-rising 0 os (length text + 1) rise

  are : os ≡ text_places ucd text
  are = places-are ucd base w some text utf8

  begin : Contains os 0
  begin = begin-is-place ucd base w some text utf8

  end : Contains os (length text)
  end = end-is-place ucd base w some text utf8

  inside : (offset : ℕ) → offset ≤ length text → IsLeastPlace ucd text offset (place_from (text_rows ucd base w text) offset)
  inside offset h =
      let passes : nat_le offset (length text) ≡ true = grind (arith, nat_tests) in
      let (n, found) = found-at (nat_le offset) os (length text) end passes (find (nat_le offset) os) refl in
      let is = least-found offset os ascends n found in
      subst (IsLeastPlace ucd text offset) (sym (ap (λ x. unwrap_or x (last_offset os)) found)) record {
        is_place = subst (λ ps. Contains ps n) are is.is_one;
        not_before = is.not_before;
        least = λ p c. is.least p (subst (λ ps. Contains ps p) (sym are) c);
      }

  past : (offset : ℕ) → length text < offset → place_from (text_rows ucd base w text) offset ≡ length text
  past offset h =
      let none = within-weaker (λ p. p ≤ length text) (λ p. nat_le offset p ≡ false)
      (λ p upto. let later : p < offset = omega (arith, upto, h) in grind (arith, nat_tests)) os (rises-to 0 os (length text) rise).0 in
      ap (λ x. unwrap_or x (last_offset os)) (none-found (nat_le offset) os none) ∙ last-is-end 0 os (length text) rise end

  pub finds-least : FindsLeastPlace ucd text (place_from (text_rows ucd base w text))
  finds-least = record { inside = inside; past = past }

  forward : (place : ℕ) → place < length text → IsLeastBehind (text_places ucd text) place (step_logical (text_rows ucd base w text) Forward place)
  forward place h =
      let passes : nat_lt place (length text) ≡ true = grind (arith, nat_tests) in
      let (n, found) = found-at (nat_lt place) os (length text) end passes (find (nat_lt place) os) refl in
      subst (λ ps. IsLeastBehind ps place (step_logical (text_rows ucd base w text) Forward place)) are
      (subst (IsLeastBehind os place) (sym (ap (λ x. unwrap_or x place) found)) (first-is-least place os ascends n found))

  back : (place : ℕ) → 0 < place → IsGreatestBefore (text_places ucd text) place (step_logical (text_rows ucd base w text) Back place)
  back place h =
      let passes : nat_lt 0 place ≡ true = grind (arith, nat_tests) in
      let (n, found) = found-back (λ p. nat_lt p place) os 0 begin passes (find (λ p. nat_lt p place) (reverse os)) refl in
      subst (λ ps. IsGreatestBefore ps place (step_logical (text_rows ucd base w text) Back place)) are
      (subst (IsGreatestBefore os place) (sym (ap (λ x. unwrap_or x place) found)) (last-is-greatest place os ascends n found))

  stays-at-end : (place : ℕ) → length text ≤ place → step_logical (text_rows ucd base w text) Forward place ≡ place
  stays-at-end place h =
      let none = within-weaker (λ p. p ≤ length text) (λ p. nat_lt place p ≡ false)
      (λ p upto. let not : p ≤ place = omega (arith, upto, h) in grind (arith, nat_tests)) os (rises-to 0 os (length text) rise).0 in
      ap (λ x. unwrap_or x place) (none-found (nat_lt place) os none)

  pub places-go-on : PlacesGoOn ucd text (step_logical (text_rows ucd base w text))
  places-go-on = record { forward = forward; back = back; at_end = stays-at-end; at_start = none-below-0 (reverse os) }
