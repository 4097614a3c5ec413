-- The place of an offset is the greatest place not after it.
use Rattle.std.proofs.Common.{◌≡◌, ℕ, ◌+◌, ◌<◌, ◌≤◌, nat_le, cond, Bool, true, false, List, [], ◌∷◌, length, find, reverse}
use Rattle.std.proofs.Common.{Option, Some, None, unwrap_or, IsUtf8, sym, ap, subst, ◌∙◌, arith, ⊎_elim}
use Rattle.std.specs.Prelude.{All, Contains, MatchOption}
use Rattle.std.specs.Option.{option_or}
use Rattle.std.proofs.lemmas.Bool.{cases_lt}
use Rattle.std.proofs.lemmas.Bool.Decides.{nat_tests}
use Rattle.std.proofs.lemmas.List.{reverse-append}
use Rattle.std.proofs.lemmas.List.Elements.{All-cons, All-contains, All-nil, All-weaker}
use Rattle.std.proofs.lemmas.List.Folds.{find-append}
use Rattle.bx_ucd.specs.Data.{Data}
use Rattle.bx_common.specs.declared.base.Base.{Base}
use Rattle.bx_view_laws.specs.Laws.{IsGreatestPlace}
use Rattle.bx_view.specs.Moves.{place_at}
use Rattle.bx_view.specs.TextRows.{places, text_rows}
use Rattle.bx_view.proofs.KeptPlaces.{text-places-kept}
use Rattle.bx_view.proofs.PlacesRise.{places-rise}
use Rattle.bx_view.proofs.Rising.{Rises}
use Rattle.bx_view.proofs.TextPlaces.{begin-is-place, place-in-window}

module _ (offset : ℕ) where
  abbrev at-most : ℕ → Bool
  at-most o = nat_le o offset

  -- the greatest of some offsets, from `low` on, that is not after the offset
  abbrev IsGreatest : ℕ → List ℕ → Option ℕ → Type 0
  IsGreatest low os found =
      MatchOption found (All (λ p. offset < p) os) (λ q. (low ≤ q) × (q ≤ offset) × All (λ p. p ≤ offset → p ≤ q) os)

  one-more : (low o : ℕ) (os : List ℕ) (x : Option ℕ) → low ≤ o → IsGreatest (o + 1) os x → IsGreatest low (o ∷ os) (option_or x (cond (at-most o) (Some o) None))
  one-more low o os (Some q) h is =
      let later = is.0 in
      (omega (arith, h, later), is.1, All-cons (λ p. p ≤ offset → p ≤ q) o os (λ l. omega (arith, later)) is.2)
  one-more low o os None h is = ⊎_elim
      (λ past.
      let e : at-most o ≡ false = grind (arith, nat_tests) in
      subst (λ b. IsGreatest low (o ∷ os) (cond b (Some o) None)) (sym e) (All-cons (λ p. offset < p) o os past is))
      (λ not.
      let e : at-most o ≡ true = grind (arith, nat_tests) in
      subst (λ b. IsGreatest low (o ∷ os) (cond b (Some o) None)) (sym e) (
        h,
        not,
        All-cons (λ p. p ≤ offset → p ≤ o) o os (λ l. omega arith)
            (All-weaker (λ p. offset < p) (λ p. p ≤ offset → p ≤ o) (λ p past l. absurd (omega (arith, l, past))) os is),
      ))
      (cases_lt offset o)

  found-greatest : (low : ℕ) (os : List ℕ) (high : ℕ) → Rises low os high → IsGreatest low os (find at-most (reverse os))
  found-greatest low [] high r = All-nil (λ p. offset < p)
  found-greatest low (o ∷ os) high r =
      subst (IsGreatest low (o ∷ os)) (sym (ap (find at-most) (reverse-append (o ∷ []) os) ∙ find-append at-most (reverse os) (o ∷ [])))
      (one-more low o os (find at-most (reverse os)) r.0 (found-greatest (o + 1) os high r.1))

  -- 0 is among them
  is-greatest : (os : List ℕ) (x : Option ℕ) → Contains os 0 → IsGreatest 0 os x
      → (unwrap_or x 0 ≤ offset) × All (λ p. p ≤ offset → p ≤ unwrap_or x 0) os
  is-greatest os None begin is = absurd (omega (arith, All-contains (λ p. offset < p) os 0 is begin))
  is-greatest os (Some q) begin is = (is.1, is.2)

pub greatest-place : (ucd : Data) (base : Base) (w : ℕ) → 1 ≤ w → (text : List ℕ) → IsUtf8 text → (offset : ℕ)
    → IsGreatestPlace ucd text offset (place_at (text_rows ucd base w text) offset)
greatest-place ucd base w some text utf8 offset =
    let os : List ℕ = places (text_rows ucd base w text) in
    let place : ℕ = place_at (text_rows ucd base w text) offset in
    let rise : Rises 0 os (length text + 1) = places-rise ucd base w some text utf8 in
    let is : (place ≤ offset) × All (λ p. p ≤ offset → p ≤ place) os =
    is-greatest offset os (find (at-most offset) (reverse os)) (begin-is-place ucd base w some text utf8)
    (found-greatest offset 0 os (length text + 1) rise) in
    record {
      is_place = (text-places-kept ucd base w some text utf8).at offset;
      not_after = is.0;
      greatest = λ p c. All-contains (λ p. p ≤ offset → p ≤ place) os p is.1 (place-in-window ucd base w some text utf8 p c);
    }
