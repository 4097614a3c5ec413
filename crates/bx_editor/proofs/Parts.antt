-- Both ends of the region are between characters.
use Rattle.std.proofs.Common.{◌≡◌, ℕ, List, Option, Some, None, IsUtf8, IsCharBoundary, min, max, subst, arith, ⊎_elim}
use Rattle.std.specs.Prelude.{IfSome, unwrap_or}
use Rattle.std.proofs.lemmas.Bool.{cases_lt}
use Rattle.bx_ucd.specs.Data.{Data}
use Rattle.bx_text.specs.Changes.{IsRange}
use Rattle.bx_view.specs.Places.{IsTextPlace}
use Rattle.bx_view.proofs.TextPlaces.{place-between}

in_order_of : (text : List ℕ) (m p a b : ℕ) → IsCharBoundary text m → IsCharBoundary text p → a ≡ min m p → b ≡ max m p → IsRange text a b
in_order_of text m p a b mark place low high =
    ⊎_elim
    (λ less.
    let front : m ≡ a = omega (arith, less, low) in
    let back : p ≡ b = omega (arith, less, high) in
    record {
      start_bounds = subst (IsCharBoundary text) front mark;
      stop_bounds = subst (IsCharBoundary text) back place;
      in_order = omega (arith, less, front, back);
    })
    (λ more.
    let front : p ≡ a = omega (arith, more, low) in
    let back : m ≡ b = omega (arith, more, high) in
    record {
      start_bounds = subst (IsCharBoundary text) front place;
      stop_bounds = subst (IsCharBoundary text) back mark;
      in_order = omega (arith, more, front, back);
    })
    (cases_lt m p)

pub region_range : (ucd : Data) (text : List ℕ) (mark : Option ℕ) (place a b : ℕ) → IsUtf8 text → IsTextPlace ucd text place
    → IfSome mark (IsTextPlace ucd text) → a ≡ min (unwrap_or mark place) place → b ≡ max (unwrap_or mark place) place → IsRange text a b
region_range ucd text None place a b utf8 is marked low high =
    let bounds = place-between ucd text place utf8 is in
    in_order_of text place place a b bounds bounds low high
region_range ucd text (Some m) place a b utf8 is marked low high =
    in_order_of text m place a b (place-between ucd text m utf8 marked) (place-between ucd text place utf8 is) low high
