-- The matches in two texts that end alike are the same, moved.
use Rattle.std.proofs.Common.{◌≡◌, ◌+◌, ◌-◌, ◌∙◌, ℕ, Bool, true, false, List, [], ◌∷◌, length, chars, drop, map}
use Rattle.std.proofs.Common.{refl, ap, sym, subst, arith, IsCharBoundary}
use Rattle.std.specs.Prelude.{Option, Some, None, slice_get, option_map, encode_utf8, IsUtf8}
use Rattle.bx_ucd.specs.Data.{Data}
use Rattle.bx_find.specs.Matches.{is_match, matches, first_from}
use Rattle.bx_find.specs.declared.letters.Reading.{Reading}
use Rattle.bx_find.proofs.Offsets.{from_offset, matches-here, matches-not, matches-placed}
use Rattle.bx_text.specs.Edits.{splice}
use Rattle.bx_text.specs.Changes.{IsRange}
use Rattle.bx_text.proofs.Characters.{IsRange-splice}
use Rattle.bx_text.proofs.Versions.{splice_after}
use Rattle.bx_document.proofs.TouchedPlace.{splice_utf8}

-- an offset of one text, in another whose offset `y` stands where `x` stands there
abbrev pub moved : ℕ → ℕ → ℕ → ℕ
moved x y at = at - x + y

first-of-map : (f : ℕ → ℕ) (ats : List ℕ) → slice_get (map f ats) 0 ≡ option_map f (slice_get ats 0)
first-of-map f [] = refl
first-of-map f (at ∷ ats) = refl

moved-on : (x y : ℕ) (o : Option ℕ) → option_map (λ n. y + n) o ≡ option_map (moved x y) (option_map (λ n. x + n) o)
moved-on x y None = refl
moved-on x y (Some n) = let e : y + n ≡ x + n - x + y = omega arith in ap (λ m. Some m) e

-- the bytes that were put in lie between characters
pub spliced-range : (text : List ℕ) (start stop : ℕ) (new : List ℕ) → IsUtf8 text → IsUtf8 new → IsRange text start stop
    → IsRange (splice text start stop new) start (start + length new)
spliced-range text start stop new u v range =
    let whole : start + (stop - start) ≡ stop = omega (arith, range.in_order) in
    subst (λ n. IsRange (splice text start n new) start (start + length new)) whole
    (IsRange-splice text new start (stop - start) u v (subst (IsRange text start) (sym whole) range))

module _ (ucd : Data) (reading : Reading) (sought : List ℕ) where
  shifted-by : (x at c : ℕ) (cs : List ℕ) (here : Bool) → is_match ucd reading sought (c ∷ cs) ≡ here
      → matches ucd reading sought (x + (at + length (encode_utf8 c))) cs
      ≡ map (λ n. x + n) (matches ucd reading sought (at + length (encode_utf8 c)) cs)
      → matches ucd reading sought (x + at) (c ∷ cs) ≡ map (λ n. x + n) (matches ucd reading sought at (c ∷ cs))
  shifted-by x at c cs true e more =
      let next : x + at + length (encode_utf8 c) ≡ x + (at + length (encode_utf8 c)) = omega arith in
      matches-here ucd reading sought (x + at) c cs e
      ∙ ap (λ ats. (x + at) ∷ ats) (ap (λ n. matches ucd reading sought n cs) next ∙ more)
      ∙ sym (ap (map (λ n. x + n)) (matches-here ucd reading sought at c cs e))
  shifted-by x at c cs false e more =
      let next : x + at + length (encode_utf8 c) ≡ x + (at + length (encode_utf8 c)) = omega arith in
      matches-not ucd reading sought (x + at) c cs e
      ∙ ap (λ n. matches ucd reading sought n cs) next ∙ more
      ∙ sym (ap (map (λ n. x + n)) (matches-not ucd reading sought at c cs e))

  shifted : (x at : ℕ) (cs : List ℕ)
      → matches ucd reading sought (x + at) cs ≡ map (λ n. x + n) (matches ucd reading sought at cs)
  shifted x at [] = refl
  shifted x at (c ∷ cs) =
      shifted-by x at c cs (is_match ucd reading sought (c ∷ cs)) refl (shifted x (at + length (encode_utf8 c)) cs)

  -- the first match of what is behind an offset
  first-behind : (text : List ℕ) (x : ℕ) → IsUtf8 text → IsCharBoundary text x
      → first_from ucd reading sought text x
      ≡ option_map (λ n. x + n) (slice_get (matches ucd reading sought 0 (chars (drop x text))) 0)
  first-behind text x u b =
      let at : x ≡ x + 0 = omega arith in
      from_offset ucd reading sought text x u b
      ∙ sym (ap (λ (os : List ℕ). slice_get os 0) (matches-placed ucd reading sought x (chars (drop x text))))
      ∙ ap (λ n. slice_get (matches ucd reading sought n (chars (drop x text))) 0) at
      ∙ ap (λ (os : List ℕ). slice_get os 0) (shifted x 0 (chars (drop x text)))
      ∙ first-of-map (λ n. x + n) (matches ucd reading sought 0 (chars (drop x text)))

  -- two texts are the same behind an offset of each
  pub first-moved : (text next : List ℕ) (x y : ℕ) → IsUtf8 text → IsUtf8 next → IsCharBoundary text x → IsCharBoundary next y
      → drop y next ≡ drop x text
      → first_from ucd reading sought next y ≡ option_map (moved x y) (first_from ucd reading sought text x)
  first-moved text next x y u v b c same =
      first-behind next y v c
      ∙ ap (λ (rest : List ℕ). option_map (λ n. y + n) (slice_get (matches ucd reading sought 0 (chars rest)) 0)) same
      ∙ moved-on x y (slice_get (matches ucd reading sought 0 (chars (drop x text))) 0)
      ∙ ap (option_map (moved x y)) (sym (first-behind text x u b))

  -- behind the bytes that have taken the place of others
  pub first-behind-new : (text : List ℕ) (start stop : ℕ) (new : List ℕ) → IsUtf8 text → IsUtf8 new → IsRange text start stop
      → first_from ucd reading sought (splice text start stop new) (start + length new)
      ≡ option_map (moved stop (start + length new)) (first_from ucd reading sought text stop)
  first-behind-new text start stop new u v range =
      let bounds = spliced-range text start stop new u v range in
      first-moved text (splice text start stop new) stop (start + length new) u (splice_utf8 ucd text u start stop new range v)
      range.stop_bounds bounds.stop_bounds
      (splice_after text new start stop range.start_bounds.0)
