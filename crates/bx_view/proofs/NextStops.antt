-- The stops of a text ascend, so a search finds the least one after a place, or the greatest one before it.
use Rattle.std.proofs.Common.{◌≡◌, ℕ, zero, suc, ◌+◌, ◌<◌, ◌≤◌, nat_lt, cond, Bool, true, false, List, [], ◌∷◌, ◌++◌, map, length, get_or, reverse, find}
use Rattle.std.proofs.Common.{Option, Some, None, IsUtf8, refl, sym, subst, ◌∙◌, ap, arith}
use Rattle.std.specs.Prelude.{Contains}
use Rattle.std.specs.Option.{option_or}
use Rattle.std.proofs.lemmas.Bool.Decides.{nat_tests}
use Rattle.std.proofs.lemmas.List.{reverse-append}
use Rattle.std.proofs.lemmas.List.Folds.{find-append}
use Rattle.unicode_segmentation.specs.Grapheme.{graphemes}
use Rattle.bx_ucd.specs.Data.{Data}
use Rattle.bx_text.specs.index.Paragraphs.{Paragraph, lengths_of, bytes_of}
use Rattle.bx_view.specs.declared.moves.Logical.{Logical}
use Rattle.bx_view.specs.declared.moves.Logical.TheVariants.{Back, Forward}
use Rattle.bx_view.specs.Laws.{IsGreatestBefore, IsLeastBehind}
use Rattle.bx_view.specs.declared.moves.unit_kind.UnitKind.{UnitKind}
use Rattle.bx_view.specs.declared.moves.unit_kind.UnitKind.TheVariants.{Other}
use Rattle.bx_view.specs.Words.{begins_word, body_stops, body_words, kind_of, put_if, stops_from, word_starts}
use Rattle.bx_view.proofs.Parts.{AreUtf8}
use Rattle.bx_view.proofs.Within.{Within, within-append}
use Rattle.bx_view.proofs.WordParts.{all-fail, within-weaker, words-from}
use Rattle.bx_view.proofs.WordStops.{from-on, moved-within, own-upto, words-within}

-- ---- ascending offsets

-- no offset is above a later one
abbrev pub Ascends : List ℕ → Type 0
Ascends [] = Prim.Unit {0}
Ascends (o ∷ os) = Within (λ p. o ≤ p) os × Ascends os

ascends-append : (os ps : List ℕ) (most : ℕ) → Ascends os → Ascends ps → Within (λ o. o ≤ most) os → Within (λ p. most ≤ p) ps → Ascends (os ++ ps)
ascends-append [] ps most a b upto on = b
ascends-append (o ∷ os) ps most a b upto on =
    let above = within-weaker (λ p. most ≤ p) (λ p. o ≤ p) (λ p h. omega (arith, h, upto.0)) ps on in
    (within-append (λ p. o ≤ p) os ps a.0 above, ascends-append os ps most a.1 b upto.1 on)

ascends-moved : (start : ℕ) (os : List ℕ) → Ascends os → Ascends (map (λ o. start + o) os)
ascends-moved start [] a = tt
ascends-moved start (o ∷ os) a =
    let above = within-weaker (λ p. o ≤ p) (λ p. start + o ≤ start + p) (λ p h. omega (arith, h)) os a.0 in
    (moved-within (λ p. start + o ≤ p) start os above, ascends-moved start os a.1)

ascends-put : (b : Bool) (at : ℕ) (os : List ℕ) → Within (λ o. at ≤ o) os → Ascends os → Ascends (put_if b at os)
ascends-put true at os on a = (on, a)
ascends-put false at os on a = a

-- ---- the stops of a text

words-ascend : (ucd : Data) (s f : UnitKind) (at : ℕ) (us : List (List ℕ)) → Ascends (word_starts ucd s f at us)
words-ascend ucd s f at [] = tt
words-ascend ucd s f at (u ∷ us) =
    let k = kind_of ucd u in
    let rest = word_starts ucd f k (at + length u) us in
    let on = within-weaker (λ o. at + length u ≤ o) (λ o. at ≤ o) (λ o h. omega (arith, h)) rest (words-from ucd f k (at + length u) us) in
    ascends-put (begins_word s f k) at rest on (words-ascend ucd f k (at + length u) us)

body-ascends : (ucd : Data) (way : Logical) (body : List ℕ) → IsUtf8 body → Ascends (body_stops ucd way body)
body-ascends ucd Forward body utf8 =
    ascends-append (body_words ucd body) (length body ∷ []) (length body) (words-ascend ucd Other Other 0 (graphemes true body)) (tt, tt)
    (words-within ucd body utf8) (omega arith, tt)
body-ascends ucd Back body utf8 = (words-from ucd Other Other 0 (graphemes true body), words-ascend ucd Other Other 0 (graphemes true body))

pub stops-ascend : (ucd : Data) (way : Logical) (start : ℕ) (ps : List Paragraph) → AreUtf8 ps → Ascends (stops_from ucd way start ps)
stops-ascend ucd way start [] u = tt
stops-ascend ucd way start (p ∷ ps) u =
    let next = start + bytes_of (lengths_of p) in
    let own = map (λ o. start + o) (body_stops ucd way p.body) in
    let upto = within-weaker (λ o. o ≤ start + length p.body) (λ o. o ≤ next) (λ o h. omega (arith, h)) own (own-upto ucd way start p.body u.0.body) in
    ascends-append own (stops_from ucd way next ps) next (ascends-moved start (body_stops ucd way p.body) (body-ascends ucd way p.body u.0.body))
    (stops-ascend ucd way next ps u.1) upto (from-on ucd way next ps)

-- ---- members

within-at : (P : ℕ → Type 0) (os : List ℕ) → Within P os → (p i : ℕ) → i < length os → get_or os i p ≡ p → P p
within-at P [] a p i h e = absurd (omega (arith, h))
within-at P (o ∷ os) a p zero h e = subst P e a.0
within-at P (o ∷ os) a p (suc i) h e = within-at P os a.1 p i (omega (arith, h)) e

pub within-contains : (P : ℕ → Type 0) (os : List ℕ) → Within P os → (p : ℕ) → Contains os p → P p
within-contains P os a p c = within-at P os a p c.0 c.1 c.2

pub in-rest : (o : ℕ) (os : List ℕ) (p : ℕ) → Contains os p → Contains (o ∷ os) p
in-rest o os p c = (suc c.0, omega (arith, c.1), c.2)

within-front : (P : ℕ → Type 0) (os ps : List ℕ) → Within P (os ++ ps) → Within P os
within-front P [] ps a = tt
within-front P (o ∷ os) ps a = (a.0, within-front P os ps a.1)

within-back : (P : ℕ → Type 0) (os ps : List ℕ) → Within P (os ++ ps) → Within P ps
within-back P [] ps a = a
within-back P (o ∷ os) ps a = within-back P os ps a.1

pub unreversed : (P : ℕ → Type 0) (os : List ℕ) → Within P (reverse os) → Within P os
unreversed P [] a = tt
unreversed P (o ∷ os) a =
    let apart = subst (Within P) (reverse-append (o ∷ []) os) a in
    ((within-back P (reverse os) (o ∷ []) apart).0, unreversed P os (within-front P (reverse os) (o ∷ []) apart))

-- a property of the first one and of the others
cons-at : (P : ℕ → Type 0) (o : ℕ) (os : List ℕ) → P o → ((p : ℕ) → Contains os p → P p) → (p i : ℕ) → i < suc (length os)
    → get_or (o ∷ os) i p ≡ p → P p
cons-at P o os here rest p zero h e = subst P e here
cons-at P o os here rest p (suc i) h e = rest p (i, omega (arith, h), e)

pub cons-contains : (P : ℕ → Type 0) (o : ℕ) (os : List ℕ) → P o → ((p : ℕ) → Contains os p → P p) → (p : ℕ) → Contains (o ∷ os) p → P p
cons-contains P o os here rest p c = cons-at P o os here rest p c.0 c.1 c.2

-- ---- the least one after

module _ (place : ℕ) where
  abbrev after : ℕ → Bool
  after o = nat_lt place o

  first-at : (o : ℕ) (os : List ℕ) → Within (λ p. o ≤ p) os → ((n : ℕ) → find after os ≡ Some n → IsLeastBehind os place n)
      → (b : Bool) → nat_lt place o ≡ b → (n : ℕ) → cond b (Some o) (find after os) ≡ Some n → IsLeastBehind (o ∷ os) place n
  first-at o os on rest true e n found =
      let same : o ≡ n = cc in
      let past : place < o = grind (arith, nat_tests) in
      subst (IsLeastBehind (o ∷ os) place) same record {
        is_stop = (0, omega arith, refl);
        behind = past;
        least = λ p c h. cons-contains (λ q. o ≤ q) o os (omega arith) (within-contains (λ q. o ≤ q) os on) p c;
      }
  first-at o os on rest false e n found =
      let later = rest n found in
      let here : ¬ (place < o) = grind (arith, nat_tests) in record {
        is_stop = in-rest o os n later.is_stop;
        behind = later.behind;
        least = cons-contains (λ q. place < q → n ≤ q) o os (λ h. absurd (here h)) later.least;
      }

  pub first-is-least : (os : List ℕ) → Ascends os → (n : ℕ) → find after os ≡ Some n → IsLeastBehind os place n
  first-is-least [] a n found = absurd (cc)
  first-is-least (o ∷ os) a n found = first-at o os a.0 (first-is-least os a.1) (nat_lt place o) refl n found

  -- ---- the greatest one before

  abbrev before : ℕ → Bool
  before o = nat_lt o place

  last-at : (o : ℕ) (os : List ℕ) → Within (λ p. o ≤ p) os → ((n : ℕ) → find before (reverse os) ≡ Some n → IsGreatestBefore os place n)
      → (x : Option ℕ) → find before (reverse os) ≡ x → (b : Bool) → nat_lt o place ≡ b → (n : ℕ)
      → option_or x (cond b (Some o) None) ≡ Some n → IsGreatestBefore (o ∷ os) place n
  last-at o os on rest (Some m) e b test n found =
      let same : m ≡ n = cc in
      let later = rest m e in
      subst (IsGreatestBefore (o ∷ os) place) same record {
        is_stop = in-rest o os m later.is_stop;
        before = later.before;
        greatest = cons-contains (λ q. q < place → q ≤ m) o os (λ h. within-contains (λ q. o ≤ q) os on m later.is_stop) later.greatest;
      }
  last-at o os on rest None e true test n found =
      let same : o ≡ n = cc in
      let ahead : o < place = grind (arith, nat_tests) in
      let none : Within (λ q. before q ≡ false) os =
      unreversed (λ q. before q ≡ false) os (all-fail before (reverse os) e) in
      let fails : (q : ℕ) → Contains os q → q < place → q ≤ o =
      λ q c h. let no_stop : nat_lt q place ≡ false = within-contains (λ r. before r ≡ false) os none q c in grind (arith, nat_tests) in
      subst (IsGreatestBefore (o ∷ os) place) same record {
        is_stop = (0, omega arith, refl);
        before = ahead;
        greatest = cons-contains (λ q. q < place → q ≤ o) o os (λ h. omega arith) fails;
      }
  last-at o os on rest None e false test n found = absurd (cc)

  pub last-is-greatest : (os : List ℕ) → Ascends os → (n : ℕ) → find before (reverse os) ≡ Some n → IsGreatestBefore os place n
  last-is-greatest [] a n found = absurd (cc)
  last-is-greatest (o ∷ os) a n found =
      let apart : option_or (find before (reverse os)) (cond (nat_lt o place) (Some o) None) ≡ find before (reverse (o ∷ os)) =
      sym (ap (find before) (reverse-append (o ∷ []) os) ∙ find-append before (reverse os) (o ∷ [])) in
      last-at o os a.0 (last-is-greatest os a.1) (find before (reverse os)) refl (nat_lt o place) refl n (apart ∙ found)
