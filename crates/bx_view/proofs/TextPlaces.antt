-- The places of a text's rows are the boundaries of its clusters and separators, whatever the window and the direction.
use Rattle.std.proofs.Common.{◌≡◌, ℕ, suc, ◌+◌, ◌-◌, ◌<◌, ◌≤◌, ◌==◌, ◌&&◌, Bool, true, false, List, [], ◌∷◌, ◌++◌, map, length, slice_get}
use Rattle.std.proofs.Common.{Some, chars, encode_utf8, IsUtf8, IsCharBoundary, refl, sym, ap, subst, ◌∙◌, arith, append-nil, append_assoc, length-append}
use Rattle.std.specs.Prelude.{flat_map, All, Contains}
use Rattle.std.specs.List.{concat}
use Rattle.std.specs.List.Sorted.{IsStrictlyIncreasing}
use Rattle.std.proofs.lemmas.Bool.Decides.{nat_tests}
use Rattle.std.proofs.lemmas.List.{map-append}
use Rattle.std.proofs.lemmas.List.Concat.{flat_map-cons}
use Rattle.std.proofs.lemmas.List.Elements.{All-append, All-cons, All-contains, All-map, All-nil, Contains-append_right}
use Rattle.bx_ucd.specs.Data.{Data}
use Rattle.unicode_segmentation.specs.Grapheme.{graphemes, is_grapheme_break}
use Rattle.unicode_segmentation.specs.Segments.{with_offsets}
use Rattle.unicode_segmentation.proofs.SegmentsLemmas.{concat-segments}
use Rattle.bx_common.specs.declared.base.Base.{Base}
use Rattle.bx_common.specs.declared.base.Base.TheVariants.{Auto}
use Rattle.bx_rows.specs.cells.Units.{unit_at, units}
use Rattle.bx_text.specs.index.Paragraphs.{Paragraph, after_character, after_cr, bare, begins_with_lf, cut, is_separator, lengths_of}
use Rattle.bx_text.specs.index.Paragraphs.{paragraphs, bytes_of}
use Rattle.bx_text.proofs.index_lemmas.Cuts.{width_is_some}
use Rattle.bx_view.specs.Laws.{SpansText}
use Rattle.bx_view.specs.Places.{IsTextPlace, one_piece, pieces, pieces_of, text_places}
use Rattle.bx_view.specs.Numbers.{boundaries}
use Rattle.bx_view.specs.TextRows.{IsPlace, TextRow, places, text_row, text_rows}
use Rattle.bx_view.proofs.RowsAround.{from, own}
use Rattle.bx_view.proofs.BodyFirsts.{starts_of}
use Rattle.bx_view.proofs.Boundaries.{places-bound}
use Rattle.bx_view.proofs.Parts.{AreEnded, AreUtf8, bytes, cut-lf, text-bytes, text-parts}
use Rattle.bx_view.proofs.PlacesRise.{body-places, places-from, places-moved, places-rise}
use Rattle.bx_view.proofs.Rising.{Rises, rises-apart}
use Rattle.bx_view.proofs.Within.{Within}

-- ---- the last paragraph has no separator

abbrev pub LastIsBare : List Paragraph → Type 0
LastIsBare [] = ⊥
LastIsBare (p ∷ []) = p.separator ≡ []
LastIsBare (p ∷ q ∷ ps) = LastIsBare (q ∷ ps)

bare-behind : (p : Paragraph) (ps : List Paragraph) → LastIsBare ps → LastIsBare (p ∷ ps)
bare-behind p [] h = absurd h
bare-behind p (q ∷ ps) h = h

character-bare : (c : ℕ) (ps : List Paragraph) → LastIsBare ps → LastIsBare (after_character c ps)
character-bare c [] h = absurd h
character-bare c (p ∷ []) h = h
character-bare c (p ∷ q ∷ ps) h = h

pair-bare : (c : ℕ) (ps : List Paragraph) → LastIsBare (bare (encode_utf8 c) ∷ ps) → LastIsBare (after_cr (bare (encode_utf8 c) ∷ ps))
pair-bare c [] h = absurd (omega (arith, width_is_some c, ap length h))
pair-bare c (p ∷ ps) h = h

module _ (ucd : Data) where
  lf-bare : (cs : List ℕ) → begins_with_lf ucd cs ≡ true → LastIsBare (cut ucd cs) → LastIsBare (after_cr (cut ucd cs))
  lf-bare [] b h = absurd (grind (arith, nat_tests))
  lf-bare (c ∷ cs) b h =
      let lf : (c == 10) ≡ true = grind (arith, nat_tests) in
      let ends : is_separator (ucd.class c) ≡ true = grind (arith, nat_tests) in
      let e = cut-lf ucd c cs lf ends in subst (λ ps. LastIsBare (after_cr ps)) (sym e) (pair-bare c (cut ucd cs) (subst LastIsBare e h))

  bare-at : (c : ℕ) (cs : List ℕ) (ends cr lf : Bool) → (lf ≡ true → LastIsBare (after_cr (cut ucd cs))) → LastIsBare (cut ucd cs)
      → LastIsBare (elim ends [
        | false ↦ after_character c (cut ucd cs)
        | true ↦ elim (cr && lf) [ true ↦ after_cr (cut ucd cs) | false ↦ bare (encode_utf8 c) ∷ cut ucd cs ]
      ])
  bare-at c cs false cr lf pair h = character-bare c (cut ucd cs) h
  bare-at c cs true false lf pair h = bare-behind (bare (encode_utf8 c)) (cut ucd cs) h
  bare-at c cs true true false pair h = bare-behind (bare (encode_utf8 c)) (cut ucd cs) h
  bare-at c cs true true true pair h = pair refl

  pub last-bare : (cs : List ℕ) → LastIsBare (cut ucd cs)
  last-bare [] = refl
  last-bare (c ∷ cs) =
      let rest : LastIsBare (cut ucd cs) = last-bare cs in
      bare-at c cs (is_separator (ucd.class c)) (c == 13) (begins_with_lf ucd cs) (λ lf. lf-bare cs lf rest) rest

-- ---- the pieces together

concat-append : (xs ys : List (List ℕ)) → concat (xs ++ ys) ≡ concat xs ++ concat ys
concat-append [] ys = refl
concat-append (x ∷ xs) ys = ap (λ b. x ++ b) (concat-append xs ys) ∙ sym (append_assoc x (concat xs) (concat ys))

one-bytes : (bs : List ℕ) → concat (one_piece bs) ≡ bs
one-bytes [] = refl
one-bytes (b ∷ bs) = append-nil (b ∷ bs)

one-some : (bs : List ℕ) → 0 < length bs → one_piece bs ≡ bs ∷ []
one-some [] h = absurd (omega (arith, h))
one-some (b ∷ bs) h = refl

pub pieces-bytes : (ps : List Paragraph) → AreUtf8 ps → concat (flat_map pieces_of ps) ≡ bytes ps
pieces-bytes [] u = refl
pieces-bytes (p ∷ ps) u =
    let gs = graphemes true p.body in
    let more = flat_map pieces_of ps in
    ap concat (flat_map-cons pieces_of p ps) ∙ concat-append (pieces_of p) more ∙ ap (λ b. b ++ concat more) (concat-append gs (one_piece p.separator))
    ∙ ap (λ b. (b ++ concat (one_piece p.separator)) ++ concat more) (concat-segments (is_grapheme_break true) p.body u.0.body)
    ∙ ap (λ b. (p.body ++ b) ++ concat more) (one-bytes p.separator) ∙ ap (λ b. (p.body ++ p.separator) ++ b) (pieces-bytes ps u.1)

pieces-whole : (ucd : Data) (text : List ℕ) → IsUtf8 text → concat (pieces ucd text) ≡ text
pieces-whole ucd text utf8 = pieces-bytes (paragraphs ucd text) (text-parts ucd text utf8).utf8 ∙ text-bytes ucd text utf8

-- ---- the boundaries of pieces

some-bound : (start : ℕ) (gs : List (List ℕ)) → 0 < length (boundaries start gs)
some-bound start [] = omega arith
some-bound start (g ∷ gs) = omega arith

first-boundary : (start : ℕ) (gs : List (List ℕ)) → slice_get (boundaries start gs) 0 ≡ Some start
first-boundary start [] = refl
first-boundary start (g ∷ gs) = refl

pub start-in : (start : ℕ) (gs : List (List ℕ)) → Contains (boundaries start gs) start
start-in start [] = (0, omega arith, refl)
start-in start (g ∷ gs) = (0, omega arith, refl)

pub end-in : (start : ℕ) (gs : List (List ℕ)) → Contains (boundaries start gs) (start + length (concat gs))
end-in start [] = let none : start ≡ start + 0 = omega arith in subst (Contains (start ∷ [])) none (0, omega arith, refl)
end-in start (g ∷ gs) =
    let sum : start + length g + length (concat gs) ≡ start + length (concat (g ∷ gs)) = omega (arith, length-append g (concat gs)) in
    subst (Contains (start ∷ boundaries (start + length g) gs)) sum
    (Contains-append_right (start ∷ []) (boundaries (start + length g) gs) (start + length g + length (concat gs)) (end-in (start + length g) gs))

last-boundary : (start : ℕ) (gs : List (List ℕ))
    → slice_get (boundaries start gs) (length (boundaries start gs) - 1) ≡ Some (start + length (concat gs))
last-boundary start [] = let none : start ≡ start + 0 = omega arith in ap Some none
last-boundary start (g ∷ gs) =
    let more = boundaries (start + length g) gs in
    let before : length (start ∷ more) - 1 ≡ suc (length more - 1) = omega (arith, some-bound (start + length g) gs) in
    let size : start + length g + length (concat gs) ≡ start + length (concat (g ∷ gs)) = omega (arith, length-append g (concat gs)) in
    ap (slice_get (start ∷ more)) before ∙ last-boundary (start + length g) gs ∙ ap Some size

-- ---- of the rows

cluster-bounds : (ucd : Data) (w at start : ℕ) (gs rest : List (List ℕ)) → boundaries (start + at) (gs ++ rest)
    ≡ map (λ o. start + o) (starts_of (map (unit_at ucd w) (with_offsets at gs))) ++ boundaries (start + (at + length (concat gs))) rest
unfolding with_offsets
cluster-bounds ucd w at start [] rest = let none : start + at ≡ start + (at + 0) = omega arith in ap (λ n. boundaries n rest) none
cluster-bounds ucd w at start (g ∷ gs) rest =
    let starts = map (λ o. start + o) (starts_of (map (unit_at ucd w) (with_offsets (at + length g) gs))) in
    let next : start + at + length g ≡ start + (at + length g) = omega arith in
    let size : start + (at + length g + length (concat gs)) ≡ start + (at + length (concat (g ∷ gs))) = omega (arith, length-append g (concat gs)) in
    ap (λ os. (start + at) ∷ os)
    (ap (λ n. boundaries n (gs ++ rest)) next ∙ cluster-bounds ucd w (at + length g) start gs rest ∙ ap (λ n. starts ++ boundaries n rest) size)

module _ (ucd : Data) (base : Base) (w : ℕ) (h : 1 ≤ w) where
  abbrev starts : ℕ → List ℕ → List ℕ
  starts start body = map (λ o. start + o) (starts_of (units ucd w body))

  abbrev mine : ℕ → Paragraph → List TextRow
  mine start p = map (text_row start) (own ucd base w p)

  abbrev rest : ℕ → List Paragraph → List TextRow
  rest start ps = from ucd base w start ps

  body-bounds : (start : ℕ) (body : List ℕ) (others : List (List ℕ)) → IsUtf8 body
      → boundaries start (graphemes true body ++ others) ≡ starts start body ++ boundaries (start + length body) others
  body-bounds start body others utf8 =
      let gs = graphemes true body in
      let here : start ≡ start + 0 = omega arith in
      let size : start + (0 + length (concat gs)) ≡ start + length body =
      omega (arith, ap length (concat-segments (is_grapheme_break true) body utf8)) in
      ap (λ n. boundaries n (gs ++ others)) here ∙ cluster-bounds ucd w 0 start gs others ∙ ap (λ n. starts start body ++ boundaries n others) size

  own-places : (start : ℕ) (p : Paragraph) → places (mine start p) ≡ starts start p.body ++ (start + length p.body) ∷ []
  own-places start p =
      places-moved start (own ucd base w p) ∙ ap (map (λ o. start + o)) (body-places ucd base w h p.body)
      ∙ map-append (λ o. start + o) (starts_of (units ucd w p.body)) (length p.body ∷ [])

  last-bounds : (start : ℕ) (p : Paragraph) → IsUtf8 p.body → p.separator ≡ []
      → boundaries start (flat_map pieces_of (p ∷ [])) ≡ starts start p.body ++ (start + length p.body) ∷ []
  last-bounds start p utf8 none =
      ap (boundaries start) (flat_map-cons pieces_of p [] ∙ append-nil (pieces_of p) ∙ ap (λ s. graphemes true p.body ++ one_piece s) none)
      ∙ body-bounds start p.body [] utf8

  ended-bounds : (start : ℕ) (p : Paragraph) (ps : List Paragraph) → IsUtf8 p.body → 0 < length p.separator
      → boundaries start (flat_map pieces_of (p ∷ ps))
      ≡ starts start p.body ++ (start + length p.body) ∷ boundaries (start + bytes_of (lengths_of p)) (flat_map pieces_of ps)
  ended-bounds start p ps utf8 some =
      let gs = graphemes true p.body in
      let more = flat_map pieces_of ps in
      let size : start + length p.body + length p.separator ≡ start + bytes_of (lengths_of p) = omega arith in
      ap (boundaries start) (flat_map-cons pieces_of p ps ∙ append_assoc gs (one_piece p.separator) more
      ∙ ap (λ s. gs ++ (s ++ more)) (one-some p.separator some))
      ∙ body-bounds start p.body (p.separator ∷ more) utf8
      ∙ ap (λ n. starts start p.body ++ (start + length p.body) ∷ boundaries n more) size

  from-bounds : (start : ℕ) (ps : List Paragraph) → AreUtf8 ps → AreEnded ps → LastIsBare ps
      → places (rest start ps) ≡ boundaries start (flat_map pieces_of ps)
  from-bounds start [] u e l = absurd l
  from-bounds start (p ∷ []) u e l =
      places-from ucd base w h start p [] ∙ append-nil (places (mine start p)) ∙ own-places start p ∙ sym (last-bounds start p u.0.body l)
  from-bounds start (p ∷ q ∷ ps) u e l =
      let next = start + bytes_of (lengths_of p) in
      places-from ucd base w h start p (q ∷ ps) ∙ ap (λ os. os ++ places (rest next (q ∷ ps))) (own-places start p)
      ∙ append_assoc (starts start p.body) ((start + length p.body) ∷ []) (places (rest next (q ∷ ps)))
      ∙ ap (λ os. starts start p.body ++ (start + length p.body) ∷ os) (from-bounds next (q ∷ ps) u.1 e.1 l)
      ∙ sym (ended-bounds start p (q ∷ ps) u.0.body e.0)

  -- the places of a text's rows
  pub places-are : (text : List ℕ) → IsUtf8 text → places (text_rows ucd base w text) ≡ text_places ucd text
  places-are text utf8 =
      let parts = text-parts ucd text utf8 in from-bounds 0 (paragraphs ucd text) parts.utf8 parts.ended (last-bare ucd (chars text))

  -- and the offsets at which their paragraphs begin are places
  first-starts : (all front : List ℕ) (start : ℕ) (p : Paragraph) (ps : List Paragraph) → all ≡ front ++ places (rest start (p ∷ ps))
      → places (rest start (p ∷ ps)) ≡ boundaries start (flat_map pieces_of (p ∷ ps)) → All (λ r. Contains all r.start) (mine start p)
  first-starts all front start p ps e bounds =
      let own-places = places (rest start (p ∷ ps)) in
      let first : Contains own-places start = subst (λ os. Contains os start) (sym bounds) (start-in start (flat_map pieces_of (p ∷ ps))) in
      let here : Contains all start = subst (λ os. Contains os start) (sym e) (Contains-append_right front own-places start first) in
      All-map (λ (r : TextRow). Contains all r.start) (text_row start) (own ucd base w p) (λ i d within. here)

  starts-in : (all front : List ℕ) (start : ℕ) (ps : List Paragraph) → all ≡ front ++ places (rest start ps) → AreUtf8 ps → AreEnded ps → LastIsBare ps
      → All (λ r. Contains all r.start) (rest start ps)
  starts-in all front start [] e u d l = absurd l
  starts-in all front start (p ∷ []) e u d l =
      All-append (λ (r : TextRow). Contains all r.start) (mine start p) []
      (first-starts all front start p [] e (from-bounds start (p ∷ []) u d l)) (All-nil (λ (r : TextRow). Contains all r.start))
  starts-in all front start (p ∷ q ∷ ps) e u d l =
      let next = start + bytes_of (lengths_of p) in
      let os = places (mine start p) in
      let behind = places (rest next (q ∷ ps)) in
      All-append (λ (r : TextRow). Contains all r.start) (mine start p) (rest next (q ∷ ps))
      (first-starts all front start p (q ∷ ps) e (from-bounds start (p ∷ q ∷ ps) u d l))
      (starts-in all (front ++ os) next (q ∷ ps) (e ∙ ap (λ xs. front ++ xs) (places-from ucd base w h start p (q ∷ ps)) ∙ sym (append_assoc front os behind)) u.1 d.1 l)

  pub starts-are-places : (text : List ℕ) → IsUtf8 text
      → All (λ r. Contains (places (text_rows ucd base w text)) r.start) (text_rows ucd base w text)
  starts-are-places text utf8 =
      let parts = text-parts ucd text utf8 in
      starts-in (places (text_rows ucd base w text)) [] 0 (paragraphs ucd text) refl parts.utf8 parts.ended (last-bare ucd (chars text))

  -- the first place is the text's begin
  pub begin-is-place : (text : List ℕ) → IsUtf8 text → Contains (places (text_rows ucd base w text)) 0
  begin-is-place text utf8 = subst (λ os. Contains os 0) (sym (places-are text utf8)) (start-in 0 (pieces ucd text))

  -- and the last is its end
  pub end-is-place : (text : List ℕ) → IsUtf8 text → Contains (places (text_rows ucd base w text)) (length text)
  end-is-place text utf8 =
      let size : 0 + length (concat (pieces ucd text)) ≡ length text = omega (arith, ap length (pieces-whole ucd text utf8)) in
      subst (λ os. Contains os (length text)) (sym (places-are text utf8))
      (subst (Contains (text_places ucd text)) size (end-in 0 (pieces ucd text)))

-- ---- windows

module _ (ucd : Data) (base : Base) (w : ℕ) (h : 1 ≤ w) (text : List ℕ) (utf8 : IsUtf8 text) (p : ℕ) where
  -- a place of the text is a place in any window
  pub place-in-window : IsTextPlace ucd text p → IsPlace (text_rows ucd base w text) p
  place-in-window c = subst (λ os. Contains os p) (sym (places-are ucd base w h text utf8)) c

-- ---- between characters, from begin to end

all-of-within : (P : ℕ → Type 0) (os : List ℕ) → Within P os → All P os
all-of-within P [] a = All-nil P
all-of-within P (o ∷ os) a = All-cons P o os a.0 (all-of-within P os a.1)

-- places lie between characters
pub places-between : (ucd : Data) (text : List ℕ) → IsUtf8 text → All (IsCharBoundary text) (text_places ucd text)
places-between ucd text utf8 =
    let one : 1 ≤ 1 = omega arith in
    subst (All (IsCharBoundary text)) (places-are ucd Auto 1 one text utf8)
    (all-of-within (IsCharBoundary text) (places (text_rows ucd Auto 1 text)) (places-bound ucd Auto 1 one text utf8))

pub place-between : (ucd : Data) (text : List ℕ) (p : ℕ) → IsUtf8 text → IsTextPlace ucd text p → IsCharBoundary text p
place-between ucd text p utf8 c = All-contains (IsCharBoundary text) (text_places ucd text) p (places-between ucd text utf8) c

places-rise-strictly : (ucd : Data) (text : List ℕ) → IsUtf8 text → IsStrictlyIncreasing (text_places ucd text)
places-rise-strictly ucd text utf8 =
    let one : 1 ≤ 1 = omega arith in
    let rise : Rises 0 (text_places ucd text) (length text + 1) =
    subst (λ os. Rises 0 os (length text + 1)) (places-are ucd Auto 1 one text utf8) (places-rise ucd Auto 1 one text utf8) in
    λ k h. rises-apart 0 (text_places ucd text) (length text + 1) k (k + 1) 0 rise (omega arith) h

-- the places of a text go from its begin to its end
pub places-span : (ucd : Data) (text : List ℕ) → IsUtf8 text → SpansText ucd text
places-span ucd text utf8 =
    let last = last-boundary 0 (pieces ucd text) in
    let size : 0 + length (concat (pieces ucd text)) ≡ length text = omega (arith, ap length (pieces-whole ucd text utf8)) in record {
      whole = pieces-whole ucd text utf8;
      first = first-boundary 0 (pieces ucd text);
      last = last ∙ ap Some size;
      rise = places-rise-strictly ucd text utf8;
      between = places-between ucd text utf8;
    }
