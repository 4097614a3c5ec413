-- A step forward from the start of a unit leads to its end, and between both are its bytes.
use Rattle.std.proofs.Common.{◌≡◌, ℕ, zero, suc, ◌+◌, ◌-◌, ◌<◌, ◌≤◌, ◌∙◌, true, List, [], ◌∷◌, ◌++◌, length, length-append, take, drop, get_or}
use Rattle.std.proofs.Common.{append_assoc, IsUtf8, IsCharBoundary, refl, sym, ap, subst, arith, ⊎_elim}
use Rattle.std.specs.Prelude.{Contains, slice_range}
use Rattle.std.specs.List.{concat}
use Rattle.std.proofs.lemmas.List.{drop-drop, drop_at, take-append-drop, take_at}
use Rattle.std.proofs.lemmas.List.Elements.{Contains-append_cases}
use Rattle.unicode_segmentation.specs.Grapheme.{graphemes, is_grapheme_break}
use Rattle.unicode_segmentation.proofs.SegmentsLemmas.{concat-segments}
use Rattle.bx_ucd.specs.Data.{Data}
use Rattle.bx_common.specs.declared.base.Base.{Base}
use Rattle.bx_text.specs.index.Paragraphs.{Paragraph, lengths_of, bytes_of}
use Rattle.bx_view.specs.Moves.{step_logical}
use Rattle.bx_view.specs.Places.{IsTextPlace}
use Rattle.bx_view.specs.Numbers.{boundaries, body_at, count, start_at}
use Rattle.bx_view.specs.TextRows.{text_rows}
use Rattle.bx_view.specs.declared.moves.Logical.TheVariants.{Forward}
use Rattle.bx_view.proofs.Numbered.{body-place, place-in-body}
use Rattle.bx_view.proofs.Numbers.{ahead, behind, body-is, body-range, body-utf8, here, parts-at}
use Rattle.bx_view.proofs.Parts.{AreEnded, text-parts}
use Rattle.bx_view.proofs.PlacesOn.{places-go-on}
use Rattle.bx_view.proofs.RowsAround.{EndsBefore, behind-ended}
use Rattle.bx_view.proofs.NextStops.{in-rest}
use Rattle.bx_view.proofs.TextPlaces.{start-in}

-- ---- boundaries

one-at : (x v k : ℕ) → k < 1 → get_or (x ∷ []) k v ≡ v → x ≡ v
one-at x v zero h e = e
one-at x v (suc k) h e = absurd (omega (arith, h))

the-one : (x v : ℕ) → Contains (x ∷ []) v → x ≡ v
the-one x v c = one-at x v c.0 c.1 c.2

bounds-from : (start : ℕ) (gs : List (List ℕ)) (x : ℕ) → Contains (boundaries start gs) x → start ≤ x
bounds-from start [] x c = omega (arith, the-one start x c)
bounds-from start (g ∷ gs) x c =
    let next = start + length g in
    ⊎_elim (λ first. omega (arith, the-one start x first)) (λ later. omega (arith, bounds-from next gs x later))
    (Contains-append_cases (start ∷ []) (boundaries next gs) x c)

-- behind the start of a piece no boundary stands before its end
next-bound : (start : ℕ) (front : List (List ℕ)) (unit : List ℕ) (rest : List (List ℕ)) (x : ℕ) → Contains (boundaries start (front ++ unit ∷ rest)) x
    → start + length (concat front) < x → start + length (concat front) + length unit ≤ x
next-bound start [] unit rest x c low =
    let next = start + length unit in
    ⊎_elim (λ first. absurd (omega (arith, low, the-one start x first))) (λ later. omega (arith, bounds-from next rest x later))
    (Contains-append_cases (start ∷ []) (boundaries next rest) x c)
next-bound start (g ∷ front) unit rest x c low =
    let next = start + length g in
    let size = length-append g (concat front) in
    ⊎_elim (λ first. absurd (omega (arith, low, the-one start x first)))
    (λ later. omega (arith, size, next-bound next front unit rest x later (omega (arith, low, size))))
    (Contains-append_cases (start ∷ []) (boundaries next (front ++ unit ∷ rest)) x c)

-- its end is one
end-bound : (start : ℕ) (front : List (List ℕ)) (unit : List ℕ) (rest : List (List ℕ))
    → Contains (boundaries start (front ++ unit ∷ rest)) (start + length (concat front) + length unit)
end-bound start [] unit rest =
    let same : start + length unit ≡ start + 0 + length unit = omega arith in
    subst (Contains (start ∷ boundaries (start + length unit) rest)) same (in-rest start (boundaries (start + length unit) rest) (start + length unit) (start-in (start + length unit) rest))
end-bound start (g ∷ front) unit rest =
    let next = start + length g in
    let same : next + length (concat front) + length unit ≡ start + length (concat (g ∷ front)) + length unit = omega (arith, length-append g (concat front)) in
    subst (Contains (boundaries start (g ∷ front ++ unit ∷ rest))) same
    (in-rest start (boundaries next (front ++ unit ∷ rest)) (next + length (concat front) + length unit) (end-bound next front unit rest))

concat-append : (xs ys : List (List ℕ)) → concat (xs ++ ys) ≡ concat xs ++ concat ys
concat-append [] ys = refl
concat-append (x ∷ xs) ys = ap (λ z. x ++ z) (concat-append xs ys) ∙ sym (append_assoc x (concat xs) (concat ys))

ended-behind : (p : Paragraph) (ps : List Paragraph) (stop at : ℕ) → AreEnded (p ∷ ps) → at ≤ stop → EndsBefore ps at (stop + length p.separator)
ended-behind p [] stop at h low = tt
ended-behind p (q ∷ qs) stop at h low = omega (arith, h.0, low)

module _ (ucd : Data) (text : List ℕ) (utf8 : IsUtf8 text) (n : ℕ) (within : n < count ucd text) (front rest : List (List ℕ)) (unit : List ℕ)
    (units : graphemes true (body_at ucd text n) ≡ front ++ unit ∷ rest) (some : 0 < length unit) where
  abbrev body : List ℕ
  body = body_at ucd text n

  abbrev start : ℕ
  start = start_at ucd text n

  abbrev place : ℕ
  place = start + length (concat front)

  body-parts : concat front ++ (unit ++ concat rest) ≡ body
  body-parts = sym (concat-append front (unit ∷ rest)) ∙ ap concat (sym units) ∙ concat-segments (is_grapheme_break true) body (body-utf8 ucd text n within utf8)

  body-size : length (concat front) + (length unit + length (concat rest)) ≡ length body
  body-size = omega (arith, ap length body-parts, length-append (concat front) (unit ++ concat rest), length-append unit (concat rest))

  body-stop : start + length body ≤ length text
  body-stop =
      let range = body-range ucd text n within utf8 in
      let bounds : IsCharBoundary text (start + length body) = range.stop_bounds in
      bounds.0

  -- its bytes
  pub unit-bytes : slice_range text place (place + length unit) ≡ unit
  unit-bytes =
      let tail = drop (length body) (drop start text) in
      let size : start + length body - start ≡ length body = omega arith in
      let own : take (length body) (drop start text) ≡ body = ap (λ k. take k (drop start text)) (sym size) ∙ body-is ucd text n within utf8 in
      let whole : drop start text ≡ concat front ++ ((unit ++ concat rest) ++ tail) =
      sym (take-append-drop (length body) (drop start text)) ∙ ap (λ xs. xs ++ tail) (own ∙ sym body-parts)
      ∙ append_assoc (concat front) (unit ++ concat rest) tail in
      let behind-front : drop place text ≡ unit ++ (concat rest ++ tail) =
      sym (drop-drop (length (concat front)) start text) ∙ ap (drop (length (concat front))) whole
      ∙ drop_at (concat front) ((unit ++ concat rest) ++ tail) (length (concat front)) refl ∙ append_assoc unit (concat rest) tail in
      let long : place + length unit - place ≡ length unit = omega arith in
      ap (λ k. take k (drop place text)) long ∙ ap (take (length unit)) behind-front ∙ take_at unit (concat rest ++ tail) (length unit) refl

  pub is-inside : place < length text
  is-inside = omega (arith, body-size, body-stop, some)

  -- the next place is its end
  pub unit-step : (base : Base) (w : ℕ) → 1 ≤ w → step_logical (text_rows ucd base w text) Forward place ≡ place + length unit
  unit-step base w wide =
      let gs = graphemes true body in
      let stop = step_logical (text_rows ucd base w text) Forward place in
      let next = (places-go-on ucd base w wide text utf8).forward place is-inside in
      let end : IsTextPlace ucd text (place + length unit) =
      body-place ucd text utf8 n within (place + length unit) (subst (λ us. Contains (boundaries start us) (place + length unit)) (sym units) (end-bound start front unit rest)) in
      let upto : stop ≤ place + length unit = next.least (place + length unit) end (omega (arith, some)) in
      let p = here ucd text n within in
      let ps = behind ucd text n within in
      let ended : AreEnded (p ∷ ps) = behind-ended (ahead ucd text n within) (p ∷ ps) (subst AreEnded (parts-at ucd text n within) (text-parts ucd text utf8).ended) in
      let size : start + length body + length p.separator ≡ start + bytes_of (lengths_of p) = omega arith in
      let in-body : Contains (boundaries start gs) stop =
      place-in-body ucd text utf8 n within stop next.is_stop (omega (arith, next.behind))
      (subst (EndsBefore ps stop) size (ended-behind p ps (start + length body) stop ended (omega (arith, upto, body-size)))) in
      let low : place + length unit ≤ stop =
      next-bound start front unit rest stop (subst (λ us. Contains (boundaries start us) stop) units in-body) next.behind in
      omega (arith, upto, low)
