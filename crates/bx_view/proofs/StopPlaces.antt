-- The stops of words are places: a property of all places is one of all stops.
use Rattle.std.proofs.Common.{◌≡◌, ℕ, ◌+◌, ◌≤◌, true, List, [], ◌∷◌, ◌++◌, map, length, IsUtf8, refl, ap, subst, ◌∙◌}
use Rattle.bx_ucd.specs.Data.{Data}
use Rattle.unicode_segmentation.specs.Grapheme.{graphemes}
use Rattle.unicode_segmentation.specs.Segments.{with_offsets}
use Rattle.bx_common.specs.declared.base.Base.{Base}
use Rattle.bx_rows.specs.declared.cells.unit.Unit.{Unit}
use Rattle.bx_rows.specs.cells.Units.{unit_at, units}
use Rattle.bx_text.specs.index.Paragraphs.{Paragraph, lengths_of, paragraphs, bytes_of}
use Rattle.bx_rows.specs.RowStarts.{first_offset}
use Rattle.bx_view.specs.declared.moves.Logical.{Logical}
use Rattle.bx_view.specs.declared.moves.Logical.TheVariants.{Back, Forward}
use Rattle.bx_view.specs.TextRows.{TextRow, places, text_row, text_rows}
use Rattle.bx_view.specs.declared.moves.unit_kind.UnitKind.{UnitKind}
use Rattle.bx_view.specs.declared.moves.unit_kind.UnitKind.TheVariants.{Other}
use Rattle.bx_view.specs.Words.{begins_word, body_stops, kind_of, stops_from, word_starts}
use Rattle.bx_view.proofs.RowsAround.{from, own}
use Rattle.bx_view.proofs.BodyFirsts.{none-in, starts_of}
use Rattle.bx_view.proofs.KeptMoves.{EndsLie}
use Rattle.bx_view.proofs.Parts.{AreUtf8, text-parts}
use Rattle.bx_view.proofs.PlacesRise.{body-places, places-from, places-moved}
use Rattle.bx_view.proofs.Within.{Within, within-append}
use Rattle.bx_view.proofs.WordParts.{put-within}

-- ---- parts of some offsets

within-front : (P : ℕ → Type 0) (os ps : List ℕ) → Within P (os ++ ps) → Within P os
within-front P [] ps a = tt
within-front P (o ∷ os) ps a = (a.0, within-front P os ps a.1)

within-rest : (P : ℕ → Type 0) (os ps : List ℕ) → Within P (os ++ ps) → Within P ps
within-rest P [] ps a = a
within-rest P (o ∷ os) ps a = within-rest P os ps a.1

moved-in : (P : ℕ → Type 0) (start : ℕ) (os : List ℕ) → Within (λ o. P (start + o)) os → Within P (map (λ o. start + o) os)
moved-in P start [] a = tt
moved-in P start (o ∷ os) a = (a.0, moved-in P start os a.1)

moved-out : (P : ℕ → Type 0) (start : ℕ) (os : List ℕ) → Within P (map (λ o. start + o) os) → Within (λ o. P (start + o)) os
moved-out P start [] a = tt
moved-out P start (o ∷ os) a = (a.0, moved-out P start os a.1)

-- ---- the stops of a body

starts-within : (P : ℕ → Type 0) (ucd : Data) (w : ℕ) (s f : UnitKind) (at : ℕ) (gs : List (List ℕ))
    → Within P (starts_of (map (unit_at ucd w) (with_offsets at gs))) → Within P (word_starts ucd s f at gs)
unfolding with_offsets
starts-within P ucd w s f at [] a = tt
starts-within P ucd w s f at (g ∷ gs) a =
    put-within P (begins_word s f (kind_of ucd g)) at (word_starts ucd f (kind_of ucd g) (at + length g) gs) a.0
    (starts-within P ucd w f (kind_of ucd g) (at + length g) gs a.1)

first-unit : (ucd : Data) (w : ℕ) (gs : List (List ℕ)) → first_offset (map (unit_at ucd w) (with_offsets 0 gs)) ≡ 0
unfolding with_offsets
first-unit ucd w [] = refl
first-unit ucd w (g ∷ gs) = refl

start-lies : (P : ℕ → Type 0) (us : List Unit) → first_offset us ≡ 0 → Within P (starts_of us) → (length us ≡ 0 → P 0) → P 0
start-lies P [] e a none = none refl
start-lies P (u ∷ us) e a none = subst P e a.0

module _ (P : ℕ → Type 0) (ucd : Data) (w : ℕ) (body : List ℕ) (utf8 : IsUtf8 body) (starts : Within P (starts_of (units ucd w body))) (end : P (length body)) where
  words : Within P (word_starts ucd Other Other 0 (graphemes true body))
  words = starts-within P ucd w Other Other 0 (graphemes true body) starts

  stops-lie : (way : Logical) → Within P (body_stops ucd way body)
  stops-lie Forward = within-append P (word_starts ucd Other Other 0 (graphemes true body)) (length body ∷ []) words (end, tt)
  stops-lie Back = (
    start-lies P (units ucd w body) (first-unit ucd w (graphemes true body)) starts (λ none. subst P (none-in ucd w body utf8 none) end),
    words,
  )

-- ---- the stops of a text

module _ (ucd : Data) (base : Base) (w : ℕ) (h : 1 ≤ w) (P : ℕ → Type 0) where
  abbrev mine : ℕ → Paragraph → List TextRow
  mine start p = map (text_row start) (own ucd base w p)

  abbrev rest : ℕ → List Paragraph → List TextRow
  rest start ps = from ucd base w start ps

  own-stops : (start : ℕ) (p : Paragraph) → IsUtf8 p.body → Within P (places (mine start p)) → (way : Logical)
      → Within P (map (λ o. start + o) (body_stops ucd way p.body))
  own-stops start p utf8 a way =
      let us = units ucd w p.body in
      let os = starts_of us in
      let whole : places (mine start p) ≡ map (λ o. start + o) (os ++ length p.body ∷ []) =
      places-moved start (own ucd base w p) ∙ ap (map (λ o. start + o)) (body-places ucd base w h p.body) in
      let out : Within (λ o. P (start + o)) (os ++ length p.body ∷ []) =
      moved-out P start (os ++ length p.body ∷ []) (subst (Within P) whole a) in
      let last = within-rest (λ o. P (start + o)) os (length p.body ∷ []) out in
      moved-in P start (body_stops ucd way p.body)
      (stops-lie (λ o. P (start + o)) ucd w p.body utf8 (within-front (λ o. P (start + o)) os (length p.body ∷ []) out) last.0 way)

  from-stops : (start : ℕ) (ps : List Paragraph) → AreUtf8 ps → Within P (places (rest start ps)) → (way : Logical) → Within P (stops_from ucd way start ps)
  from-stops start [] u a way = tt
  from-stops start (p ∷ ps) u a way =
      let next = start + bytes_of (lengths_of p) in
      let here = places (mine start p) in
      let behind = places (rest next ps) in
      let parts : Within P (here ++ behind) = subst (Within P) (places-from ucd base w h start p ps) a in
      within-append P (map (λ o. start + o) (body_stops ucd way p.body)) (stops_from ucd way next ps)
      (own-stops start p u.0.body (within-front P here behind parts) way)
      (from-stops next ps u.1 (within-rest P here behind parts) way)

  -- if all places of the rows have a property
  pub ends-lie : (text : List ℕ) → IsUtf8 text → Within P (places (text_rows ucd base w text)) → P 0 → P (length text) → EndsLie ucd text P
  ends-lie text utf8 a begin end =
      record { begin = begin; end = end; stops = from-stops 0 (paragraphs ucd text) (text-parts ucd text utf8).utf8 a }
