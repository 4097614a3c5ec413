-- The first place of a body at or after an offset is in the offset's row, or it is the next row's first or the last of the
-- row.
use Rattle.std.proofs.Common.{◌≡◌, ℕ, ◌+◌, ◌<◌, ◌≤◌, nat_le, List, [], ◌∷◌, map, length, find, Some, None, IsUtf8, refl}
use Rattle.std.proofs.Common.{sym, ap, subst, ◌∙◌, arith, length-append}
use Rattle.std.proofs.lemmas.List.{get_or-map, length-map}
use Rattle.bx_ucd.specs.Data.{Data}
use Rattle.bx_common.specs.declared.base.Base.{Base}
use Rattle.bx_rows.specs.cells.Units.{units}
use Rattle.bx_text.specs.index.Paragraphs.{Paragraph}
use Rattle.bx_paragraph.specs.BodyRows.{BodyRow, body_rows, falls_in, first_of, last_of, no_row, offsets_of}
use Rattle.bx_paragraph.specs.BodyRows.{row_at as row_at_body}
use Rattle.bx_paragraph.specs.Layout.{row_of as row_of_body}
use Rattle.bx_view.specs.BodyPlaces.{body_places, place_in_body}
use Rattle.bx_view.specs.Moves.{place_from}
use Rattle.bx_view.specs.TextRows.{TextRow, first, no_text_row, places, places_of, row_at, row_of, text_row}
use Rattle.bx_view.proofs.RowsAround.{BodyFirsts, firsts-moved, own-rank, own-within}
use Rattle.bx_view.proofs.BodyFirsts.{body-firsts, starts_of}
use Rattle.bx_view.proofs.FindPlaces.{from-here, from-last, from-next}
use Rattle.bx_view.proofs.LeastPlace.{least, least_below}
use Rattle.bx_view.proofs.PlacesRise.{AllHeads, body-headed, body-places, body-rise, heads-moved, places-moved}
use Rattle.bx_view.proofs.Rising.{Rises, rank}

-- offsets that are moved by nothing
pub not-moved : (os : List ℕ) → map (λ o. 0 + o) os ≡ os
not-moved [] = refl
not-moved (o ∷ os) =
    let same : 0 + o ≡ o = omega arith in ap (λ n. n ∷ map (λ k. 0 + k) os) same ∙ ap (λ ns. o ∷ ns) (not-moved os)

module _ (ucd : Data) (base : Base) (w : ℕ) (h : 1 ≤ w) (body : List ℕ) (utf8 : IsUtf8 body) (offset : ℕ) where
  abbrev mine : List BodyRow
  mine = body_rows ucd base w body

  -- its rows, as rows of a text
  abbrev alone : List TextRow
  alone = map (text_row 0) mine

  abbrev p : Paragraph
  p = record { body = body; separator = [] }

  bodies : (b : List ℕ) → IsUtf8 b → BodyFirsts b (body_rows ucd base w b)
  bodies = body-firsts ucd base w h

  heads : AllHeads alone
  heads = heads-moved 0 mine (body-headed ucd base w h body utf8)

  same-places : places alone ≡ body_places mine
  same-places = places-moved 0 mine ∙ not-moved (body_places mine)

  same-firsts : map first alone ≡ map first_of mine
  same-firsts = firsts-moved 0 mine ∙ not-moved (map first_of mine)

  all-rise : Rises 0 (body_places mine) (length body + 1)
  all-rise = body-rise ucd base w h body utf8

  rise : Rises 0 (places alone) (length body + 1)
  rise = subst (λ os. Rises 0 os (length body + 1)) (sym same-places) all-rise

  some : 1 ≤ rank offset (map first alone)
  some = subst (λ os. 1 ≤ rank offset os) (sym same-firsts) (own-rank ucd base w bodies p offset utf8)

  same-least : place_from alone offset ≡ place_in_body mine offset
  same-least = ap (least offset) same-places

  row-is : (k : ℕ) → k < length mine → row_at alone k ≡ text_row 0 (row_at_body mine k)
  row-is k within = get_or-map (text_row 0) mine k no_row no_text_row within

  -- the row of the offset
  module _ (k : ℕ) (falls : k ≡ row_of_body mine offset) where
    number-is : row_of alone offset ≡ k
    number-is = ap (λ os. falls_in os offset) same-firsts ∙ sym falls

    within : k < length mine
    within = omega (arith, falls, own-within ucd base w bodies p offset utf8)

    here-is : row_at alone (row_of alone offset) ≡ text_row 0 (row_at_body mine k)
    here-is = ap (row_at alone) number-is ∙ row-is k within

    found-is : find (nat_le offset) (places_of (row_at alone (row_of alone offset))) ≡ find (nat_le offset) (offsets_of (row_at_body mine k))
    found-is = ap (λ r. find (nat_le offset) (places_of r)) here-is ∙ ap (find (nat_le offset)) (not-moved (offsets_of (row_at_body mine k)))

    pub place-here : (o : ℕ) → find (nat_le offset) (offsets_of (row_at_body mine k)) ≡ Some o → o ≡ place_in_body mine offset
    place-here o e = from-here alone (length body + 1) rise heads offset some o (found-is ∙ e) ∙ same-least

    module _ (none : find (nat_le offset) (offsets_of (row_at_body mine k)) ≡ None) where
      pub place-next : k + 1 < length mine → first_of (row_at_body mine (k + 1)) ≡ place_in_body mine offset
      place-next more =
          let further : row_of alone offset + 1 < length alone = omega (arith, number-is, more, length-map mine (text_row 0)) in
          let zero : 0 + first_of (row_at_body mine (k + 1)) ≡ first_of (row_at_body mine (k + 1)) = omega arith in
          let next : row_at alone (row_of alone offset + 1) ≡ text_row 0 (row_at_body mine (k + 1)) =
          ap (λ n. row_at alone (n + 1)) number-is ∙ row-is (k + 1) more in
          sym (ap first next ∙ zero) ∙ from-next alone (length body + 1) rise heads offset some further (found-is ∙ none) ∙ same-least

      pub place-last : length mine ≤ k + 1 → last_of (row_at_body mine k) ≡ place_in_body mine offset
      place-last last =
          let end : row_of alone offset + 1 ≡ length alone = omega (arith, number-is, last, within, length-map mine (text_row 0)) in
          let zero : 0 + last_of (row_at_body mine k) ≡ last_of (row_at_body mine k) = omega arith in
          sym (ap (λ r. r.start + last_of r.row) here-is ∙ zero)
          ∙ from-last alone (length body + 1) rise heads offset some end (found-is ∙ none) ∙ same-least

  some-place : 0 < length (body_places mine)
  some-place = omega (arith, ap length (body-places ucd base w h body), length-append (starts_of (units ucd w body)) (length body ∷ []))

  -- it lies in the body
  pub place-within : place_in_body mine offset ≤ length body
  place-within = omega (arith, least_below offset 0 (body_places mine) (length body + 1) all-rise some-place)
