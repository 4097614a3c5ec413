-- A row is entered, in whatever column, at one of its places.
use Rattle.std.proofs.Common.{ℕ, ◌+◌, ◌<◌, ◌≤◌, List, [], ◌∷◌, length, reverse, get_or}
use Rattle.std.proofs.Common.{Option, Some, None, IsUtf8, arith}
use Rattle.std.specs.Prelude.{Contains, MatchOption}
use Rattle.std.proofs.lemmas.List.{length-reverse}
use Rattle.std.proofs.lemmas.List.Elements.{Contains-get_or}
use Rattle.bx_ucd.specs.Data.{Data}
use Rattle.bx_common.specs.declared.base.Base.{Base}
use Rattle.bx_paragraph.specs.declared.moves.Visual.{Visual}
use Rattle.bx_paragraph.specs.declared.moves.Visual.TheVariants.{Left, Right}
use Rattle.bx_paragraph.specs.BodyRows.{offsets_of}
use Rattle.bx_paragraph.specs.Slots.{covering, entry, first_in, opposite, or_else, reading_end}
use Rattle.bx_paragraph.specs.Slots.{reading_side, row_slots, slot_offsets, toward}
use Rattle.bx_paragraph.proofs.OnceEach.{once-contains, once-summed}
use Rattle.bx_view.specs.Cells.{times}
use Rattle.bx_view.specs.Laws.{IsEntered}
use Rattle.bx_view.specs.Moves.{place_in}
use Rattle.bx_view.specs.TextRows.{TextRow, no_text_row, places_of, row_at, text_rows}
use Rattle.bx_view.proofs.FindPlaces.{head-some, heads-at}
use Rattle.bx_view.proofs.KeptPlaces.{HasLevels, contains-counted, contains-moved, counted-contains, one-at, rows-leveled, within-of}
use Rattle.bx_view.proofs.PlacesRise.{rows-headed-in}
use Rattle.bx_view.proofs.Within.{Lies, Within, covering-lies, within-reverse}

-- there is an offset, and it passes
abbrev Is : (ℕ → Type 0) → Option ℕ → Type 0
Is P o = MatchOption o ⊥ P

first-is : (P : ℕ → Type 0) (os : List ℕ) → 0 < length os → Within P os → Is P (first_in os)
first-is P [] h a = absurd (omega (arith, h))
first-is P (o ∷ os) h a = a.0

toward-is : (P : ℕ → Type 0) (side : Visual) (os : List ℕ) → 0 < length os → Within P os → Is P (first_in (toward side os))
toward-is P Right os h a = first-is P os h a
toward-is P Left os h a = first-is P (reverse os) (omega (arith, h, length-reverse os)) (within-reverse P os a)

either-is : (P : ℕ → Type 0) (one other : Option ℕ) → Lies P one → Is P other → Is P (or_else one other)
either-is P None other a b = b
either-is P (Some o) other a b = a

in-row-is : (P : ℕ → Type 0) (r : TextRow) (o : Option ℕ) → Is (λ k. P (r.start + k)) o → Is P (place_in r o)
in-row-is P r None a = a
in-row-is P r (Some o) a = a

some-of : (os : List ℕ) (o : ℕ) → Contains os o → 0 < length os
some-of os o c = omega (arith, c.1)

entered-at : (w : ℕ) (r : TextRow) → HasLevels r.row → 0 < length (slot_offsets w r.row) → IsEntered w r
entered-at w r levels some column =
    let P : ℕ → Type 0 = λ o. Contains (places_of r) (r.start + o) in
    let os = slot_offsets w r.row in
    let slots : Within P os =
    within-of P os
    (λ o c. contains-moved r.start (offsets_of r.row) o (once-contains w r.row levels o c)) in
    let side = opposite (reading_side r.row.paragraph) in
    in-row-is (Contains (places_of r)) r (entry w r.row column)
    (either-is P (covering w r.row column) (reading_end w r.row) (covering-lies P column (row_slots w r.row) slots) (toward-is P side os some slots))

-- a row with a place has a slot
some-slot : (w : ℕ) (r : TextRow) → HasLevels r.row → 0 < length (offsets_of r.row) → 0 < length (slot_offsets w r.row)
some-slot w r levels some =
    let o = get_or (offsets_of r.row) 0 0 in
    let there : Contains (offsets_of r.row) o = Contains-get_or (offsets_of r.row) 0 0 some in
    let counted : 0 < times o (slot_offsets w r.row) =
    omega (arith, counted-contains (offsets_of r.row) o there, once-summed w r.row levels (one-at o)) in
    some-of (slot_offsets w r.row) o (contains-counted (slot_offsets w r.row) o counted)

module _ (ucd : Data) (base : Base) (w : ℕ) (some : 1 ≤ w) (text : List ℕ) (utf8 : IsUtf8 text) where
  abbrev rows : List TextRow
  rows = text_rows ucd base w text

  pub row-entered : (k : ℕ) → k < length rows → IsEntered w (row_at rows k)
  row-entered k within =
      let r = row_at rows k in
      let levels = rows-leveled ucd base w text k no_text_row within in
      let head = heads-at rows k (rows-headed-in ucd base w some text utf8) within in
      entered-at w r levels (some-slot w r levels (head-some r head))
