-- A property of all character boundaries of a body holds at the offsets of its rows' places.
use Rattle.std.proofs.Common.{◌≡◌, ℕ, zero, suc, ◌+◌, ◌<◌, ◌%◌, ◌==◌, cond, Bool, true, false, List, [], ◌∷◌, ◌++◌, map, length, reverse, get_or, find}
use Rattle.std.proofs.Common.{Option, Some, None, option_map, chars, IsUtf8, IsCharBoundary, refl, sym, ap, subst, arith}
use Rattle.std.specs.Prelude.{All}
use Rattle.std.specs.List.{zip}
use Rattle.std.proofs.lemmas.List.{map-append, reverse-append}
use Rattle.std.proofs.lemmas.List.Elements.{All-cons, All-head, All-nil, All-tail}
use Rattle.std.proofs.lemmas.Str.{IsCharBoundary-end, IsCharBoundary-start}
use Rattle.bx_ucd.specs.Data.{Data}
use Rattle.bx_common.specs.declared.base.Base.{Base}
use Rattle.bx_levels.specs.resolve.Levels.{paragraph_level_under, levels_under}
use Rattle.bx_rows.specs.declared.cells.unit.Unit.{Unit}
use Rattle.bx_rows.specs.cells.Units.{units}
use Rattle.bx_rows.specs.cells.UnitFacts.{StandsIn}
use Rattle.bx_rows.proofs.cells_lemmas.Standing.{stand_if_units}
use Rattle.bx_rows.specs.RowPicture.{unit_columns}
use Rattle.bx_rows.specs.RowLevels.{visual}
use Rattle.bx_rows.specs.Wrapping.{row_units, wrap}
use Rattle.bx_rows.specs.declared.wrapping.Row.{Row}
use Rattle.bx_rows.proofs.PictureLaws.{faces-row}
use Rattle.bx_paragraph.specs.declared.moves.Visual.{Visual}
use Rattle.bx_paragraph.specs.declared.moves.Visual.TheVariants.{Left, Right}
use Rattle.bx_paragraph.specs.declared.slots.Slot.{Slot}
use Rattle.bx_paragraph.specs.BodyRows.{BodyRow, body_rows, last_of, last_offset, offsets_of, row_with, rows_units, with_last}
use Rattle.bx_paragraph.specs.BodyRows.{row_at as row_at_body}
use Rattle.bx_paragraph.specs.Slots.{beside, covering_in, covers, end_slot, entry, extent_of, first_in, left_column, next_in, or_else}
use Rattle.bx_paragraph.specs.Slots.{opposite, reading_end, reading_side, reading_start, row_slots, side_by_side, slot_offsets, toward, unit_slots}
use Rattle.bx_paragraph.proofs.LayoutRows.{last-at}

-- each of some offsets passes
abbrev pub Within : (ℕ → Type 0) → List ℕ → Type 0
Within P [] = Prim.Unit {0}
Within P (o ∷ os) = P o × Within P os

-- an offset is, if there is one
abbrev pub Lies : (ℕ → Type 0) → Option ℕ → Type 0
Lies P None = Prim.Unit {0}
Lies P (Some o) = P o

-- ---- lists of them

pub within-append : (P : ℕ → Type 0) (os ps : List ℕ) → Within P os → Within P ps → Within P (os ++ ps)
within-append P [] ps a b = b
within-append P (o ∷ os) ps a b = (a.0, within-append P os ps a.1 b)

pub within-reverse : (P : ℕ → Type 0) (os : List ℕ) → Within P os → Within P (reverse os)
within-reverse P [] a = tt
within-reverse P (o ∷ os) a =
    subst (Within P) (sym (reverse-append (o ∷ []) os)) (within-append P (reverse os) (o ∷ []) (within-reverse P os a.1) (a.0, tt))

toward-within : (P : ℕ → Type 0) (side : Visual) (os : List ℕ) → Within P os → Within P (toward side os)
toward-within P Right os a = a
toward-within P Left os a = within-reverse P os a

first-lies : (P : ℕ → Type 0) (os : List ℕ) → Within P os → Lies P (first_in os)
first-lies P [] a = tt
first-lies P (o ∷ os) a = a.0

next-at : (P : ℕ → Type 0) (offset : ℕ) (ps : List ℕ) (b : Bool) → Lies P (first_in ps) → Lies P (next_in offset ps)
    → Lies P (elim b [ true ↦ first_in ps | false ↦ next_in offset ps ])
next-at P offset ps true f n = f
next-at P offset ps false f n = n

next-lies : (P : ℕ → Type 0) (offset : ℕ) (os : List ℕ) → Within P os → Lies P (next_in offset os)
next-lies P offset [] a = tt
next-lies P offset (p ∷ ps) a = next-at P offset ps (p == offset) (first-lies P ps a.1) (next-lies P offset ps a.1)

pub last-lies : (P : ℕ → Type 0) → P 0 → (os : List ℕ) → Within P os → P (last_offset os)
last-lies P start [] a = start
last-lies P start (o ∷ []) a = a.0
last-lies P start (o ∷ p ∷ os) a = last-lies P start (p ∷ os) a.1

-- ---- slots

beside-within : (P : ℕ → Type 0) (at : ℕ) (us : List (ℕ × ℕ)) → Within P (map (λ u. u.0) us) → Within P (map (λ s. s.offset) (side_by_side at us))
beside-within P at [] a = tt
beside-within P at (u ∷ us) a = (a.0, beside-within P (at + u.1) us a.1)

extent-lies : (P : ℕ → Type 0) (start : P 0) (os columns : List ℕ) (k : ℕ) → Within P os → P (get_or (zip os columns) k (0, 0)).0
extent-lies P start [] columns k a = start
extent-lies P start (o ∷ os) [] k a = start
extent-lies P start (o ∷ os) (c ∷ cs) zero a = a.0
extent-lies P start (o ∷ os) (c ∷ cs) (suc k) a = extent-lies P start os cs k a.1

chosen-within : (P : ℕ → Type 0) (start : P 0) (us : List Unit) (columns order : List ℕ) → Within P (map (λ u. u.start) us)
    → Within P (map (λ u. u.0) (map (extent_of us columns) order))
chosen-within P start us columns [] a = tt
chosen-within P start us columns (k ∷ ks) a = (extent-lies P start (map (λ u. u.start) us) columns k a, chosen-within P start us columns ks a)

end-within : (P : ℕ → Type 0) (n : ℕ) (end : Slot) (ss : List Slot) → P end.offset → Within P (map (λ s. s.offset) ss)
    → Within P (map (λ (s : Slot). s.offset) (elim n [ zero ↦ ss ++ end ∷ [] | suc _ ↦ end ∷ ss ]))
end-within P zero end ss e a =
    subst (Within P) (sym (map-append (λ s. s.offset) ss (end ∷ []))) (within-append P (map (λ s. s.offset) ss) (end.offset ∷ []) a (e, tt))
end-within P (suc n) end ss e a = (e, a)

last-within : (P : ℕ → Type 0) (n : ℕ) (b : Bool) (end : Slot) (ss : List Slot) → P end.offset → Within P (map (λ s. s.offset) ss)
    → Within P (map (λ (s : Slot). s.offset) (elim b [ true ↦ elim n [ zero ↦ ss ++ end ∷ [] | suc _ ↦ end ∷ ss ] | false ↦ ss ]))
last-within P n true end ss e a = end-within P n end ss e a
last-within P n false end ss e a = a

found-lies : (P : ℕ → Type 0) (column : ℕ) (s : Slot) (ss : List Slot) (b : Bool) → P s.offset
    → Lies P (option_map (λ (t : Slot). t.offset) (find (covers column) ss))
    → Lies P (option_map (λ (t : Slot). t.offset) (cond b (Some s) (find (covers column) ss)))
found-lies P column s ss true e a = e
found-lies P column s ss false e a = a

pub covering-lies : (P : ℕ → Type 0) (column : ℕ) (ss : List Slot) → Within P (map (λ s. s.offset) ss) → Lies P (covering_in ss column)
covering-lies P column [] a = tt
covering-lies P column (s ∷ ss) a = found-lies P column s ss (covers column s) a.0 (covering-lies P column ss a.1)

chosen-lies : (P : ℕ → Type 0) (o : ℕ) (rest : Option ℕ) (b : Bool) → P o → Lies P rest → Lies P (cond b (Some o) rest)
chosen-lies P o rest true e a = e
chosen-lies P o rest false e a = a

pub find-lies : (P : ℕ → Type 0) (p : ℕ → Bool) (os : List ℕ) → Within P os → Lies P (find p os)
find-lies P p [] a = tt
find-lies P p (o ∷ os) a = chosen-lies P o (find p os) (p o) a.0 (find-lies P p os a.1)

pub either-lies : (P : ℕ → Type 0) (one other : Option ℕ) → Lies P one → Lies P other → Lies P (or_else one other)
either-lies P None other a b = b
either-lies P (Some o) other a b = a

ended-within : (P : ℕ → Type 0) (n : ℕ) (b : Bool) (os : List ℕ) → P n → Within P os → Within P (os ++ elim b [ true ↦ n ∷ [] | false ↦ [] ])
ended-within P n true os e a = within-append P os (n ∷ []) a (e, tt)
ended-within P n false os e a = within-append P os [] a tt

-- ---- a row

starts-within : (P : ℕ → Type 0) (us : List Unit) → All (λ u. P u.start) us → Within P (map (λ u. u.start) us)
starts-within P [] a = tt
starts-within P (u ∷ us) a = (All-head (λ v. P v.start) u us a, starts-within P us (All-tail (λ v. P v.start) u us a))

-- a property of the offsets of a row's places
pub record LiesIn (P : ℕ → Type 0) (w : ℕ) (r : BodyRow) : Type 0 where
  pub start : P 0
  pub slots : Within P (slot_offsets w r)
  pub units : Within P (map (λ u. u.start) r.units)
  pub places : Within P (offsets_of r)

row-lies : (P : ℕ → Type 0) (w : ℕ) (r : BodyRow) → P 0 → P (length r.body) → All (λ u. P u.start) r.units → LiesIn P w r
row-lies P w r start e a =
    let starts = starts-within P r.units a in
    let order = visual r.levels in
    let columns = unit_columns w 0 r.units in record {
      start = start;
      slots = last-within P (r.paragraph % 2) r.is_last (end_slot w r) (unit_slots w r) e
          (beside-within P (left_column w r) (map (extent_of r.units columns) order) (chosen-within P start r.units columns order starts));
      units = starts;
      places = ended-within P (length r.body) r.is_last (map (λ u. u.start) r.units) e starts;
    }

units-all : (P : ℕ → Type 0) (body : List ℕ) (us : List Unit) → ((o : ℕ) → IsCharBoundary body o → P o) → All (StandsIn body) us → All (λ u. P u.start) us
units-all P body us each a = λ i d h. each (get_or us i d).start (a i d h).1

rows-all : (P : ℕ → Type 0) (us : List Unit) (rs : List Row) (k : ℕ) → All (λ u. P u.start) us
    → All (λ u. P u.start) (get_or (map (row_units us) rs) k [])
rows-all P us [] k a = λ i d h. absurd (omega (arith, h))
rows-all P us (r ∷ rs) zero a = faces-row (λ u. P u.start) us r a
rows-all P us (r ∷ rs) (suc k) a = rows-all P us rs k a

pub length-with-last : (row : Bool → List Unit → BodyRow) (xs : List (List Unit)) → length (with_last row xs) ≡ length xs
length-with-last row [] = refl
length-with-last row (us ∷ []) = refl
length-with-last row (us ∷ vs ∷ rest) = ap suc (length-with-last row (vs ∷ rest))

-- a row of a body
pub body-row-lies : (P : ℕ → Type 0) (ucd : Data) (base : Base) (w : ℕ) (body : List ℕ) (k : ℕ) → IsUtf8 body
    → ((o : ℕ) → IsCharBoundary body o → P o) → k < length (body_rows ucd base w body)
    → LiesIn P w (row_at_body (body_rows ucd base w body) k)
body-row-lies P ucd base w body k utf8 each h =
    let us = units ucd w body in
    let xs = rows_units ucd w body in
    let make = row_with ucd body (paragraph_level_under ucd base (chars body)) (levels_under ucd base (chars body)) in
    let all = rows-all P us (wrap ucd w body us) k (units-all P body us each (stand_if_units ucd w body us utf8 refl)) in
    subst (LiesIn P w) (sym (last-at make xs k (omega (arith, h, length-with-last make xs))))
    (row-lies P w (make (k + 1 == length xs) (get_or xs k [])) (each 0 (IsCharBoundary-start body utf8)) (each (length body) (IsCharBoundary-end body)) all)

-- ---- properties of a row

pub slots-fit : (P : ℕ → Type 0) (start most : ℕ) (ss : List Slot) → ((o : ℕ) → P o → start + o < most) → Within P (map (λ s. s.offset) ss)
    → All (λ s. start + s.offset < most) ss
slots-fit P start most [] h a = All-nil (λ (s : Slot). start + s.offset < most)
slots-fit P start most (s ∷ ss) h a =
    All-cons (λ (t : Slot). start + t.offset < most) s ss (h s.offset a.0) (slots-fit P start most ss h a.1)

module _ (P : ℕ → Type 0) (w : ℕ) (r : BodyRow) (lies : LiesIn P w r) where
  pub last-fits : P (last_of r)
  last-fits = last-lies P lies.start (offsets_of r) lies.places

  pub beside-fits : (side : Visual) (offset : ℕ) → Lies P (beside w r side offset)
  beside-fits side offset = next-lies P offset (toward side (slot_offsets w r)) (toward-within P side (slot_offsets w r) lies.slots)

  pub start-fits : Lies P (reading_start w r)
  start-fits =
      let side = reading_side r.paragraph in first-lies P (toward side (slot_offsets w r)) (toward-within P side (slot_offsets w r) lies.slots)

  pub end-fits : Lies P (reading_end w r)
  end-fits =
      let side = opposite (reading_side r.paragraph) in
      first-lies P (toward side (slot_offsets w r)) (toward-within P side (slot_offsets w r) lies.slots)

  pub entry-fits : (column : ℕ) → Lies P (entry w r column)
  entry-fits column = either-lies P (covering_in (row_slots w r) column) (reading_end w r) (covering-lies P column (row_slots w r) lies.slots) end-fits
