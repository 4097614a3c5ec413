-- Each place of a row has one slot: the slots' offsets are those of its places in another order.
use Rattle.std.proofs.Common.{◌≡◌, ℕ, zero, suc, ◌+◌, ◌%◌, ◌<◌, Bool, true, false, List, []}
use Rattle.std.proofs.Common.{◌∷◌, ◌++◌, length, map, get_or, sum_by, All, refl, sym, ap, subst, ◌∙◌, arith}
use Rattle.std.proofs.Common.{append-nil}
use Rattle.std.specs.Prelude.{Contains, IsPermutation}
use Rattle.std.specs.List.{range_with_len}
use Rattle.std.proofs.lemmas.List.{get_or-map, get_or_default, length-map, map-append, same_lists}
use Rattle.std.proofs.lemmas.List.FromFn.{get_or-map-range_with_len, length-map-range_with_len}
use Rattle.std.proofs.lemmas.List.Elements.{All-rest}
use Rattle.std.proofs.lemmas.List.Sorted.{IsPermutation-append_left, IsPermutation-cons, IsPermutation-map, IsPermutation-middle, IsPermutation-trans}
use Rattle.std.proofs.lemmas.List.Sorted.{Contains-permutation, IsPermutation-sym, sum_by-IsPermutation}
use Rattle.bx_rows.specs.declared.cells.unit.Unit.{Unit}
use Rattle.bx_rows.specs.declared.cells.unit.Face.TheVariants.{Tab}
use Rattle.bx_rows.specs.RowPicture.{unit_columns}
use Rattle.bx_rows.specs.RowLevels.{visual}
use Rattle.bx_rows.proofs.NumbersBelow.{below_if_visual}
use Rattle.bx_rows.proofs.Permutes.{visual-permutes}
use Rattle.bx_rows.proofs.PictureSums.{columns-length}
use Rattle.bx_paragraph.specs.declared.slots.Slot.{Slot}
use Rattle.bx_paragraph.specs.BodyRows.{BodyRow, offsets_of}
use Rattle.bx_paragraph.specs.Slots.{end_slot, extent_of, left_column, row_slots, side_by_side, slot_offsets, unit_slots}
use Rattle.bx_paragraph.proofs.RowSlots.{extent-is}

-- ---- numbers chosen in visual order

all-numbers : (ns : List ℕ) → map (λ k. get_or ns k 0) (range_with_len 0 (length ns)) ≡ ns
all-numbers ns =
    let count = length-map-range_with_len (λ k. get_or ns k 0) 0 (length ns) in
    same_lists (map (λ k. get_or ns k 0) (range_with_len 0 (length ns))) ns count
    (λ i d h. let within : i < length ns = omega (arith, h, count) in
    get_or-map-range_with_len (λ k. get_or ns k 0) 0 (length ns) i i d within (omega arith) ∙ get_or_default ns i 0 d within)

in-order : (ns levels : List ℕ) → length levels ≡ length ns → IsPermutation ns (map (λ k. get_or ns k 0) (visual levels))
in-order ns levels e =
    let chosen : ℕ → ℕ = λ k. get_or ns k 0 in
    subst (λ xs. IsPermutation xs (map chosen (visual levels))) (ap (λ n. map chosen (range_with_len 0 n)) e ∙ all-numbers ns)
    (IsPermutation-map (λ k. get_or ns k 0) (range_with_len 0 (length levels)) (visual levels) (visual-permutes levels))

-- ---- the offsets of units side by side

offsets-beside : (at : ℕ) (us : List (ℕ × ℕ)) → map (λ s. s.offset) (side_by_side at us) ≡ map (λ u. u.0) us
offsets-beside at [] = refl
offsets-beside at (u ∷ us) = ap (λ os. u.0 ∷ os) (offsets-beside (at + u.1) us)

no_unit : Unit
no_unit = record { start = 0; stop = 0; face = Tab }

starts-chosen : (us : List Unit) (columns order : List ℕ) → length columns ≡ length us → All (λ k. k < length us) order
    → map (λ u. u.0) (map (extent_of us columns) order) ≡ map (λ k. get_or (map (λ u. u.start) us) k 0) order
starts-chosen us columns [] e a = refl
starts-chosen us columns (k ∷ ks) e a =
    let within : k < length us = a 0 k (omega arith) in
    let rest = starts-chosen us columns ks e (All-rest (λ j. j < length us) k ks (k ∷ ks) refl a) in
    ap (λ o. o ∷ map (λ u. u.0) (map (extent_of us columns) ks)) (ap (λ p. p.0) (extent-is us columns k no_unit within e)
    ∙ sym (get_or-map (λ u. u.start) us k no_unit 0 within)) ∙ ap (λ os. get_or (map (λ u. u.start) us) k 0 ∷ os) rest

units-once : (w : ℕ) (r : BodyRow) → length r.levels ≡ length r.units
    → IsPermutation (map (λ u. u.start) r.units) (map (λ s. s.offset) (unit_slots w r))
units-once w r e =
    let columns = unit_columns w 0 r.units in
    let starts = map (λ u. u.start) r.units in
    let below : All (λ k. k < length r.units) (visual r.levels) = λ i d h. let k = below_if_visual r.levels (visual r.levels) refl i d h in
    omega (arith, k, e) in
    subst (IsPermutation starts)
    (sym (offsets-beside (left_column w r) (map (extent_of r.units columns) (visual r.levels))
    ∙ starts-chosen r.units columns (visual r.levels) (columns-length w 0 r.units) below))
    (in-order starts r.levels (e ∙ sym (length-map r.units (λ u. u.start))))

-- ---- and the end

end-once : (n : ℕ) (end : Slot) (ss : List Slot) (os : List ℕ) → IsPermutation os (map (λ s. s.offset) ss)
    → IsPermutation (os ++ end.offset ∷ []) (map (λ (s : Slot). s.offset) (elim n [ zero ↦ ss ++ end ∷ [] | suc _ ↦ end ∷ ss ]))
end-once zero end ss os p =
    subst (IsPermutation (os ++ end.offset ∷ [])) (sym (map-append (λ s. s.offset) ss (end ∷ [])))
    (IsPermutation-append_left (end.offset ∷ []) os (map (λ s. s.offset) ss) p)
end-once (suc n) end ss os p =
    IsPermutation-trans (os ++ end.offset ∷ []) (end.offset ∷ os) (end.offset ∷ map (λ s. s.offset) ss)
    (subst (λ xs. IsPermutation (os ++ end.offset ∷ []) (end.offset ∷ xs)) (append-nil os) (IsPermutation-middle os end.offset []))
    (IsPermutation-cons end.offset os (map (λ s. s.offset) ss) p)

last-once : (n : ℕ) (b : Bool) (end : Slot) (ss : List Slot) (os : List ℕ) → IsPermutation os (map (λ s. s.offset) ss)
    → IsPermutation (os ++ elim b [ true ↦ end.offset ∷ [] | false ↦ [] ])
    (map (λ (s : Slot). s.offset) (elim b [ true ↦ elim n [ zero ↦ ss ++ end ∷ [] | suc _ ↦ end ∷ ss ] | false ↦ ss ]))
last-once n true end ss os p = end-once n end ss os p
last-once n false end ss os p = subst (λ xs. IsPermutation xs (map (λ s. s.offset) ss)) (sym (append-nil os)) p

-- each place of a row has one slot
pub once-each : (w : ℕ) (r : BodyRow) → length r.levels ≡ length r.units → IsPermutation (offsets_of r) (slot_offsets w r)
once-each w r e = last-once (r.paragraph % 2) r.is_last (end_slot w r) (unit_slots w r) (map (λ u. u.start) r.units) (units-once w r e)

-- so every sum over the slots' offsets is that over the places
pub once-summed : (w : ℕ) (r : BodyRow) → length r.levels ≡ length r.units → (f : ℕ → ℕ) → sum_by f (slot_offsets w r) ≡ sum_by f (offsets_of r)
once-summed w r e f = sum_by-IsPermutation f (offsets_of r) (slot_offsets w r) (once-each w r e)

pub once-contains : (w : ℕ) (r : BodyRow) → length r.levels ≡ length r.units → (o : ℕ) → Contains (slot_offsets w r) o → Contains (offsets_of r) o
once-contains w r e o c =
    Contains-permutation (slot_offsets w r) (offsets_of r) o (IsPermutation-sym (offsets_of r) (slot_offsets w r) (once-each w r e)) c

-- the same of slots that were made of another row that is the same
pub once-kept : (w : ℕ) (p r : BodyRow) (ss : List Slot) → ss ≡ row_slots w r → length p.levels ≡ length p.units → p ≡ r
    → IsPermutation (offsets_of r) (map (λ s. s.offset) ss)
once-kept w p r ss is count e =
    subst (λ xs. IsPermutation (offsets_of r) (map (λ s. s.offset) xs)) (sym is)
    (once-each w r (subst (λ x. length x.levels ≡ length x.units) e count))
