-- The slots of a row, made unit by unit.
use Rattle.std.proofs.Common.{◌≡◌, ℕ, zero, suc, ◌+◌, ◌-◌, ◌%◌, ◌<◌, ◌≤◌, min, max, Bool, true, false, List, [], ◌∷◌, ◌++◌, length, map, drop, get_or, sum_by}
use Rattle.std.proofs.Common.{nat_le, leb-true, refl, sym, ap, ◌∙◌, arith, append_assoc, append-nil}
use Rattle.std.specs.Prelude.{flat_map}
use Rattle.std.proofs.lemmas.Bool.{and_parts}
use Rattle.std.proofs.lemmas.List.{at_drop_more, get_or-map, length-map}
use Rattle.std.proofs.lemmas.List.Sums.{sum_by-append, sum_by-cons}
use Rattle.std.proofs.lemmas.Slice.Zip.{get_or-zip}
use Rattle.bx_common.specs.Characters.{is_side, largest_side}
use Rattle.bx_rows.specs.declared.cells.unit.Unit.{Unit}
use Rattle.bx_rows.specs.RowPicture.{unit_columns, columns_used}
use Rattle.bx_rows.specs.RowLevels.{visual}
use Rattle.bx_rows.proofs.NumbersBelow.{sum-visual}
use Rattle.bx_rows.proofs.PictureSums.{columns-length, sum_by-same}
use Rattle.bx_paragraph.specs.declared.slots.Slot.{Slot}
use Rattle.bx_paragraph.specs.BodyRows.{BodyRow}
use Rattle.bx_paragraph.specs.OrderedColumns.{ordered_columns}
use Rattle.bx_paragraph.specs.Slots.{extent_of, row_slots, side_by_side, slot}

-- ---- one more unit

pub extent-is : (us : List Unit) (columns : List ℕ) (k : ℕ) (d : Unit) → k < length us → length columns ≡ length us
    → extent_of us columns k ≡ ((get_or us k d).start, get_or columns k 0)
extent-is us columns k d h e =
    get_or-zip (map (λ u. u.start) us) columns k (0, 0) (omega (arith, h, length-map us (λ u. u.start))) (omega (arith, h, e))
    ∙ ap (λ n. (n, get_or columns k 0)) (get_or-map (λ u. u.start) us k d 0 h)

pub side-more : (f : ℕ → ℕ × ℕ) (order : List ℕ) (i column a b : ℕ) (old new target : List Slot) → i < length order → f (get_or order i 0) ≡ (a, b)
    → old ++ side_by_side column (map f (drop i order)) ≡ target → new ≡ old ++ slot a column b ∷ []
    → new ++ side_by_side (column + b) (map f (drop (i + 1) order)) ≡ target
side-more f order i column a b old new target h at all pushed =
    let rest = map f (drop (i + 1) order) in
    let here : side_by_side column (map f (drop i order)) ≡ slot a column b ∷ side_by_side (column + b) rest =
    at_drop_more (λ ks. side_by_side column (map f ks)) order i 0 h ∙ ap (λ p. slot p.0 column p.1 ∷ side_by_side (column + p.1) rest) at in
    ap (λ xs. xs ++ side_by_side (column + b) rest) pushed ∙ append_assoc old (slot a column b ∷ []) (side_by_side (column + b) rest)
    ∙ ap (λ xs. old ++ xs) (sym here) ∙ all

pub room-more : (columns order : List ℕ) (i column : ℕ) → i < length order → column + ordered_columns columns (drop i order) ≤ largest_side + 1
    → column + get_or columns (get_or order i 0) 0 + ordered_columns columns (drop (i + 1) order) ≤ largest_side + 1
room-more columns order i column h room =
    let g : ℕ → ℕ = λ k. get_or columns k 0 in
    omega (arith, room, at_drop_more (sum_by g) order i 0 h, sum_by-cons g (get_or order i 0) (drop (i + 1) order))

-- ---- all columns of a row

one : (n : ℕ) → sum_by (λ m. m) (n ∷ []) ≡ n
one n = let e : 0 + n ≡ n = omega arith in e

chosen-one : (ns : List ℕ) (k : ℕ) → sum_by (λ n. n) (get_or (map (λ n. n ∷ []) ns) k []) ≡ get_or ns k 0
chosen-one [] k = refl
chosen-one (n ∷ ns) zero = one n
chosen-one (n ∷ ns) (suc k) = chosen-one ns k

chosen : (ns order : List ℕ) → sum_by (λ n. n) (flat_map (λ k. get_or (map (λ n. n ∷ []) ns) k []) order) ≡ ordered_columns ns order
chosen ns [] = refl
chosen ns (k ∷ ks) =
    let f : ℕ → List ℕ = λ j. get_or (map (λ n. n ∷ []) ns) j [] in
    omega (arith, sum_by-append (λ n. n) (f k) (flat_map f ks), chosen-one ns k, chosen ns ks, sum_by-cons (λ j. get_or ns j 0) k ks)

ones : (ns : List ℕ) → sum_by (sum_by (λ n. n)) (map (λ n. n ∷ []) ns) ≡ sum_by (λ n. n) ns
ones [] = refl
ones (n ∷ ns) = omega (arith, sum_by-cons (sum_by (λ m. m)) (n ∷ []) (map (λ m. m ∷ []) ns), ones ns, one n, sum_by-cons (λ m. m) n ns)

-- the columns of units in visual order are those that they use
pub columns-in-order : (w : ℕ) (us : List Unit) (levels columns order : List ℕ) → length levels ≡ length us → columns ≡ unit_columns w 0 us
    → order ≡ visual levels → ordered_columns columns order ≡ columns_used w us
columns-in-order w us levels columns order e is at =
    let ns = unit_columns w 0 us in
    let pieces : List (List ℕ) = map (λ n. n ∷ []) ns in
    let count : length pieces ≡ length levels = length-map ns (λ n. n ∷ []) ∙ columns-length w 0 us ∙ sym e in
    ap (λ xs. ordered_columns xs order) is ∙ ap (ordered_columns ns) at ∙ sym (chosen ns (visual levels)) ∙ sum-visual (λ n. n) pieces levels count ∙ ones ns
    ∙ sum_by-same ns

side-few : (w : ℕ) → is_side w ≡ true → w ≤ largest_side
side-few w e = leb-true w largest_side (and_parts (nat_le 1 w) (nat_le w largest_side) e).1

pub room-even : (w : ℕ) (us : List Unit) (levels columns order : List ℕ) → is_side w ≡ true → columns_used w us ≤ w → length levels ≡ length us
    → columns ≡ unit_columns w 0 us → order ≡ visual levels → 1 + ordered_columns columns order ≤ largest_side + 1
room-even w us levels columns order side fits e is at = omega (arith, side-few w side, fits, columns-in-order w us levels columns order e is at)

pub room-odd : (w : ℕ) (us : List Unit) (levels columns order : List ℕ) (used : ℕ) → is_side w ≡ true → columns_used w us ≤ w → length levels ≡ length us
    → columns ≡ unit_columns w 0 us → order ≡ visual levels → used ≡ columns_used w us → w - used + 1 + ordered_columns columns order ≤ largest_side + 1
room-odd w us levels columns order used side fits e is at count =
    omega (arith, side-few w side, fits, count, columns-in-order w us levels columns order e is at)

-- the same slots, by an equal list of units
pub side-of : (pre all : List Slot) (column : ℕ) (us vs : List Unit) (columns order : List ℕ)
    → all ≡ pre ++ side_by_side column (map (extent_of us columns) order) → us ≡ vs → all ≡ pre ++ side_by_side column (map (extent_of vs columns) order)
side-of pre all column us vs columns order e same = e ∙ ap (λ xs. pre ++ side_by_side column (map (extent_of xs columns) order)) same

-- ---- the end

abbrev by-parity : ℕ → Bool → ℕ → ℕ → ℕ → List (ℕ × ℕ) → List Slot
by-parity n is_last w used end us =
    let units = side_by_side (elim n [ zero ↦ 1 | suc _ ↦ w - used + 1 ]) us in
    let last = slot end (elim n [ zero ↦ min (used + 1) w | suc _ ↦ max (w - used) 1 ]) 0 in
    elim is_last [ true ↦ elim n [ zero ↦ units ++ last ∷ [] | suc _ ↦ last ∷ units ] | false ↦ units ]

even-slots : (n w used end : ℕ) (is_last : Bool) (us : List (ℕ × ℕ)) → n ≡ 0 → side_by_side 1 us
    ++ elim is_last [ true ↦ slot end (min (used + 1) w) 0 ∷ [] | false ↦ [] ] ≡ by-parity n is_last w used end us
even-slots zero w used end true us e = refl
even-slots zero w used end false us e = append-nil (side_by_side 1 us)
even-slots (suc n) w used end is_last us e = absurd (omega (arith, e))

odd-slots : (n w used end : ℕ) (is_last : Bool) (us : List (ℕ × ℕ)) → 0 < n → elim is_last [ true ↦ slot end (max (w - used) 1) 0 ∷ [] | false ↦ [] ]
    ++ side_by_side (w - used + 1) us ≡ by-parity n is_last w used end us
odd-slots zero w used end is_last us e = absurd (omega (arith, e))
odd-slots (suc n) w used end true us e = refl
odd-slots (suc n) w used end false us e = refl

extents-same : (us : List Unit) (columns order columns' order' : List ℕ) → columns ≡ columns' → order ≡ order'
    → map (extent_of us columns) order ≡ map (extent_of us columns') order'
extents-same us columns order columns' order' e f = ap (λ cs. map (extent_of us cs) order) e ∙ ap (map (extent_of us columns')) f

pub slots-even : (w : ℕ) (r : BodyRow) (columns order : List ℕ) (used column : ℕ) (start mid new : List Slot) → r.paragraph % 2 ≡ 0
    → columns ≡ unit_columns w 0 r.units → order ≡ visual r.levels → used ≡ columns_used w r.units → start ≡ []
    → mid ≡ start ++ side_by_side 1 (map (extent_of r.units columns) order)
    → new ≡ mid ++ elim (r.is_last) [ true ↦ slot (length r.body) column 0 ∷ [] | false ↦ [] ] → column ≡ min (used + 1) w → new ≡ row_slots w r
slots-even w r columns order used column start mid new even is at count none first second beside =
    let us = map (extent_of r.units (unit_columns w 0 r.units)) (visual r.levels) in
    let ends : ℕ → List Slot = λ n. elim (r.is_last) [ true ↦ slot (length r.body) (min (n + 1) w) 0 ∷ [] | false ↦ [] ] in
    second ∙ ap (λ n. mid ++ elim (r.is_last) [ true ↦ slot (length r.body) n 0 ∷ [] | false ↦ [] ]) beside
    ∙ ap (λ xs. xs ++ ends used) (first ∙ ap (λ xs. xs ++ side_by_side 1 (map (extent_of r.units columns) order)) none)
    ∙ ap (λ xs. side_by_side 1 xs ++ ends used) (extents-same r.units columns order (unit_columns w 0 r.units) (visual r.levels) is at)
    ∙ ap (λ n. side_by_side 1 us ++ ends n) count
    ∙ even-slots (r.paragraph % 2) w (columns_used w r.units) (length r.body) r.is_last us even

pub slots-odd : (w : ℕ) (r : BodyRow) (columns order : List ℕ) (used column : ℕ) (start mid new : List Slot) → 0 < r.paragraph % 2
    → columns ≡ unit_columns w 0 r.units → order ≡ visual r.levels → used ≡ columns_used w r.units → start ≡ []
    → mid ≡ start ++ elim (r.is_last) [ true ↦ slot (length r.body) column 0 ∷ [] | false ↦ [] ]
    → new ≡ mid ++ side_by_side (w - used + 1) (map (extent_of r.units columns) order) → column ≡ max (w - used) 1 → new ≡ row_slots w r
slots-odd w r columns order used column start mid new odd is at count none first second beside =
    let us = map (extent_of r.units (unit_columns w 0 r.units)) (visual r.levels) in
    let ends : ℕ → List Slot = λ n. elim (r.is_last) [ true ↦ slot (length r.body) (max (w - n) 1) 0 ∷ [] | false ↦ [] ] in
    second ∙ ap (λ xs. xs ++ side_by_side (w - used + 1) (map (extent_of r.units columns) order))
    (first ∙ ap (λ n. start ++ elim (r.is_last) [ true ↦ slot (length r.body) n 0 ∷ [] | false ↦ [] ]) beside ∙ ap (λ xs. xs ++ ends used) none)
    ∙ ap (λ xs. ends used ++ side_by_side (w - used + 1) xs) (extents-same r.units columns order (unit_columns w 0 r.units) (visual r.levels) is at)
    ∙ ap (λ n. ends n ++ side_by_side (w - n + 1) us) count
    ∙ odd-slots (r.paragraph % 2) w (columns_used w r.units) (length r.body) r.is_last us odd
