-- Worked rows of moves by rows, from their law alone.
use Rattle.std.proofs.Common.{◌≡◌, ◌⊎◌, ℕ, zero, suc, ◌<◌, false, true, List, [], ◌∷◌, length, get_or, refl, sym, ap, subst, arith, inl, inr}
use Rattle.std.specs.Prelude.{codes, Contains}
use Rattle.unicode_segmentation.proofs.Computing.{unicode_segmentation}
use Rattle.unicode_width.proofs.Computing.{unicode_width}
use Rattle.bx_paragraph.specs.declared.slots.Slot.{Slot}
use Rattle.bx_paragraph.specs.Slots.{covers, row_slots, slot}
use Rattle.bx_view.specs.declared.moves.Vertical.TheVariants.{Down}
use Rattle.bx_view_laws.specs.Entry.{Covers, IsNearest, RowsGoOn}
use Rattle.bx_view.specs.Moves.{vertical}
use Rattle.bx_view.specs.TextRows.{TextRow, cell_of, row_at, row_of}
use Rattle.bx_view.proofs.Computed.{rows}

-- the slots of a row with one letter, and with the paragraph's end
abbrev letter : Slot
letter = slot 0 1 1

abbrev end : Slot
end = slot 1 2 0

abbrev both : List Slot
both = letter ∷ end ∷ []

either_slot : (s : Slot) (k : ℕ) → k < 2 → get_or both k s ≡ s → (s ≡ letter) ⊎ (s ≡ end)
either_slot s zero h e = inl (sym e)
either_slot s (suc zero) h e = inr (sym e)
either_slot s (suc (suc k)) h e = absurd (omega (arith, h))

-- column 3 leads to the end, and column 1 to the letter
to_the_end : (s : Slot) → (s ≡ letter) ⊎ (s ≡ end) → Covers both 3 s ⊎ IsNearest both 3 s → s.offset ≡ 1
to_the_end s (inr is) by = ap (λ (t : Slot). t.offset) is
to_the_end s (inl is) (inl covering) = let never : false ≡ true = subst (λ t. covers 3 t ≡ true) is covering.is_covered in absurd (cc)
to_the_end s (inl is) (inr nearest) =
    let later = nearest.last 1 end (omega arith) (omega arith) in
    let column : s.column ≡ 1 = ap (λ (t : Slot). t.column) is in
    absurd (omega (arith, later.0, column))

to_the_letter : (s : Slot) → Covers both 1 s ⊎ IsNearest both 1 s → s.offset ≡ 0
to_the_letter s (inl covering) = sym (covering.alone 0 letter (omega arith) refl)
to_the_letter s (inr nearest) = let never : true ≡ false = nearest.uncovered 0 letter (omega arith) in absurd (cc)

-- three letters in a line, and one in the next
abbrev lines : List TextRow
lines = rows 6 (codes "abc\nd")

slots_below : row_slots 6 (row_at lines 1).row ≡ both
unfolding unicode_segmentation unicode_width
slots_below = refl

starts_below : (row_at lines 1).start ≡ 4
unfolding unicode_segmentation unicode_width
starts_below = refl

two_lines : length lines ≡ 2
unfolding unicode_segmentation unicode_width
two_lines = refl

first_line : row_of lines 0 ∷ row_of lines 2 ∷ [] ≡ 0 ∷ 0 ∷ []
unfolding unicode_segmentation unicode_width
first_line = refl

columns_above : cell_of 6 lines 0 ∷ cell_of 6 lines 2 ∷ [] ≡ 1 ∷ 3 ∷ []
unfolding unicode_segmentation unicode_width
columns_above = refl

-- Down from the first letter leads to the letter below it
down_to_the_letter : RowsGoOn 6 lines → vertical 6 lines Down 0 ≡ 4
down_to_the_letter law =
    let row : row_of lines 0 ≡ 0 = ap (λ ns. get_or ns 0 0) first_line in
    let column : cell_of 6 lines 0 ≡ 1 = ap (λ ns. get_or ns 0 0) columns_above in
    let entry = law.enters Down 1 (cell_of 6 lines 0) 0 1 (law.own 0).0 (law.own 0).1 (omega (arith, row, two_lines)) (λ e. omega (arith, e, row)) in
    let by = subst (λ ss. Covers ss 1 entry.slot ⊎ IsNearest ss 1 entry.slot) slots_below
    (subst (λ c. Covers (row_slots 6 (row_at lines 1).row) c entry.slot ⊎ IsNearest (row_slots 6 (row_at lines 1).row) c entry.slot) column entry.enters) in
    omega (arith, sym entry.place_is, starts_below, to_the_letter entry.slot by)

-- Down from the third letter leads to the end of the line below
down_to_the_end : RowsGoOn 6 lines → vertical 6 lines Down 2 ≡ 5
down_to_the_end law =
    let row : row_of lines 2 ≡ 0 = ap (λ ns. get_or ns 1 0) first_line in
    let column : cell_of 6 lines 2 ≡ 3 = ap (λ ns. get_or ns 1 0) columns_above in
    let entry = law.enters Down 1 (cell_of 6 lines 2) 2 1 (law.own 2).0 (law.own 2).1 (omega (arith, row, two_lines)) (λ e. omega (arith, e, row)) in
    let by = subst (λ ss. Covers ss 3 entry.slot ⊎ IsNearest ss 3 entry.slot) slots_below
    (subst (λ c. Covers (row_slots 6 (row_at lines 1).row) c entry.slot ⊎ IsNearest (row_slots 6 (row_at lines 1).row) c entry.slot) column entry.enters) in
    let is = subst (λ ss. Contains ss entry.slot) slots_below entry.is_slot in
    omega (arith, sym entry.place_is, starts_below, to_the_end entry.slot (either_slot entry.slot is.0 is.1 is.2) by)
