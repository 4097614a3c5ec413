-- A row that is entered in the column of one of its places is entered at that place.
use Rattle.std.proofs.Common.{◌≡◌, ◌⊎◌, inl, inr, ⊎_elim, ℕ, zero, suc, ◌+◌, ◌%◌, ◌<◌, ◌≤◌, ◌==◌, ◌&&◌, nat_le, nat_lt, cond, Bool, true, false}
use Rattle.std.proofs.Common.{List, [], ◌∷◌, ◌++◌, length, map, get_or, reverse, find, Option, Some, None, option_map, unwrap_or, refl, sym, ap, subst, ◌∙◌, arith}
use Rattle.std.specs.Prelude.{⊤, All, Contains}
use Rattle.std.specs.Option.{option_or}
use Rattle.std.proofs.lemmas.Bool.{and_parts, eqb-true}
use Rattle.std.proofs.lemmas.Bool.Decides.{nat_tests}
use Rattle.std.proofs.lemmas.List.{map-append, reverse-append}
use Rattle.std.proofs.lemmas.List.Elements.{Contains-append_left, Contains-append_right}
use Rattle.std.proofs.lemmas.List.Folds.{find-append}
use Rattle.std.proofs.lemmas.List.Sums.{sum_by-cons}
use Rattle.bx_rows.specs.declared.cells.unit.Unit.{Unit}
use Rattle.bx_rows.specs.declared.cells.unit.Face.TheVariants.{Tab}
use Rattle.bx_rows.specs.RowPicture.{columns_used, unit_columns}
use Rattle.bx_rows.specs.RowLevels.{visual}
use Rattle.bx_rows.proofs.NumbersBelow.{below_if_visual}
use Rattle.bx_rows.proofs.PictureSums.{columns-length}
use Rattle.bx_paragraph.specs.declared.moves.Visual.TheVariants.{Left, Right}
use Rattle.bx_paragraph.specs.declared.slots.Slot.{Slot}
use Rattle.bx_paragraph.specs.BodyRows.{BodyRow}
use Rattle.bx_paragraph.specs.Slots.{column_of, covers, end_slot, entry, extent_of, first_in, left_column, opposite, or_else, row_slots, side_by_side, slot, slot_offsets, toward}
use Rattle.bx_paragraph.proofs.RowSlots.{columns-in-order, extent-is}
use Rattle.bx_view.proofs.CellColumns.{AllSome, end_of, extents-total, left_of, total}
use Rattle.bx_view.proofs.KeptPlaces.{HasLevels}
use Rattle.bx_view.proofs.RowFits.{Fits}
use Rattle.bx_editor_laws.proofs.UnitColumns.{HasColumns}

abbrev offset_of : Slot → ℕ
offset_of s = s.offset

abbrev is-at : ℕ → Slot → Bool
is-at o s = s.offset == o

-- ---- a search among slots

there : (s : Slot) (ss : List Slot) (t : Slot) → Contains ss t → Contains (s ∷ ss) t
there s ss t c = Contains-append_right (s ∷ []) ss t c

found-by : (p : Slot → Bool) (s : Slot) (ss : List Slot) (t : Slot) (b : Bool) → p s ≡ b → cond b (Some s) (find p ss) ≡ Some t
    → (find p ss ≡ Some t → Contains ss t × (p t ≡ true)) → Contains (s ∷ ss) t × (p t ≡ true)
found-by p s ss t true e is rest =
    let same : s ≡ t = cc in subst (λ x. Contains (s ∷ ss) x × (p x ≡ true)) same ((0, omega arith, refl), e)
found-by p s ss t false e is rest = let later = rest is in (there s ss t later.0, later.1)

found : (p : Slot → Bool) (ss : List Slot) (t : Slot) → find p ss ≡ Some t → Contains ss t × (p t ≡ true)
found p [] t is = absurd (cc)
found p (s ∷ ss) t is = found-by p s ss t (p s) refl is (found p ss t)

-- a slot with the offset
abbrev Held : List Slot → ℕ → Type 0
Held ss o = (t : Slot) × (find (is-at o) ss ≡ Some t)

held-by : (s : Slot) (ss : List Slot) (o : ℕ) (b : Bool) → (s.offset == o) ≡ b → ((s.offset ≡ o) ⊎ Contains (map offset_of ss) o)
    → (Contains (map offset_of ss) o → Held ss o) → (t : Slot) × (cond b (Some s) (find (is-at o) ss) ≡ Some t)
held-by s ss o true e c rest = (s, refl)
held-by s ss o false e c rest =
    ⊎_elim (λ same. (let other : (s.offset == o) ≡ true = grind (arith, nat_tests) in absurd (cc))) rest c

first-or-rest : (p : ℕ) (ps : List ℕ) (o : ℕ) → Contains (p ∷ ps) o → (p ≡ o) ⊎ Contains ps o
first-or-rest p ps o (zero, h, e) = inl e
first-or-rest p ps o (suc k, h, e) = inr (k, omega (arith, h), e)

held : (ss : List Slot) (o : ℕ) → Contains (map offset_of ss) o → Held ss o
held [] o c = absurd (omega (arith, c.1))
held (s ∷ ss) o c = held-by s ss o (s.offset == o) refl (first-or-rest s.offset (map offset_of ss) o c) (held ss o)

-- ---- slots side by side, each with a column

abbrev Wide : List (ℕ × ℕ) → Type 0
Wide [] = ⊤
Wide (u ∷ us) = (1 ≤ u.1) × Wide us

covers-own : (o at n : ℕ) → 1 ≤ n → covers at (slot o at n) ≡ true
covers-own o at n some =
    let low : nat_le at at ≡ true = grind (arith, nat_tests) in
    let high : nat_lt at (at + n) ≡ true = grind (arith, nat_tests) in
    rw (low, high) refl

and-false : (b c : Bool) → c ≡ false → (b && c) ≡ false
and-false true c e = e
and-false false c e = refl

covers-past : (o at n column : ℕ) → at + n ≤ column → covers column (slot o at n) ≡ false
covers-past o at n column past =
    let high : nat_lt column (at + n) ≡ false = grind (arith, nat_tests) in and-false (nat_le at column) (nat_lt column (at + n)) high

covered-in : (column : ℕ) (s : Slot) → covers column s ≡ true → (s.column ≤ column) × (column < s.column + s.columns)
covered-in column s e =
    let p = and_parts (nat_le s.column column) (nat_lt column (s.column + s.columns)) e in
    let low : nat_le s.column column ≡ true = p.0 in
    let high : nat_lt column (s.column + s.columns) ≡ true = p.1 in
    let from : s.column ≤ column = grind (arith, nat_tests) in
    let upto : column < s.column + s.columns = grind (arith, nat_tests) in (from, upto)

uncovered-in : (column : ℕ) (s : Slot) → covers column s ≡ false → s.column ≤ column → s.column + s.columns ≤ column
uncovered-in column s e from =
    let low : nat_le s.column column ≡ true = grind (arith, nat_tests) in
    let high : nat_lt column (s.column + s.columns) ≡ false = sym (ap (λ b. b && nat_lt column (s.column + s.columns)) low) ∙ e in
    grind (arith, nat_tests)

-- the slot of an offset is the one that covers its column
abbrev Covered : ℕ → List Slot → Slot → Type 0
Covered at ss t = (at ≤ t.column) × (find (covers t.column) ss ≡ Some t)

own-by : (at : ℕ) (u : ℕ × ℕ) (ss : List Slot) (o : ℕ) (t : Slot) (b : Bool) → (u.0 == o) ≡ b → 1 ≤ u.1
    → cond b (Some (slot u.0 at u.1)) (find (is-at o) ss) ≡ Some t → (find (is-at o) ss ≡ Some t → Covered (at + u.1) ss t)
    → Covered at (slot u.0 at u.1 ∷ ss) t
own-by at u ss o t true e some is rest =
    let mine = slot u.0 at u.1 in
    let same : mine ≡ t = cc in
    subst (Covered at (mine ∷ ss)) same (omega arith, ap (λ b. cond b (Some mine) (find (covers at) ss)) (covers-own u.0 at u.1 some))
own-by at u ss o t false e some is rest =
    let mine = slot u.0 at u.1 in
    let later = rest is in
    (omega (arith, later.0), ap (λ b. cond b (Some mine) (find (covers t.column) ss)) (covers-past u.0 at u.1 t.column later.0) ∙ later.1)

own-covered : (at : ℕ) (us : List (ℕ × ℕ)) (o : ℕ) (t : Slot) → Wide us → find (is-at o) (side_by_side at us) ≡ Some t → Covered at (side_by_side at us) t
own-covered at [] o t wide is = absurd (cc)
own-covered at (u ∷ us) o t wide is =
    own-by at u (side_by_side (at + u.1) us) o t (u.0 == o) refl wide.0 is (own-covered (at + u.1) us o t wide.1)

-- a column that is covered lies between their ends
between-by : (at column : ℕ) (u : ℕ × ℕ) (us : List (ℕ × ℕ)) (s : Slot) (b : Bool) → covers column (slot u.0 at u.1) ≡ b
    → cond b (Some (slot u.0 at u.1)) (find (covers column) (side_by_side (at + u.1) us)) ≡ Some s
    → (find (covers column) (side_by_side (at + u.1) us) ≡ Some s → (at + u.1 ≤ column) × (column < at + u.1 + total us))
    → (at ≤ column) × (column < at + total (u ∷ us))
between-by at column u us s true e is rest =
    let mine = covered-in column (slot u.0 at u.1) e in (mine.0, omega (arith, mine.1, sum_by-cons (λ (x : ℕ × ℕ). x.1) u us))
between-by at column u us s false e is rest =
    let later = rest is in (omega (arith, later.0), omega (arith, later.1, sum_by-cons (λ (x : ℕ × ℕ). x.1) u us))

between : (at column : ℕ) (us : List (ℕ × ℕ)) (s : Slot) → find (covers column) (side_by_side at us) ≡ Some s
    → (at ≤ column) × (column < at + total us)
between at column [] s is = absurd (cc)
between at column (u ∷ us) s is = between-by at column u us s (covers column (slot u.0 at u.1)) refl is (between (at + u.1) column us s)

-- and one that is not covered does not
past-by : (at column : ℕ) (u : ℕ × ℕ) (us : List (ℕ × ℕ)) (b : Bool) → covers column (slot u.0 at u.1) ≡ b
    → cond b (Some (slot u.0 at u.1)) (find (covers column) (side_by_side (at + u.1) us)) ≡ None
    → (find (covers column) (side_by_side (at + u.1) us) ≡ None → at + u.1 ≤ column → at + u.1 + total us ≤ column)
    → at ≤ column → at + total (u ∷ us) ≤ column
past-by at column u us true e none rest low = absurd (cc)
past-by at column u us false e none rest low =
    let all = rest none (uncovered-in column (slot u.0 at u.1) e low) in omega (arith, all, sum_by-cons (λ (x : ℕ × ℕ). x.1) u us)

past-all : (at column : ℕ) (us : List (ℕ × ℕ)) → find (covers column) (side_by_side at us) ≡ None → at ≤ column → at + total us ≤ column
past-all at column [] none low = omega (arith, low)
past-all at column (u ∷ us) none low =
    past-by at column u us (covers column (slot u.0 at u.1)) refl none (past-all (at + u.1) column us) low

-- ---- with the slot of the end

abbrev with-end : ℕ → Bool → Slot → List Slot → List Slot
with-end n b end ss = elim b [ true ↦ elim n [ zero ↦ ss ++ end ∷ [] | suc _ ↦ end ∷ ss ] | false ↦ ss ]

-- the first offset from the reading end
abbrev from-end : ℕ → List ℕ → Option ℕ
from-end n os = first_in (toward (opposite (elim n [ zero ↦ Right | suc _ ↦ Left ])) os)

-- the offset by which slots are entered
abbrev entered : ℕ → List Slot → ℕ → Option ℕ
entered n ss column = or_else (option_map offset_of (find (covers column) ss)) (from-end n (map offset_of ss))

or-none : (x : Option Slot) → option_or x None ≡ x
or-none None = refl
or-none (Some s) = refl

module _ (end : Slot) (no_columns : end.columns ≡ 0) where
  end-by : (column : ℕ) (b : Bool) → covers column end ≡ b → b ≡ false
  end-by column false e = refl
  end-by column true e = let within = covered-in column end e in absurd (omega (arith, within.0, within.1, no_columns))

  end-uncovered : (column : ℕ) → covers column end ≡ false
  end-uncovered column = end-by column (covers column end) refl

  find-with-end : (column n : ℕ) (b : Bool) (ss : List Slot) → find (covers column) (with-end n b end ss) ≡ find (covers column) ss
  find-with-end column zero true ss =
      find-append (covers column) ss (end ∷ [])
      ∙ ap (λ c. option_or (find (covers column) ss) (cond c (Some end) None)) (end-uncovered column) ∙ or-none (find (covers column) ss)
  find-with-end column (suc n) true ss = ap (λ c. cond c (Some end) (find (covers column) ss)) (end-uncovered column)
  find-with-end column n false ss = refl

  -- they are entered at the slot that covers a column
  entered-found : (column n : ℕ) (b : Bool) (ss : List Slot) (s : Slot) → find (covers column) ss ≡ Some s
      → entered n (with-end n b end ss) column ≡ Some s.offset
  entered-found column n b ss s is =
      ap (λ x. or_else (option_map offset_of x) (from-end n (map offset_of (with-end n b end ss)))) (find-with-end column n b ss ∙ is)

  -- and where none does, at the end's
  last-first : (ss : List Slot) → first_in (reverse (map offset_of (ss ++ end ∷ []))) ≡ Some end.offset
  last-first ss = ap (λ os. first_in (reverse os)) (map-append offset_of ss (end ∷ [])) ∙ ap first_in (reverse-append (map offset_of ss) (end.offset ∷ []))

  end-first : (n : ℕ) (ss : List Slot) → from-end n (map offset_of (with-end n true end ss)) ≡ Some end.offset
  end-first zero ss = last-first ss
  end-first (suc n) ss = refl

  entered-end : (column n : ℕ) (b : Bool) (ss : List Slot) → b ≡ true → find (covers column) ss ≡ None
      → entered n (with-end n b end ss) column ≡ Some end.offset
  entered-end column n true ss is none =
      ap (λ x. or_else (option_map offset_of x) (from-end n (map offset_of (with-end n true end ss)))) (find-with-end column n true ss ∙ none)
      ∙ end-first n ss
  entered-end column n false ss is none = absurd (cc)

  -- The slot `t` belongs to a unit, and is the first slot that covers its own column; or it is the paragraph's end.
  abbrev UnitOrEnd : Bool → List Slot → Slot → Type 0
  UnitOrEnd b ss t = (find (covers t.column) ss ≡ Some t) ⊎ ((b ≡ true) × (end ≡ t))

  module _ (at : ℕ) (us : List (ℕ × ℕ)) (wide : Wide us) (o : ℕ) (t : Slot) where
    abbrev units : List Slot
    units = side_by_side at us

    unit-is : find (is-at o) units ≡ Some t → find (covers t.column) units ≡ Some t
    unit-is is = (own-covered at us o t wide is).1

    behind : (c : Bool) (x : Option Slot) → find (is-at o) units ≡ x → option_or x (cond c (Some end) None) ≡ Some t → UnitOrEnd true units t
    behind true None none is = let same : end ≡ t = cc in inr (refl, same)
    behind false None none is = absurd (cc)
    behind c (Some s) here is = inl (unit-is (here ∙ is))

    before : (c : Bool) → cond c (Some end) (find (is-at o) units) ≡ Some t → UnitOrEnd true units t
    before true is = let same : end ≡ t = cc in inr (refl, same)
    before false is = inl (unit-is is)

    unit-or-end : (n : ℕ) (b : Bool) → find (is-at o) (with-end n b end units) ≡ Some t → UnitOrEnd b units t
    unit-or-end zero true is =
        behind (end.offset == o) (find (is-at o) units) refl (sym (find-append (is-at o) units (end ∷ [])) ∙ is)
    unit-or-end (suc n) true is = before (end.offset == o) is
    unit-or-end n false is = inl (unit-is is)

-- ---- the slots of a row

full-by : (n w used column : ℕ) → used ≤ w → 1 ≤ w → column ≡ end_of n w used → (left_of n w used ≤ column) × (column < left_of n w used + used)
    → used ≡ w
full-by zero w used column fits some e h = omega (arith, fits, some, e, h.1)
full-by (suc n) w used column fits some e h = omega (arith, fits, some, e, h.0)

past-full : (n w used column : ℕ) → used ≡ w → 1 ≤ w → column ≡ end_of n w used → (left_of n w used ≤ column → left_of n w used + used ≤ column) → ⊥
past-full zero w used column full some e h = omega (arith, full, some, e, h (omega (arith, full, some, e)))
past-full (suc n) w used column full some e h = omega (arith, full, some, e, h (omega (arith, full, some, e)))

some-get : (ns : List ℕ) (k : ℕ) → AllSome ns → k < length ns → 1 ≤ get_or ns k 0
some-get [] k h inside = absurd (omega (arith, inside))
some-get (n ∷ ns) zero h inside = h.0
some-get (n ∷ ns) (suc k) h inside = some-get ns k h.1 (omega (arith, inside))

no_unit : Unit
no_unit = record { start = 0; stop = 0; face = Tab }

extents-wide : (w : ℕ) (us : List Unit) → AllSome (unit_columns w 0 us) → (order : List ℕ) → All (λ k. k < length us) order
    → Wide (map (extent_of us (unit_columns w 0 us)) order)
extents-wide w us some [] below = tt
extents-wide w us some (k ∷ ks) below =
    let here : k < length us = below 0 k (omega arith) in
    let is = ap (λ (x : ℕ × ℕ). x.1) (extent-is us (unit_columns w 0 us) k no_unit here (columns-length w 0 us)) in (
      omega (arith, is, some-get (unit_columns w 0 us) k some (omega (arith, here, columns-length w 0 us))),
      extents-wide w us some ks (λ i d inside. below (suc i) d (omega (arith, inside))),
    )

-- The row fills the window, and the offset `o` is the end of its paragraph.
pub record IsFull (w : ℕ) (r : BodyRow) (o : ℕ) : Type 0 where
  pub last : r.is_last ≡ true
  pub at_end : o ≡ length r.body
  pub full : columns_used w r.units ≡ w

-- the row is entered in a column at a slot that covers it
pub record IsEnteredBy (w : ℕ) (r : BodyRow) (column : ℕ) (s : Slot) : Type 0 where
  pub entry_is : entry w r column ≡ Some s.offset
  pub is_slot : Contains (row_slots w r) s
  pub covered : covers column s ≡ true

contains-with-end : (n : ℕ) (b : Bool) (end : Slot) (ss : List Slot) (t : Slot) → Contains ss t → Contains (with-end n b end ss) t
contains-with-end zero true end ss t c = Contains-append_left ss (end ∷ []) t c
contains-with-end (suc n) true end ss t c = there end ss t c
contains-with-end n false end ss t c = c

module _ (w : ℕ) (some : 1 ≤ w) (r : BodyRow) (levels : HasLevels r) (fits : Fits w r) (columns : HasColumns w r) (o : ℕ) (c : Contains (slot_offsets w r) o) where
  abbrev n : ℕ
  n = r.paragraph % 2

  abbrev extents : List (ℕ × ℕ)
  extents = map (extent_of r.units (unit_columns w 0 r.units)) (visual r.levels)

  abbrev own : List Slot
  own = side_by_side (left_column w r) extents

  below : All (λ k. k < length r.units) (visual r.levels)
  below = subst (λ m. All (λ k. k < m) (visual r.levels)) levels (below_if_visual r.levels (visual r.levels) refl)

  sum : total extents ≡ columns_used w r.units
  sum = extents-total w r.units (visual r.levels) below ∙ columns-in-order w r.units r.levels (unit_columns w 0 r.units) (visual r.levels) levels refl refl

  slot-of : Held (row_slots w r) o
  slot-of = held (row_slots w r) o c

  abbrev t : Slot
  t = slot-of.0

  offset-is : t.offset ≡ o
  offset-is = eqb-true t.offset o (found (is-at o) (row_slots w r) t slot-of.1).1

  column-is : column_of w r o ≡ t.column
  column-is = ap (λ (x : Option Slot). unwrap_or (option_map (λ (s : Slot). s.column) x) 1) slot-of.1

  which : UnitOrEnd (end_slot w r) refl r.is_last own t
  which = unit-or-end (end_slot w r) refl (left_column w r) extents (extents-wide w r.units columns (visual r.levels) below) o t n r.is_last slot-of.1

  by-unit : (s : Slot) → find (covers t.column) own ≡ Some s → IsEnteredBy w r t.column s
  by-unit s is =
      let f = found (covers t.column) own s is in record {
        entry_is = entered-found (end_slot w r) refl t.column n r.is_last own s is;
        is_slot = contains-with-end n r.is_last (end_slot w r) own s f.0;
        covered = f.1;
      }

  -- the end's slot has the column of the end
  end-column : end_slot w r ≡ t → t.column ≡ end_of n w (columns_used w r.units)
  end-column same = sym (ap (λ (x : Slot). x.column) same)

  end-offset : end_slot w r ≡ t → length r.body ≡ o
  end-offset same = ap offset_of same ∙ offset-is

  at-end : (x : Option Slot) → find (covers t.column) own ≡ x → r.is_last ≡ true → end_slot w r ≡ t → (entry w r t.column ≡ Some o) ⊎ IsFull w r o
  at-end None none last same = inl (entered-end (end_slot w r) refl t.column n r.is_last own last none ∙ ap Some (end-offset same))
  at-end (Some s) is last same =
      let inside = between (left_column w r) t.column extents s is in
      let upto : t.column < left_column w r + columns_used w r.units = omega (arith, inside.1, sum) in
      inr record {
        last = last;
        at_end = sym (end-offset same);
        full = full-by n w (columns_used w r.units) t.column fits some (end-column same) (inside.0, upto);
      }

  -- entered in the column of one of its places
  pub entered-again : (entry w r (column_of w r o) ≡ Some o) ⊎ IsFull w r o
  entered-again =
      subst (λ column. (entry w r column ≡ Some o) ⊎ IsFull w r o) (sym column-is)
      (⊎_elim (λ is. inl ((by-unit t is).entry_is ∙ ap Some offset-is)) (λ is. at-end (find (covers t.column) own) refl is.0 is.1) which)

  at-edge : columns_used w r.units ≡ w → (x : Option Slot) → find (covers t.column) own ≡ x → end_slot w r ≡ t → (s : Slot) × IsEnteredBy w r t.column s
  at-edge full None none same =
      absurd (past-full n w (columns_used w r.units) t.column full some (end-column same)
      (λ low. (let past = past-all (left_column w r) t.column extents none low in omega (arith, past, sum))))
  at-edge full (Some s) is same = (s, by-unit s is)

  -- in a full row a slot covers that column
  pub entered-at-edge : columns_used w r.units ≡ w → (s : Slot) × IsEnteredBy w r (column_of w r o) s
  entered-at-edge full =
      subst (λ column. (s : Slot) × IsEnteredBy w r column s) (sym column-is)
      (⊎_elim (λ is. (t, by-unit t is)) (λ is. at-edge full (find (covers t.column) own) refl is.1) which)
