-- The columns of a row with a region, as the slots of its units are turned one after another.
use Rattle.std.proofs.Common.{◌≡◌, ℕ, zero, suc, ◌+◌, ◌-◌, ◌%◌, ◌<◌, ◌≤◌, Bool, true, false, ◌&&◌, nat_lt, List, [], ◌∷◌, ◌++◌, length, map}
use Rattle.std.proofs.Common.{get_or, find, cond, Option, Some, None, option_map, refl, sym, ap, ap₂, subst, ◌∙◌, append_assoc, append-nil, length-append, arith}
use Rattle.std.specs.Prelude.{All, filter}
use Rattle.std.proofs.Math.Path.{fun_ext}
use Rattle.std.proofs.lemmas.Bool.Decides.{nat_tests}
use Rattle.std.proofs.lemmas.Grind.{flat_map-append}
use Rattle.std.proofs.lemmas.List.{get_or-append-add}
use Rattle.std.proofs.lemmas.List.Concat.{flat_map-cons}
use Rattle.std.proofs.lemmas.List.Elements.{All-filter, All-head, All-rest, filter-append}
use Rattle.std.proofs.lemmas.List.Sums.{sum_by-append, sum_by-cons}
use Rattle.bx_grid.specs.Columns.{Col, blank, columns_before, glyph_columns}
use Rattle.bx_grid.specs.Grid.{IsBorder, turned_in}
use Rattle.bx_grid.proofs.Puts.{length-glyph}
use Rattle.bx_grid.proofs.TurnedWhole.{border-turned, length-turned}
use Rattle.bx_rows.specs.RowPicture.{Glyph, unit_columns}
use Rattle.bx_rows.specs.RowLevels.{visual}
use Rattle.bx_rows.proofs.PictureLaws.{columns_of_glyphs}
use Rattle.bx_paragraph.specs.declared.slots.Slot.{Slot}
use Rattle.bx_paragraph.specs.Slots.{covering_in, covers, end_slot, extent_of, left_column, side_by_side as slots_beside, slot, unit_slots}
use Rattle.bx_ucd.specs.Data.{Data}
use Rattle.bx_view.specs.TextParts.{slots_in}
use Rattle.bx_view.specs.Top.{is_covered, is_in, is_some_in}
use Rattle.bx_view.specs.TextRows.{TextRow, text_row_glyphs}
use Rattle.bx_view.proofs.GlyphCells.{HasFaces}
use Rattle.bx_view.proofs.KeptPlaces.{HasLevels}
use Rattle.bx_view.proofs.SlotGlyphs.{HasGlyphs, slots-between}
use Rattle.bx_document.specs.Drawing.{row_columns, side_by_side, region_columns, turned_where}
use Rattle.bx_document.specs.RegionSlots.{IsSpan, turned_slots}
use Rattle.bx_document.proofs.TurnedWhere.{differ, in-slot, low-slot, no-columns, slot-turned, where-twice}

-- ---- borders between glyphs

length-side : (gs : List Glyph) → length (side_by_side gs) ≡ columns_of_glyphs gs
length-side [] = refl
length-side (g ∷ gs) =
    let one : length (glyph_columns g.text g.columns g.negative) ≡ g.columns = length-glyph g.text g.columns 0 g.columns g.negative in
    ap length (flat_map-cons (λ (x : Glyph). glyph_columns x.text x.columns x.negative) g gs)
    ∙ length-append (glyph_columns g.text g.columns g.negative) (side_by_side gs)
    ∙ omega (arith, one, length-side gs, sum_by-cons (λ (x : Glyph). x.columns) g gs)

first-by : (text : List ℕ) (n : ℕ) (negative : Bool) (rest : List Col) → columns_before (get_or rest 0 blank) ≡ 0
    → columns_before (get_or (glyph_columns text n negative ++ rest) 0 blank) ≡ 0
first-by text zero negative rest h = h
first-by text (suc n) negative rest h = refl

first-border : (gs : List Glyph) → columns_before (get_or (side_by_side gs) 0 blank) ≡ 0
first-border [] = refl
first-border (g ∷ gs) =
    ap (λ cs. columns_before (get_or cs 0 blank)) (flat_map-cons (λ (x : Glyph). glyph_columns x.text x.columns x.negative) g gs)
    ∙ first-by g.text g.columns g.negative (side_by_side gs) (first-border gs)

border-between : (before rest : List Glyph) (k : ℕ) → k ≡ columns_of_glyphs before → IsBorder (side_by_side (before ++ rest)) k
border-between before rest k e =
    let at : k ≡ length (side_by_side before) + 0 = omega (arith, e, length-side before) in
    ap₂ (λ cs n. columns_before (get_or cs n blank)) (flat_map-append (λ (x : Glyph). glyph_columns x.text x.columns x.negative) before rest) at
    ∙ ap columns_before (get_or-append-add (side_by_side before) (side_by_side rest) 0 blank)
    ∙ first-border rest

span : (glyphs : List Glyph) (s : Slot) → HasGlyphs glyphs s → IsSpan (side_by_side glyphs) s
span glyphs s h =
    let split : glyphs ≡ (h.before ++ h.own) ++ h.rest = h.are ∙ sym (append_assoc h.before h.own h.rest) in
    let all = sum_by-append (λ (x : Glyph). x.columns) (h.before ++ h.own) h.rest in
    let both = sum_by-append (λ (x : Glyph). x.columns) h.before h.own in
    let size : length (side_by_side glyphs) ≡ columns_of_glyphs ((h.before ++ h.own) ++ h.rest) = length-side glyphs ∙ ap columns_of_glyphs split in
    record {
      low = omega (arith, h.column_is);
      fits = omega (arith, h.column_is, h.columns_are, size, all, both);
      begins = subst (λ gs. IsBorder (side_by_side gs) (s.column - 1)) (sym h.are)
          (border-between h.before (h.own ++ h.rest) (s.column - 1) (omega (arith, h.column_is)));
      ends = subst (λ gs. IsBorder (side_by_side gs) (s.column - 1 + s.columns)) (sym split)
          (border-between (h.before ++ h.own) h.rest (s.column - 1 + s.columns) (omega (arith, h.column_is, h.columns_are, both)));
    }

-- a span of a row is one of the row with others turned
pub span-turned : (cs : List Col) (s t : Slot) → IsSpan cs s → IsSpan cs t → IsSpan (turned_in cs (s.column - 1) s.columns) t
span-turned cs s t p q =
    let len = length-turned cs (s.column - 1) s.columns p.fits in
    record {
      low = q.low;
      fits = omega (arith, q.fits, len);
      begins = border-turned cs (s.column - 1) s.columns (t.column - 1) p.fits q.begins;
      ends = border-turned cs (s.column - 1) s.columns (t.column - 1 + t.columns) p.fits q.ends;
    }

-- ---- slots turned one after another

-- a column is turned once for each slot that covers it
abbrev odd : List Slot → ℕ → Bool
odd [] j = false
odd (s ∷ ss) j = differ (covers j s) (odd ss j)

where-no : (k : ℕ) (cs : List Col) → turned_where (λ j. false) k cs ≡ cs
where-no k [] = refl
where-no k (c ∷ cs) = ap (λ xs. c ∷ xs) (where-no (k + 1) cs)

pub slots-turned : (ss : List Slot) (cs : List Col) → All (IsSpan cs) ss → turned_slots ss cs ≡ turned_where (odd ss) 1 cs
slots-turned [] cs a = sym (where-no 1 cs)
slots-turned (s ∷ ss) cs a =
    let here : IsSpan cs s = All-head (IsSpan cs) s ss a in
    let rest : All (IsSpan cs) ss = All-rest (IsSpan cs) s ss (s ∷ ss) refl a in
    let later : All (IsSpan (turned_in cs (s.column - 1) s.columns)) ss = λ i d h. span-turned cs s (get_or ss i d) here (rest i d h) in
    slots-turned ss (turned_in cs (s.column - 1) s.columns) later
    ∙ ap (turned_where (odd ss) 1) (slot-turned s cs here.low here.fits)
    ∙ where-twice (odd ss) (λ j. covers j s) 1 cs

-- ---- slots side by side: one of them covers a column, or none

module _ (p : Slot → Bool) (q : ℕ → Bool) (ucd-so : (s : Slot) → 1 ≤ s.columns → p s ≡ q s.offset) where
  abbrev some-of : Option ℕ → Bool
  some-of None = false
  some-of (Some o) = q o

  -- left of all slots
  left-odd-by : (s : Slot) (ss : List Slot) (j : ℕ) (b : Bool) → covers j s ≡ false → odd (filter p ss) j ≡ false
      → odd (cond b (s ∷ filter p ss) (filter p ss)) j ≡ false
  left-odd-by s ss j true e h = ap₂ differ e h
  left-odd-by s ss j false e h = h

  left-odd : (at : ℕ) (us : List (ℕ × ℕ)) (j : ℕ) → j < at → odd (filter p (slots_beside at us)) j ≡ false
  left-odd at [] j h = refl
  left-odd at (u ∷ us) j h =
      let s = slot u.0 at u.1 in
      left-odd-by s (slots_beside (at + u.1) us) j (p s) (low-slot s j h) (left-odd (at + u.1) us j (omega (arith, h)))

  here-by : (s : Slot) (ss : List Slot) (j : ℕ) (b : Bool) → covers j s ≡ true → odd (filter p ss) j ≡ false
      → odd (cond b (s ∷ filter p ss) (filter p ss)) j ≡ b
  here-by s ss j true e h = ap₂ differ e h
  here-by s ss j false e h = h

  there-by : (s : Slot) (ss : List Slot) (j : ℕ) (b : Bool) → covers j s ≡ false
      → odd (cond b (s ∷ filter p ss) (filter p ss)) j ≡ odd (filter p ss) j
  there-by s ss j true e = ap (λ c. differ c (odd (filter p ss) j)) e
  there-by s ss j false e = refl

  beside-by : (s : Slot) (at : ℕ) (us : List (ℕ × ℕ)) (j : ℕ) (b : Bool) → covers j s ≡ b → s.column + s.columns ≡ at
      → odd (filter p (slots_beside at us)) j ≡ some-of (covering_in (slots_beside at us) j)
      → odd (filter p (s ∷ slots_beside at us)) j
      ≡ some-of (option_map (λ (x : Slot). x.offset) (cond b (Some s) (find (covers j) (slots_beside at us))))
  beside-by s at us j true e next h =
      let within = in-slot s j e in
      here-by s (slots_beside at us) j (p s) e (left-odd at us j (omega (arith, within.1, next))) ∙ ucd-so s (omega (arith, within.0, within.1))
  beside-by s at us j false e next h = there-by s (slots_beside at us) j (p s) e ∙ h

  beside-odd : (at : ℕ) (us : List (ℕ × ℕ)) (j : ℕ) → odd (filter p (slots_beside at us)) j ≡ some-of (covering_in (slots_beside at us) j)
  beside-odd at [] j = refl
  beside-odd at (u ∷ us) j =
      let s = slot u.0 at u.1 in
      beside-by s (at + u.1) us j (covers j s) refl refl (beside-odd (at + u.1) us j)

-- ---- the end's slot covers no column

kept-last : (p : Slot → Bool) (ss : List Slot) (end : Slot) (b : Bool) → p end ≡ b → b ≡ false → filter p (ss ++ end ∷ []) ≡ filter p ss
kept-last p ss end true e f = absurd (cc f)
kept-last p ss end false e f =
    filter-append p ss (end ∷ []) ∙ ap (λ c. filter p ss ++ cond c (end ∷ []) []) e ∙ append-nil (filter p ss)

kept-by : (p : Slot → Bool) (n : ℕ) (b : Bool) (end : Slot) (ss : List Slot) → p end ≡ false
    → filter p (elim b [ true ↦ elim n [ zero ↦ ss ++ end ∷ [] | suc _ ↦ end ∷ ss ] | false ↦ ss ]) ≡ filter p ss
kept-by p zero true end ss e = kept-last p ss end (p end) refl e
kept-by p (suc n) true end ss e = ap (λ c. cond c (end ∷ filter p ss) (filter p ss)) e
kept-by p n false end ss e = refl

abbrev offset-or : Option Slot → Option ℕ
offset-or o = option_map (λ (x : Slot). x.offset) o

found-last : (q : Slot → Bool) (ss : List Slot) (end : Slot) → q end ≡ false → find q (ss ++ end ∷ []) ≡ find q ss
found-last q [] end e = ap (λ b. cond b (Some end) None) e
found-last q (s ∷ ss) end e = ap (λ o. cond (q s) (Some s) o) (found-last q ss end e)

found-by : (q : Slot → Bool) (n : ℕ) (b : Bool) (end : Slot) (ss : List Slot) → q end ≡ false
    → find q (elim b [ true ↦ elim n [ zero ↦ ss ++ end ∷ [] | suc _ ↦ end ∷ ss ] | false ↦ ss ]) ≡ find q ss
found-by q zero true end ss e = found-last q ss end e
found-by q (suc n) true end ss e = ap (λ b. cond b (Some end) (find q ss)) e
found-by q n false end ss e = refl

-- ---- a row

module _ (ucd : Data) (w : ℕ) (r : TextRow) (levels : HasLevels r.row) (faces : HasFaces ucd w r.row) (part : ℕ × ℕ) where
  abbrev own : List Slot
  own = unit_slots w r.row

  abbrev chosen : Slot → Bool
  chosen s = nat_lt 0 s.columns && is_in part (r.start + s.offset)

  units-kept : slots_in w part r ≡ filter chosen own
  units-kept = kept-by chosen (r.row.paragraph % 2) r.row.is_last (end_slot w r.row) own refl

  pub spans : All (IsSpan (row_columns ucd w r)) (slots_in w part r)
  spans =
      let glyphs = text_row_glyphs ucd w r in
      let between = slots-between ucd w r levels faces in
      subst (All (IsSpan (row_columns ucd w r))) (sym units-kept)
      (All-filter chosen (IsSpan (row_columns ucd w r)) own (λ i d h. span glyphs (get_or own i d) (between i d h)))

  chosen-is : (s : Slot) → 1 ≤ s.columns → chosen s ≡ is_in part (r.start + s.offset)
  chosen-is s some = let more : nat_lt 0 s.columns ≡ true = grind (arith, nat_tests) in ap (λ b. b && is_in part (r.start + s.offset)) more

  end-off : (j : ℕ) → covers j (end_slot w r.row) ≡ false
  end-off j = no-columns (end_slot w r.row) j refl

  some-in : (o : Option ℕ) → some-of chosen (λ o. is_in part (r.start + o)) chosen-is o ≡ is_some_in part (option_map (λ o. r.start + o) o)
  some-in None = refl
  some-in (Some o) = refl

  covered : (j : ℕ) → odd (filter chosen own) j ≡ is_covered w part r j
  covered j =
      beside-odd chosen (λ o. is_in part (r.start + o)) chosen-is (left_column w r.row)
      (map (extent_of r.row.units (unit_columns w 0 r.row.units)) (visual r.row.levels)) j
      ∙ some-in (covering_in own j)
      ∙ ap (λ o. is_some_in part (option_map (λ k. r.start + k) (offset-or o)))
      (sym (found-by (covers j) (r.row.paragraph % 2) r.row.is_last (end_slot w r.row) own (end-off j)))

  -- its slots in the region turn the columns of the region's units
  pub turned-are : turned_slots (slots_in w part r) (row_columns ucd w r) ≡ region_columns ucd w part r
  turned-are =
      slots-turned (slots_in w part r) (row_columns ucd w r) spans
      ∙ ap (λ ss. turned_where (odd ss) 1 (row_columns ucd w r)) units-kept
      ∙ ap (λ p. turned_where p 1 (row_columns ucd w r)) (fun_ext covered)
