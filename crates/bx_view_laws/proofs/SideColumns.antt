-- The columns of slots side by side.
use Rattle.std.proofs.Common.{◌≡◌, ℕ, zero, suc, ◌+◌, ◌<◌, ◌≤◌, ◌==◌, Bool, true, false, List, [], ◌∷◌, ◌++◌, map, cond, find}
use Rattle.std.proofs.Common.{Some, option_map, unwrap_or, refl, sym, ap, subst, ◌∙◌, arith, ⊎_elim, eq-eqb}
use Rattle.std.specs.Prelude.{All, Contains, flat_map}
use Rattle.std.proofs.lemmas.Bool.{eqb-true}
use Rattle.std.proofs.lemmas.List.{get_or-map, length-map}
use Rattle.std.proofs.lemmas.List.Concat.{flat_map-cons}
use Rattle.std.proofs.lemmas.List.Elements.{All-cons, All-nil, All-weaker, Contains-append_cases, Contains-append_right}
use Rattle.std.proofs.lemmas.List.Sums.{sum_by-append, sum_by-cons}
use Rattle.bx_rows.specs.RowPicture.{Glyph}
use Rattle.bx_rows.proofs.PictureLaws.{columns_of_glyphs}
use Rattle.bx_paragraph.specs.declared.slots.Slot.{Slot}
use Rattle.bx_paragraph.specs.Slots.{column_in, side_by_side, slot}
use Rattle.bx_view.specs.Cells.{times}
use Rattle.bx_view.proofs.CellColumns.{Wide, end_of, left_of, total}
use Rattle.bx_view.proofs.GlyphCells.{one-is}
use Rattle.bx_view.proofs.KeptPlaces.{counted-contains, one-at}

-- ---- where they are

-- a slot has columns, and they lie from `low` up to `high`
pub record LiesFrom (low high : ℕ) (s : Slot) : Type 0 where
  pub from : low ≤ s.column
  pub upto : s.column + s.columns ≤ high
  pub some : 1 ≤ s.columns

pub side-lies : (at : ℕ) (us : List (ℕ × ℕ)) → Wide us → All (LiesFrom at (at + total us)) (side_by_side at us)
side-lies at [] wide = All-nil (LiesFrom at (at + total []))
side-lies at (u ∷ us) wide =
    let sum = sum_by-cons (λ (x : ℕ × ℕ). x.1) u us in
    let here : LiesFrom at (at + total (u ∷ us)) (slot u.0 at u.1) = record { from = omega arith; upto = omega (arith, sum); some = wide.0 } in
    All-cons (LiesFrom at (at + total (u ∷ us))) (slot u.0 at u.1) (side_by_side (at + u.1) us) here
    (All-weaker (LiesFrom (at + u.1) (at + u.1 + total us)) (LiesFrom at (at + total (u ∷ us)))
    (λ s l. let from = l.from in let upto = l.upto in record { from = omega (arith, from); upto = omega (arith, upto, sum); some = l.some })
    (side_by_side (at + u.1) us) (side-lies (at + u.1) us wide.1))

-- the end's column has no unit, where the units leave columns
pub end-free : (n w used : ℕ) (s : Slot) → used < w → LiesFrom (left_of n w used) (left_of n w used + used) s → s.column ≤ end_of n w used
    → end_of n w used < s.column + s.columns → ⊥
end-free zero w used s room l low high = let upto = l.upto in omega (arith, room, upto, high)
end-free (suc n) w used s room l low high = let from = l.from in omega (arith, room, from, low)

-- ---- one of them

here : {X : Type 0} (x : X) (xs : List X) → Contains (x ∷ xs) x
here x xs = (0, omega arith, refl)

module _ (extent : ℕ → ℕ × ℕ) where
  -- the slot of a unit, after those of the units before it
  pub side-has : (at : ℕ) (before : List ℕ) (k : ℕ) (behind : List ℕ)
      → Contains (side_by_side at (map extent (before ++ k ∷ behind))) (slot (extent k).0 (at + total (map extent before)) (extent k).1)
  side-has at [] k behind =
      let none : at ≡ at + total (map extent []) = omega arith in
      subst (λ a. Contains (side_by_side at (map extent (k ∷ behind))) (slot (extent k).0 a (extent k).1)) none
      (here (slot (extent k).0 at (extent k).1) (side_by_side (at + (extent k).1) (map extent behind)))
  side-has at (j ∷ js) k behind =
      let sum : at + (extent j).1 + total (map extent js) ≡ at + total (map extent (j ∷ js)) =
      omega (arith, sum_by-cons (λ (x : ℕ × ℕ). x.1) (extent j) (map extent js)) in
      let more = side_by_side (at + (extent j).1) (map extent (js ++ k ∷ behind)) in
      subst (λ a. Contains (slot (extent j).0 at (extent j).1 ∷ more) (slot (extent k).0 a (extent k).1)) sum
      (Contains-append_right (slot (extent j).0 at (extent j).1 ∷ []) more (slot (extent k).0 (at + (extent j).1 + total (map extent js)) (extent k).1)
      (side-has (at + (extent j).1) js k behind))

  -- the columns of units are those of their glyphs
  pub glyphs-total : (glyphs : ℕ → List Glyph) (ks : List ℕ) → ((k : ℕ) → Contains ks k → columns_of_glyphs (glyphs k) ≡ (extent k).1)
      → columns_of_glyphs (flat_map glyphs ks) ≡ total (map extent ks)
  glyphs-total glyphs [] each = refl
  glyphs-total glyphs (k ∷ ks) each =
      let more : columns_of_glyphs (flat_map glyphs (k ∷ ks)) ≡ columns_of_glyphs (glyphs k) + columns_of_glyphs (flat_map glyphs ks) =
      ap columns_of_glyphs (flat_map-cons glyphs k ks) ∙ sum_by-append (λ (g : Glyph). g.columns) (glyphs k) (flat_map glyphs ks) in
      omega (
        arith,
        more,
        each k (here k ks),
        glyphs-total glyphs ks (λ j c. each j (Contains-append_right (k ∷ []) ks j c)),
        sum_by-cons (λ (x : ℕ × ℕ). x.1) (extent k) (map extent ks),
      )

-- ---- the column of an offset that one slot has

abbrev offset_of : Slot → ℕ
offset_of s = s.offset

abbrev moved : ℕ → List Slot → List ℕ
moved start ss = map (λ o. start + o) (map offset_of ss)

module _ (start : ℕ) where
  abbrev count : Slot → List Slot → ℕ
  count s ss = times (start + s.offset) (moved start ss)

  counted : (s : Slot) (ss : List Slot) → Contains ss s → 0 < count s ss
  counted s ss c =
      counted-contains (moved start ss) (start + s.offset) (
        c.0,
        omega (arith, c.1, length-map (map offset_of ss) (λ o. start + o), length-map ss offset_of),
        get_or-map (λ o. start + o) (map offset_of ss) c.0 s.offset (start + s.offset) (omega (arith, c.1, length-map ss offset_of))
            ∙ ap (λ o. start + o) (get_or-map offset_of ss c.0 s s.offset c.1 ∙ ap offset_of c.2),
      )

  column-at : (s t : Slot) (ss : List Slot) (b : Bool) → (t.offset == s.offset) ≡ b → Contains (t ∷ ss) s → count s (t ∷ ss) ≤ 1
      → (Contains ss s → count s ss ≤ 1 → column_in ss s.offset ≡ s.column) → column_in (t ∷ ss) s.offset ≡ s.column
  column-at s t ss true e c few rest =
      let same : start + t.offset ≡ start + s.offset = ap (λ o. start + o) (eqb-true t.offset s.offset e) in
      let one : one-at (start + s.offset) (start + t.offset) ≡ 1 = ap (λ b. cond b 1 0) (eq-eqb (start + t.offset) (start + s.offset) same) in
      let sum = sum_by-cons (one-at (start + s.offset)) (start + t.offset) (moved start ss) in
      let own : t ≡ s = ⊎_elim (λ one. one-is t s one) (λ more. absurd (omega (arith, few, one, sum, counted s ss more))) (Contains-append_cases (t ∷ []) ss s c) in
      ap (λ x. unwrap_or (option_map (λ (x : Slot). x.column) (cond x (Some t) (find (λ (x : Slot). x.offset == s.offset) ss))) 1) e ∙ ap (λ (x : Slot). x.column) own
  column-at s t ss false e c few rest =
      let sum = sum_by-cons (one-at (start + s.offset)) (start + t.offset) (moved start ss) in
      let behind : Contains ss s = ⊎_elim
      (λ one. let never : false ≡ true = sym e ∙ eq-eqb t.offset s.offset (ap offset_of (one-is t s one)) in absurd (cc))
      (λ more. more) (Contains-append_cases (t ∷ []) ss s c) in
      ap (λ x. unwrap_or (option_map (λ (x : Slot). x.column) (cond x (Some t) (find (λ (x : Slot). x.offset == s.offset) ss))) 1) e
      ∙ rest behind (omega (arith, few, sum))

  pub column-once : (s : Slot) (ss : List Slot) → Contains ss s → count s ss ≤ 1 → column_in ss s.offset ≡ s.column
  column-once s [] c few = absurd (omega (arith, c.1))
  column-once s (t ∷ ss) c few = column-at s t ss (t.offset == s.offset) refl c few (λ more less. column-once s ss more less)
