-- The slots of a row's units stand where the glyphs of their units do.
use Rattle.std.proofs.Common.{◌≡◌, ℕ, zero, suc, ◌+◌, ◌-◌, ◌%◌, List, [], ◌∷◌, ◌++◌, map, replicate, refl, sym, ap, subst, ◌∙◌, append_assoc, append-nil, arith}
use Rattle.std.specs.Prelude.{All, flat_map}
use Rattle.std.proofs.lemmas.List.Concat.{flat_map-cons}
use Rattle.std.proofs.lemmas.List.Elements.{All-cons, All-nil, All-rest}
use Rattle.std.proofs.lemmas.List.Folds.{sum_by-replicate}
use Rattle.std.proofs.lemmas.List.Sums.{sum_by-append}
use Rattle.bx_ucd.specs.Data.{Data}
use Rattle.bx_rows.specs.RowPicture.{Glyph, blank, columns_used, unit_columns}
use Rattle.bx_rows.specs.RowLevels.{visual}
use Rattle.bx_rows.proofs.PictureLaws.{columns_of_glyphs}
use Rattle.bx_paragraph.specs.declared.slots.Slot.{Slot}
use Rattle.bx_paragraph.specs.Slots.{extent_of, side_by_side, slot, unit_slots}
use Rattle.bx_view.specs.Cells.{glyphs_of}
use Rattle.bx_view.specs.TextRows.{TextRow, text_row_glyphs}
use Rattle.bx_view.proofs.GlyphCells.{HasFaces, sums}
use Rattle.bx_view.proofs.KeptPlaces.{HasLevels}

-- some of a row's glyphs have the columns of a slot
pub record HasGlyphs (glyphs : List Glyph) (s : Slot) : Type 0 where
  pub before : List Glyph
  pub own : List Glyph
  pub rest : List Glyph
  pub are : glyphs ≡ before ++ (own ++ rest)
  pub column_is : s.column ≡ columns_of_glyphs before + 1
  pub columns_are : s.columns ≡ columns_of_glyphs own

module _ (glyphs : ℕ → List Glyph) (extent : ℕ → ℕ × ℕ) (post : List Glyph) where
  -- units side by side, after other glyphs
  units-between : (pre : List Glyph) (at : ℕ) (order : List ℕ) → at ≡ columns_of_glyphs pre + 1
      → All (λ k. columns_of_glyphs (glyphs k) ≡ (extent k).1) order
      → All (HasGlyphs (pre ++ (flat_map glyphs order ++ post))) (side_by_side at (map extent order))
  units-between pre at [] e a = All-nil (HasGlyphs (pre ++ post))
  units-between pre at (k ∷ ks) e a =
      let all = pre ++ (flat_map glyphs (k ∷ ks) ++ post) in
      let here : columns_of_glyphs (glyphs k) ≡ (extent k).1 = a 0 k (omega arith) in
      let behind = flat_map glyphs ks ++ post in
      let split : all ≡ pre ++ (glyphs k ++ behind) =
      ap (λ gs. pre ++ (gs ++ post)) (flat_map-cons glyphs k ks) ∙ ap (λ gs. pre ++ gs) (append_assoc (glyphs k) (flat_map glyphs ks) post) in
      let next : at + (extent k).1 ≡ columns_of_glyphs (pre ++ glyphs k) + 1 =
      omega (arith, e, here, sum_by-append (λ (g : Glyph). g.columns) pre (glyphs k)) in
      let more = units-between (pre ++ glyphs k) (at + (extent k).1) ks next
      (All-rest (λ j. columns_of_glyphs (glyphs j) ≡ (extent j).1) k ks (k ∷ ks) refl a) in
      All-cons (HasGlyphs all) (slot (extent k).0 at (extent k).1) (side_by_side (at + (extent k).1) (map extent ks))
      (record { before = pre; own = glyphs k; rest = behind; are = split; column_is = e; columns_are = sym here })
      (subst (λ gs. All (HasGlyphs gs) (side_by_side (at + (extent k).1) (map extent ks))) (append_assoc pre (glyphs k) behind ∙ sym split) more)

-- in a row with its blanks
in-row : (odd n : ℕ) (glyphs : ℕ → List Glyph) (extent : ℕ → ℕ × ℕ) (order : List ℕ) → All (λ k. columns_of_glyphs (glyphs k) ≡ (extent k).1) order
    → All (HasGlyphs (elim odd [ zero ↦ flat_map glyphs order ++ replicate n blank | suc _ ↦ replicate n blank ++ flat_map glyphs order ]))
    (side_by_side (elim odd [ zero ↦ 1 | suc _ ↦ n + 1 ]) (map extent order))
in-row zero n glyphs extent order a =
    units-between glyphs extent (replicate n blank) [] 1 order (let none : columns_of_glyphs [] ≡ 0 = refl in omega (arith, none)) a
in-row (suc k) n glyphs extent order a =
    let blanks : columns_of_glyphs (replicate n blank) ≡ n = sum_by-replicate (λ g. g.columns) n blank ∙ omega arith in
    subst (λ gs. All (HasGlyphs (replicate n blank ++ gs)) (side_by_side (n + 1) (map extent order))) (append-nil (flat_map glyphs order))
    (units-between glyphs extent [] (replicate n blank) (n + 1) order (omega (arith, blanks)) a)

pub slots-between : (ucd : Data) (w : ℕ) (r : TextRow) → HasLevels r.row → HasFaces ucd w r.row
    → All (HasGlyphs (text_row_glyphs ucd w r)) (unit_slots w r.row)
slots-between ucd w r levels faces =
    in-row (r.row.paragraph % 2) (w - columns_used w r.row.units) (λ k. glyphs_of ucd w r.row k)
    (extent_of r.row.units (unit_columns w 0 r.row.units)) (visual r.row.levels) (sums ucd w r levels faces)
