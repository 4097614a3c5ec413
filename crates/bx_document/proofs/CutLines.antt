-- What is left out at the left of an input line.
use Rattle.std.proofs.Common.{◌≡◌, ℕ, ◌+◌, ◌-◌, ◌<◌, ◌≤◌, Bool, true, false, nat_le, nat_lt, List, [], ◌∷◌, length, map, drop, get_or, refl, ap, sym, ◌∙◌, arith}
use Rattle.std.proofs.Common.{if◌then◌else◌}
use Rattle.std.specs.Prelude.{Option, Some, None}
use Rattle.std.proofs.lemmas.Bool.Decides.{nat_tests}
use Rattle.std.proofs.lemmas.List.{drop_more}
use Rattle.bx_rows.specs.declared.drawn.Drawn.{Drawn}
use Rattle.bx_rows.specs.RowPicture.{Glyph}
use Rattle.bx_rows.specs.Shown.{glyph_of}
use Rattle.bx_document.specs.InputLine.{shown_line}

-- the cursor is in the row already
here : (w before : ℕ) (gs : List Glyph) (cell : ℕ) → nat_le (before + cell) w ≡ true
    → shown_line w before gs cell ≡ Some (record { glyphs = gs; column = before + cell })
here w before [] cell is = ap (λ b. if b then Some (record { glyphs = []; column = before + cell }) else None) is
here w before (g ∷ gs) cell is =
    ap (λ b. if b
    then Some (record { glyphs = g ∷ gs; column = before + cell })
    else if nat_lt g.columns cell then shown_line w before gs (cell - g.columns) else None) is

-- it is not: the next glyph is left out, if it is before the cursor's
further : (w before : ℕ) (g : Glyph) (gs : List Glyph) (cell : ℕ) → nat_le (before + cell) w ≡ false
    → shown_line w before (g ∷ gs) cell ≡ (if nat_lt g.columns cell then shown_line w before gs (cell - g.columns) else None)
further w before g gs cell is =
    ap (λ b. if b
    then Some (record { glyphs = g ∷ gs; column = before + cell })
    else if nat_lt g.columns cell then shown_line w before gs (cell - g.columns) else None) is

none : (w before cell : ℕ) → nat_le (before + cell) w ≡ false → shown_line w before [] cell ≡ None
none w before cell is = ap (λ b. if b then Some (record { glyphs = []; column = before + cell }) else None) is

-- a column that was found, or not
abbrev pub column_of : ℕ → ℕ → ℕ → Option ℕ
column_of w before cell = if nat_le (before + cell) w then Some (before + cell) else None

found-by : (w n column : ℕ) (b : Bool) → nat_le n w ≡ b → Some column ≡ (if b then Some n else None) → (nat_le n w ≡ true) × (column ≡ n)
found-by w n column true is e = (is, cc e)
found-by w n column false is e = absurd (cc e)

lost-by : (w n : ℕ) (b : Bool) → nat_le n w ≡ b → None ≡ (if b then Some n else None) → nat_le n w ≡ false
lost-by w n true is e = absurd (cc e)
lost-by w n false is e = is

pub found : (w before cell column : ℕ) → Some column ≡ column_of w before cell → (nat_le (before + cell) w ≡ true) × (column ≡ before + cell)
found w before cell column e = found-by w (before + cell) column (nat_le (before + cell) w) refl e

pub lost : (w before cell : ℕ) → None ≡ column_of w before cell → nat_le (before + cell) w ≡ false
lost w before cell e = lost-by w (before + cell) (nat_le (before + cell) w) refl e

module _ (w before : ℕ) (ds : List Drawn) (i cell : ℕ) where
  pub shown-here : (column : ℕ) → Some column ≡ column_of w before cell
      → shown_line w before (map glyph_of (drop i ds)) cell ≡ Some (record { glyphs = map glyph_of (drop i ds); column = column })
  shown-here column e =
      let is = found w before cell column e in
      here w before (map glyph_of (drop i ds)) cell is.0
      ∙ ap (λ n. Some (record { glyphs = map glyph_of (drop i ds); column = n })) (sym is.1)

  parts : (d : Drawn) → i < length ds → get_or ds i d ≡ d → drop i ds ≡ d ∷ drop (i + 1) ds
  parts d inside at = drop_more ds i d inside ∙ ap (λ x. x ∷ drop (i + 1) ds) at

  pub shown-never : (d : Drawn) → i < length ds → get_or ds i d ≡ d → None ≡ column_of w before cell → cell ≤ d.columns
      → shown_line w before (map glyph_of (drop i ds)) cell ≡ None
  shown-never d inside at out few =
      let not-less : nat_lt d.columns cell ≡ false = grind (arith, nat_tests) in
      ap (λ xs. shown_line w before (map glyph_of xs) cell) (parts d inside at)
      ∙ further w before (glyph_of d) (map glyph_of (drop (i + 1) ds)) cell (lost w before cell out)
      ∙ ap (λ b. if b then shown_line w before (map glyph_of (drop (i + 1) ds)) (cell - d.columns) else None) not-less

  pub shown-next : (d : Drawn) → i < length ds → get_or ds i d ≡ d → None ≡ column_of w before cell → d.columns < cell
      → shown_line w before (map glyph_of (drop (i + 1) ds)) (cell - d.columns) ≡ shown_line w before (map glyph_of (drop i ds)) cell
  shown-next d inside at out more =
      let less : nat_lt d.columns cell ≡ true = grind (arith, nat_tests) in
      sym (ap (λ xs. shown_line w before (map glyph_of xs) cell) (parts d inside at)
      ∙ further w before (glyph_of d) (map glyph_of (drop (i + 1) ds)) cell (lost w before cell out)
      ∙ ap (λ b. if b then shown_line w before (map glyph_of (drop (i + 1) ds)) (cell - d.columns) else None) less)
