-- The first row of an input line, as a view finds it.
use Rattle.std.proofs.Common.{◌≡◌, ℕ, zero, suc, ◌-◌, ◌%◌, ◌==◌, ◌<◌, ◌≤◌, Bool, true, false, nat_le, List, map, IsUtf8, refl, ap, ap₂, sym, subst, ◌∙◌, ⊎_elim, arith}
use Rattle.std.proofs.Common.{if◌then◌else◌}
use Rattle.std.specs.Prelude.{Option, Some, None, unwrap_or}
use Rattle.std.proofs.lemmas.Bool.{cases_lt}
use Rattle.std.proofs.lemmas.Bool.Decides.{nat_tests}
use Rattle.bx_ucd.specs.Data.{Data}
use Rattle.bx_common.specs.declared.base.Base.TheVariants.{Auto}
use Rattle.bx_paragraph.proofs.Starts.{side-some}
use Rattle.bx_rows.specs.RowPicture.{Glyph}
use Rattle.bx_view.specs.declared.in_row.RowAt.{RowAt}
use Rattle.bx_view.specs.Caching.{Keeps, ViewState}
use Rattle.bx_view.specs.FoundRow.{IsBefore, StandsOn, rows_by}
use Rattle.bx_view.specs.TextRows.{TextRow, cell_of, first, row_at, row_of, text_rows}
use Rattle.bx_view.proofs.CachedRows.{rows-kept}
use Rattle.bx_view.proofs.Rising.{Rises, rank, rank-few, rank-here, rises-apart}
use Rattle.bx_view.proofs.Walking.{rows-rise}
use Rattle.bx_document.specs.InputLine.{columns_taken, free_at_left, line_cell, line_glyphs, line_rows}

-- ---- the row that the offset 0 falls in

alone : (os : List ℕ) (high : ℕ) → Rises 0 os high → rank 0 os ≤ 1
alone os high rise = ⊎_elim
    (λ more.
    let next = rank-here 0 0 0 os high 1 rise more in
    let most = rank-few 0 os in
    let apart = rises-apart 0 os high 0 1 0 rise (omega arith) (omega (arith, more, most)) in
    absurd (omega (arith, next, apart)))
    (λ few. few) (cases_lt 1 (rank 0 os))

pub first-is-first : (ucd : Data) (v : ViewState) (text : List ℕ) (at : RowAt) (n : ℕ) → IsUtf8 text → StandsOn ucd v text at n
    → row_of (rows_by ucd v text) 0 ≡ 0
first-is-first ucd v text at n utf8 on =
    let few = alone (map first (rows_by ucd v text)) _ (rows-rise ucd v.base v.w (side-some v.w on.side) text utf8) in
    omega (arith, few)

-- ---- whether a place is in it, by whether a row is before its own

eq-by : (n m : ℕ) → n ≡ m → (n == m) ≡ true
eq-by n m e = grind (arith, nat_tests)

not-eq-by : (n : ℕ) → 0 < n → (n == 0) ≡ false
not-eq-by n h = grind (arith, nat_tests)

module _ (ucd : Data) (text : List ℕ) (old v later : ViewState) (place n : ℕ) (k₁ : Keeps ucd old v)
    (is : n ≡ row_of (rows_by ucd v text) place) where
  abbrev own : ℕ
  own = row_of (rows_by ucd old text) place

  same-number : n ≡ own
  same-number = is ∙ ap (λ rs. row_of rs place) (rows-kept ucd old v text k₁)

  pub none-before : (cell : ℕ) → cell ≡ cell_of old.w (rows_by ucd old text) place → n ≡ 0
      → Some cell ≡ (if own == 0 then Some (cell_of old.w (rows_by ucd old text) place) else None)
  none-before cell e z =
      let first : (own == 0) ≡ true = eq-by own 0 (sym same-number ∙ z) in
      ap Some e ∙ sym (ap (λ b. if b then Some (cell_of old.w (rows_by ucd old text) place) else None) first)

  pub some-before : 0 < n → None ≡ (if own == 0 then Some (cell_of old.w (rows_by ucd old text) place) else None)
  some-before h =
      let other : (own == 0) ≡ false = not-eq-by own (omega (arith, h, same-number)) in
      sym (ap (λ b. if b then Some (cell_of old.w (rows_by ucd old text) place) else None) other)

pub number-none : (ucd : Data) (v : ViewState) (text : List ℕ) (n : ℕ) (before : Option RowAt) → IsBefore ucd v text n before
    → ((at : RowAt) → before ≡ Some at → ⊥) → n ≡ 0
number-none ucd v text n None is not-some = is
number-none ucd v text n (Some at) is not-some = absurd (not-some at refl)

pub number-some : (ucd : Data) (v : ViewState) (text : List ℕ) (n : ℕ) (before : Option RowAt) (at : RowAt) → IsBefore ucd v text n before
    → before ≡ Some at → 0 < n
number-some ucd v text n before at is e = (subst (IsBefore ucd v text n) e is).0

-- ---- the column of a cell, from the first glyph

abbrev pub shifted : Option ℕ → ℕ → Option ℕ
shifted None free = None
shifted (Some cell) free = Some (cell - free)

shifted-by : (b : Bool) (cell free : ℕ) → shifted (if b then Some cell else None) free ≡ (if b then Some (cell - free) else None)
shifted-by true cell free = refl
shifted-by false cell free = refl

-- the free columns at the left, as they are found
abbrev pub free_by : ℕ → ℕ → ℕ
free_by level taken = elim (level % 2) [ zero ↦ 0 | suc _ ↦ 500 - taken ]

pub free-even : (level taken : ℕ) → level % 2 ≡ 0 → 0 ≡ free_by level taken
free-even level taken e = sym (ap (λ n. elim n [ zero ↦ 0 | suc _ ↦ 500 - taken ]) e)

odd-by : (n taken : ℕ) → (n ≡ 0 → ⊥) → elim n [ zero ↦ 0 | suc _ ↦ 500 - taken ] ≡ 500 - taken
odd-by zero taken other = absurd (other refl)
odd-by (suc n) taken other = refl

rest-by : (taken : ℕ) (b : Bool) → nat_le taken 500 ≡ b → unwrap_or (if b then Some (500 - taken) else None) 0 ≡ 500 - taken
rest-by taken true e = refl
rest-by taken false e = omega (arith, over taken e) where
  over : (taken : ℕ) → nat_le taken 500 ≡ false → 500 < taken
  over taken e = grind (arith, nat_tests)

pub free-odd : (level taken : ℕ) → (level % 2 ≡ 0 → ⊥) → unwrap_or (if nat_le taken 500 then Some (500 - taken) else None) 0 ≡ free_by level taken
free-odd level taken other = rest-by taken (nat_le taken 500) refl ∙ sym (odd-by (level % 2) taken other)

-- ---- by the definitions

module _ (ucd : Data) (text : List ℕ) (old v : ViewState) (utf8 : IsUtf8 text) (auto : old.base ≡ Auto) (wide : old.w ≡ 500)
    (keeps : Keeps ucd old v) (at : RowAt) (on : StandsOn ucd v text at (row_of (rows_by ucd v text) 0)) (r : TextRow)
    (is : r ≡ row_at (rows_by ucd v text) (row_of (rows_by ucd v text) 0)) where
  lines : rows_by ucd old text ≡ line_rows ucd text
  lines = ap₂ (λ b w. text_rows ucd b w text) auto wide

  pub first-row-is : r ≡ row_at (line_rows ucd text) 0
  first-row-is =
      is ∙ ap (row_at (rows_by ucd v text)) (first-is-first ucd v text at _ utf8 on)
      ∙ ap (λ rs. row_at rs 0) (rows-kept ucd old v text keeps ∙ lines)

  pub line-cell-is : (cell : Option ℕ) (place level free : ℕ) (gs : List Glyph)
      → cell ≡ (if row_of (rows_by ucd old text) place == 0 then Some (cell_of old.w (rows_by ucd old text) place) else None)
      → gs ≡ line_glyphs ucd text → level ≡ r.row.paragraph → free ≡ free_by level (columns_taken gs)
      → shifted cell free ≡ line_cell ucd text place
  line-cell-is cell place level free gs e glyphs height left =
      let room : free ≡ free_at_left (row_at (line_rows ucd text) 0) (line_glyphs ucd text) =
      left ∙ ap₂ (λ l g. free_by l (columns_taken g)) (height ∙ ap (λ x. x.row.paragraph) first-row-is) glyphs in
      let there : cell ≡ (if row_of (line_rows ucd text) place == 0 then Some (cell_of 500 (line_rows ucd text) place) else None) =
      e ∙ ap₂ (λ w rs. if row_of rs place == 0 then Some (cell_of w rs place) else None) wide lines in
      ap₂ shifted there room
      ∙ shifted-by (row_of (line_rows ucd text) place == 0) (cell_of 500 (line_rows ucd text) place)
      (free_at_left (row_at (line_rows ucd text) 0) (line_glyphs ucd text))
