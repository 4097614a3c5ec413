-- A picture's grid: the rows of text that were put, and the status row after them.
use Rattle.std.proofs.Common.{◌≡◌, ℕ, ◌+◌, ◌-◌, ◌*◌, ◌<◌, ◌≤◌, true, false, nat_le, List, [], ◌++◌, length, take, drop, replicate, sym, ap}
use Rattle.std.proofs.Common.{ap₂, ◌∙◌, arith, refl, length-append, length-drop}
use Rattle.std.specs.Prelude.{if◌then◌else◌, IfSome, Option, Some, None}
use Rattle.std.proofs.Math.Nat.{mul-le-mul_right}
use Rattle.std.proofs.lemmas.Bool.Decides.{nat_tests}
use Rattle.std.proofs.lemmas.List.{append-nil, drop_all, length-replicate, take_all, take_at}
use Rattle.bx_grid.specs.Columns.{Col, blank}
use Rattle.bx_grid.specs.Grid.{IsWithin, paste, GridState}
use Rattle.bx_grid.specs.Picture.{PictureState}
use Rattle.bx_document.specs.Shown.{with_rows}
use Rattle.bx_ucd.specs.Data.{Data}
use Rattle.bx_editor.specs.Editor.{Editor, text_height}
use Rattle.bx_editor.specs.InputLines.{input_line_of}
use Rattle.bx_editor.specs.Picture.{with_cursor}
use Rattle.bx_editor.specs.Status.{glyph_row, input_column, row_text, status_columns, status_glyphs, typed_column}
use Rattle.bx_editor.proofs.StatusRow.{last-row}

-- ---- rows that are put into the first rows of a grid

pub drawn-front : (old g : GridState) (shown : List Col) (t : ℕ) → t ≤ old.height → length old.columns ≡ old.height * old.width
    → length g.columns ≡ g.height * g.width → g ≡ record old { columns = shown ++ drop (t * old.width) old.columns } → take (t * g.width) g.columns ≡ shown
drawn-front old g shown t low size later drawn =
    let w = old.width in
    let width : g.width ≡ w = ap (λ (x : GridState). x.width) drawn in
    let columns : g.columns ≡ shown ++ drop (t * w) old.columns = ap (λ (x : GridState). x.columns) drawn in
    let all : g.height * g.width ≡ old.height * w = ap (λ (x : GridState). x.height * x.width) drawn in
    let le : t * w ≤ old.height * w = mul-le-mul_right w low in
    let filled : length shown ≡ t * w =
    omega (arith, later, all, size, le, ap length columns, length-append shown (drop (t * w) old.columns), length-drop (t * w) old.columns) in
    ap₂ (λ k cs. take (t * k) cs) width columns ∙ take_at shown (drop (t * w) old.columns) (t * w) filled

-- ---- the status row

module _ (d : Data) (e : Editor) (g : GridState) (height : g.height ≡ e.height) (width : g.width ≡ e.width)
    (size : length g.columns ≡ g.height * g.width) where
  abbrev With : GridState → Type 0
  With new = new ≡ record g { columns = take (text_height e.height * e.width) g.columns ++ status_columns d e }

  pub some-status : (row : ℕ) (columns : List Col) (new : GridState) → 2 ≤ e.height → row ≡ e.height - 1 → length columns ≡ g.width
      → columns ≡ glyph_row e.width (status_glyphs d e) → new ≡ with_rows g row columns → With new
  some-status row columns new high at wide is step =
      let some : nat_le 2 e.height ≡ true = grind (arith, nat_tests) in
      let rows : text_height e.height ≡ row = ap (λ b. if b then e.height - 1 else 1) some ∙ sym at in
      let own : status_columns d e ≡ columns =
      ap (λ b. if b then glyph_row e.width (status_glyphs d e) else []) some ∙ sym is in
      step ∙ last-row g row columns size (omega (arith, height, at, high)) wide
      ∙ ap (λ w. record g { columns = take (row * w) g.columns ++ columns }) width
      ∙ sym (ap₂ (λ n cs. record g { columns = take (n * e.width) g.columns ++ cs }) rows own)

-- a window of one row has none
pub no-status : (d : Data) (e : Editor) (g : GridState) → g.height ≡ e.height → g.width ≡ e.width → length g.columns ≡ g.height * g.width
    → 1 ≤ e.height → e.height < 2 → g ≡ record g { columns = take (text_height e.height * e.width) g.columns ++ status_columns d e }
no-status d e g height width size some low =
    let one : e.height ≡ 1 = omega (arith, some, low) in
    let few : nat_le 2 e.height ≡ false = grind (arith, nat_tests) in
    let all : length g.columns ≤ text_height e.height * e.width =
    omega (arith, size, ap₂ (λ h w. h * w) (height ∙ one) width, ap (λ b. (if b then e.height - 1 else 1) * e.width) few) in
    sym (ap (λ cs. record g { columns = cs })
    (ap (λ b. take (text_height e.height * e.width) g.columns ++ (if b then glyph_row e.width (status_glyphs d e) else [])) few
    ∙ append-nil (take (text_height e.height * e.width) g.columns) ∙ take_all (text_height e.height * e.width) g.columns all))

-- the column of the cursor in it, which only a window of at least two rows has
pub some-column : (d : Data) (e : Editor) → 2 ≤ e.height → typed_column d e (row_text d e) (input_line_of e) ≡ input_column d e
some-column d e high =
    let some : nat_le 2 e.height ≡ true = grind (arith, nat_tests) in
    sym (ap (λ b. if b then typed_column d e (row_text d e) (input_line_of e) else None) some)

pub no-column : (d : Data) (e : Editor) → e.height < 2 → None ≡ input_column d e
no-column d e low =
    let few : nat_le 2 e.height ≡ false = grind (arith, nat_tests) in
    sym (ap (λ b. if b then typed_column d e (row_text d e) (input_line_of e) else None) few)

-- ---- a page that was made blank

pub all-blank : (g new : GridState) → length g.columns ≡ g.height * g.width → new ≡ with_rows g 0 (replicate ((g.height - 0) * g.width) blank)
    → new ≡ record g { columns = replicate (g.height * g.width) blank }
all-blank g new size step =
    let n = g.height * g.width in
    let none : 0 * g.width ≡ 0 = omega arith in
    let high : (g.height - 0) * g.width ≡ n = let h : g.height - 0 ≡ g.height = omega arith in ap (λ k. k * g.width) h in
    let past : length g.columns ≤ 0 + length (replicate n blank) = omega (arith, size, length-replicate n blank) in
    step
    ∙ ap₂ (λ k m. record g { columns = paste g.columns k (replicate m blank) }) none high
    ∙ ap (λ cs. record g { columns = replicate n blank ++ cs }) (drop_all (0 + length (replicate n blank)) g.columns past)
    ∙ ap (λ cs. record g { columns = cs }) (append-nil (replicate n blank))

-- ---- the picture of a grid and a cursor

-- the cursor is in the last row, in a column of an input line, or in the text
pub cursor-within : (height width line column : ℕ) (typed : Option ℕ) → IfSome typed (λ c. (1 ≤ c) × (c ≤ width))
    → IfSome typed (λ c. (line ≡ height) × (column ≡ c)) → (typed ≡ None → IsWithin height width line column) → 1 ≤ height
    → IsWithin height width line column
cursor-within height width line column None inside is text some = text refl
cursor-within height width line column (Some c) inside is text some =
    record { top = omega (arith, is.0, some); bottom = omega (arith, is.0); left = omega (arith, is.1, inside.0); right = omega (arith, is.1, inside.1) }

-- a picture with a cursor, of which row and column are known
cursor-is : (p : PictureState) (line cell row column : ℕ) → line ≡ row → cell ≡ column
    → record p { row = line - 1; column = cell - 1 } ≡ record p { row = row - 1; column = column - 1 }
cursor-is p line cell row column l c = ap₂ (λ a b. record p { row = a - 1; column = b - 1 }) l c

typed-or-not : (p : PictureState) (line cell row column : ℕ) (typed : Option ℕ)
    → IfSome typed (λ c. (line ≡ p.height) × (cell ≡ c)) → (typed ≡ None → (line ≡ row + 1) × (cell ≡ column))
    → record p { row = line - 1; column = cell - 1 } ≡ with_cursor typed (record p { row = row; column = column - 1 })
typed-or-not p line cell row column None is text =
    let at = text refl in
    let above : row + 1 - 1 ≡ row = omega arith in
    cursor-is p line cell (row + 1) column at.0 at.1 ∙ ap (λ r. record p { row = r; column = column - 1 }) above
typed-or-not p line cell row column (Some c) is text = cursor-is p line cell p.height c is.0 is.1

pub picture-is : (g : GridState) (columns : List Col) (height width row column line cell : ℕ) (typed : Option ℕ) (p : PictureState)
    → p ≡ record { height = g.height; width = g.width; columns = g.columns; row = line - 1; column = cell - 1 }
    → g.height ≡ height → g.width ≡ width → g.columns ≡ columns
    → IfSome typed (λ c. (line ≡ height) × (cell ≡ c)) → (typed ≡ None → (line ≡ row + 1) × (cell ≡ column))
    → p ≡ with_cursor typed (record { height = height; width = width; columns = columns; row = row; column = column - 1 })
picture-is g columns height width row column line cell typed p e h w cs is text =
    e ∙ ap (λ n. record { height = n; width = g.width; columns = g.columns; row = line - 1; column = cell - 1 }) h
    ∙ ap (λ n. record { height = height; width = n; columns = g.columns; row = line - 1; column = cell - 1 }) w
    ∙ ap (λ xs. record { height = height; width = width; columns = xs; row = line - 1; column = cell - 1 }) cs
    ∙ typed-or-not (record { height = height; width = width; columns = columns; row = 0; column = 0 }) line cell row column typed is text
