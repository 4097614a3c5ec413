-- Where a prompt's input line has the cursor, the picture has it at the cell of its place in the status row.
use Rattle.std.proofs.Common.{◌≡◌, ◌≢◌, ◌≤◌, ◌<◌, ℕ, ◌+◌, ◌-◌, nat_le, nat_lt, Bool, true, false, List, [], ◌∷◌, ◌++◌, length, Option, Some, None}
use Rattle.std.proofs.Common.{refl, sym, ap, subst, ◌∙◌, arith, if◌then◌else◌, leb-true, ltb-true}
use Rattle.std.specs.Prelude.{codes, decimal}
use Rattle.std.proofs.lemmas.Bool.{leb-false}
use Rattle.std.proofs.lemmas.List.Sums.{sum_by-cons}
use Rattle.bx_document.specs.InputLine.{ShownLine, column_shown, columns_taken, glyphs_or, input_line, line_cell, line_glyphs, shown_line, shown_with}
use Rattle.bx_editor.specs.Editor.{Editor, rows, text_height}
use Rattle.bx_editor.specs.InputLines.{input_line_of}
use Rattle.bx_editor.specs.Picture.{blank_picture, picture, region_rows, text_picture, with_cursor}
use Rattle.bx_editor.specs.Replacing.{seen}
use Rattle.bx_editor.specs.Status.{input_column, left_side, row_text, status_columns, typed_column, typed_glyphs}
use Rattle.bx_grid.specs.Picture.{PictureState}
use Rattle.bx_rows.specs.RowPicture.{Glyph, letter_glyphs}
use Rattle.bx_ucd.specs.Data.{Data}
use Rattle.bx_view.specs.TextRows.{cell_of, row_of}
use Rattle.bx_view.specs.Top.{shown_rows}
use Rattle.bx_world.specs.InputCursor.{IsShownPart, StandsInLine}

-- ---- the part of a line that is shown

-- a part with a glyph more left out
one_more : (w before : ℕ) (g : Glyph) (gs : List Glyph) (cell : ℕ) (left_out shown : List Glyph) (column : ℕ) → w < before + cell → g.columns < cell
    → IsShownPart w before gs (cell - g.columns) left_out shown column → IsShownPart w before (g ∷ gs) cell (g ∷ left_out) shown column
one_more w before g gs cell left_out shown column full own part = record {
  glyphs = ap (λ xs. g ∷ xs) part.glyphs;
  stands = omega (arith, part.stands, own, taken left_out);
  room = part.room;
  fewest = fewest;
  own = λ some. owns left_out part.own;
} where
  taken : (xs : List Glyph) → columns_taken (g ∷ xs) ≡ g.columns + columns_taken xs
  taken xs = sum_by-cons (λ (x : Glyph). x.columns) g xs

  fewest : (fewer : List Glyph) (h : Glyph) (more : List Glyph) → g ∷ left_out ≡ fewer ++ h ∷ more → w + columns_taken fewer < before + cell
  fewest [] h more is = omega (arith, full)
  fewest (f ∷ fewer) h more is =
      let rest : left_out ≡ fewer ++ h ∷ more = cc is in
      let first : g ≡ f = cc is in
      let few = part.fewest fewer h more rest in
      let all : columns_taken (f ∷ fewer) ≡ g.columns + columns_taken fewer = ap (λ (x : Glyph). columns_taken (x ∷ fewer)) (sym first) ∙ taken fewer in
      omega (arith, few, all, own)

  owns : (xs : List Glyph) → (xs ≢ [] → columns_taken xs < cell - g.columns) → columns_taken (g ∷ xs) < cell
  owns [] h = omega (arith, own, taken [])
  owns (x ∷ xs) h = let less = h (λ e. cc e) in omega (arith, less, own, taken (x ∷ xs))

-- a line of which the cursor has room, whole
whole : (w before : ℕ) (all : List Glyph) (cell : ℕ) → before + cell ≤ w → IsShownPart w before all cell [] all (before + cell)
whole w before all cell fits = record {
  glyphs = refl;
  stands = omega arith;
  room = fits;
  fewest = λ fewer g more is. absurd (none fewer g more is);
  own = λ some. absurd (some refl);
} where
  none : (fewer : List Glyph) (g : Glyph) (more : List Glyph) → [] ≡ fewer ++ g ∷ more → ⊥
  none [] g more is = cc is
  none (f ∷ fewer) g more is = cc is

-- what is left out of a line of which a part is shown
abbrev pub Part : ℕ → ℕ → List Glyph → ℕ → ShownLine → Type 0
Part w before all cell s = (left_out : List Glyph) × IsShownPart w before all cell left_out s.glyphs s.column

whole_is : (w before : ℕ) (all : List Glyph) (cell : ℕ) (s : ShownLine) → before + cell ≤ w
    → Some (record { glyphs = all; column = before + cell }) ≡ Some s → Part w before all cell s
whole_is w before all cell s fits is =
    let same : record { glyphs = all; column = before + cell } ≡ s = cc is in
    subst (Part w before all cell) same ([], whole w before all cell fits)

pub shown_part : (w before : ℕ) (all : List Glyph) (cell : ℕ) (s : ShownLine) → shown_line w before all cell ≡ Some s → Part w before all cell s
shown_part w before [] cell s = by (nat_le (before + cell) w) refl where
  by : (fits : Bool) → nat_le (before + cell) w ≡ fits
      → (if fits then Some (record { glyphs = []; column = before + cell }) else None) ≡ Some s → Part w before [] cell s
  by true fits is = whole_is w before [] cell s (leb-true (before + cell) w fits) is
  by false none is = absurd (cc is)
shown_part w before (g ∷ gs) cell s = by (nat_le (before + cell) w) refl (nat_lt g.columns cell) refl (shown_part w before gs (cell - g.columns) s) where
  by : (fits : Bool) → nat_le (before + cell) w ≡ fits → (behind : Bool) → nat_lt g.columns cell ≡ behind
      → (shown_line w before gs (cell - g.columns) ≡ Some s → Part w before gs (cell - g.columns) s)
      → (if fits
      then Some (record { glyphs = g ∷ gs; column = before + cell })
      else if behind then shown_line w before gs (cell - g.columns) else None)
      ≡ Some s
      → Part w before (g ∷ gs) cell s
  by true fits behind own rest is = whole_is w before (g ∷ gs) cell s (leb-true (before + cell) w fits) is
  by false full true own rest is =
      let part = rest is in
      (g ∷ part.0, one_more w before g gs cell part.0 s.glyphs s.column (leb-false (before + cell) w full) (ltb-true g.columns cell own) part.1)
  by false full false own rest is = absurd (cc is)

-- ---- the cursor in the status row

-- the words of the row are there
some_words : (d : Data) (e : Editor) → 1 ≤ length (row_text d e)
some_words d e = by e.changed _ _ _ where
  by : (changed : Bool) (unit others more : List ℕ) → 1 ≤ length ((((if changed then codes "* " else codes "- ") ++ unit) ++ others) ++ more)
  by true unit others more = omega arith
  by false unit others more = omega arith

-- a cursor behind other columns is in no first column
behind_some : (w before : ℕ) (all : List Glyph) (cell : ℕ) (left_out shown : List Glyph) (column : ℕ) → 1 ≤ before
    → IsShownPart w before all cell left_out shown column → 1 ≤ column
behind_some w before all cell [] shown column some part = let is : column + 0 ≡ before + cell = part.stands in omega (arith, is, some)
behind_some w before all cell (g ∷ left_out) shown column some part =
    let own = part.own (λ e. cc e) in omega (arith, part.stands, own, some)

-- the picture of an editor that has not ended, with the cursor in this column of the status row
record IsLast (p : PictureState) (height column : ℕ) : Type 0 where
  pub row : p.row ≡ height - 1
  pub column_is : p.column ≡ column - 1

in_last_row : (d : Data) (e : Editor) (top column : ℕ) → e.ended ≡ false → input_column d e ≡ Some column → IsLast (picture d e top) e.height column
in_last_row d e top column on is =
    let under : PictureState = record {
      height = e.height;
      width = e.width;
      columns = region_rows d e.width (seen d e) (text_height e.height) (shown_rows (rows d e) top (text_height e.height)) ++ status_columns d e;
      row = row_of (rows d e) e.place - row_of (rows d e) top;
      column = cell_of e.width (rows d e) e.place - 1;
    } in
    subst (λ (p : PictureState). IsLast p e.height column)
    (ap (λ ended. if ended then blank_picture e.height e.width else text_picture d e top (rows d e)) (sym on))
    (subst (λ (c : Option ℕ). IsLast (with_cursor c under) e.height column) (sym is) (record { row = refl; column_is = refl }))

-- the column of a cursor in the input line behind a text
record IsTyped (d : Data) (e : Editor) (text : List ℕ) (column : ℕ) : Type 0 where
  pub line : List ℕ
  pub cell : ℕ
  pub s : ShownLine
  pub is_line : input_line_of e ≡ Some line
  pub is_cell : line_cell d line e.input_cursor ≡ Some cell
  pub is_shown : input_line d e.width (length text) line e.input_cursor ≡ Some s
  pub is_part : shown_line e.width (length text) (line_glyphs d line) cell ≡ Some s
  pub column_is : s.column ≡ column

typed_is : (d : Data) (e : Editor) (text : List ℕ) (column : ℕ) → typed_column d e text (input_line_of e) ≡ Some column → IsTyped d e text column
typed_is d e text column = by_line (input_line_of e) refl where
  by_cell : (line : List ℕ) → input_line_of e ≡ Some line → (s : ShownLine) → input_line d e.width (length text) line e.input_cursor ≡ Some s
      → s.column ≡ column → (cell : Option ℕ) → line_cell d line e.input_cursor ≡ cell
      → shown_with e.width (length text) (line_glyphs d line) cell ≡ Some s → IsTyped d e text column
  by_cell line is s shown column_is None is_cell part = absurd (cc part)
  by_cell line is s shown column_is (Some cell) is_cell part = record {
    line = line;
    cell = cell;
    s = s;
    is_line = is;
    is_cell = is_cell;
    is_shown = shown;
    is_part = part;
    column_is = column_is;
  }

  by_shown : (line : List ℕ) → input_line_of e ≡ Some line → (s : Option ShownLine) → input_line d e.width (length text) line e.input_cursor ≡ s
      → column_shown s ≡ Some column → IsTyped d e text column
  by_shown line is None shown found = absurd (cc found)
  by_shown line is (Some s) shown found = by_cell line is s shown (cc found) (line_cell d line e.input_cursor) refl shown

  by_line : (line : Option (List ℕ)) → input_line_of e ≡ line → typed_column d e text line ≡ Some column → IsTyped d e text column
  by_line None is found = absurd (cc found)
  by_line (Some line) is found = by_shown line is (input_line d e.width (length text) line e.input_cursor) refl found

-- only a window of two rows has a status row
two_rows : (d : Data) (e : Editor) (column : ℕ) → input_column d e ≡ Some column
    → (2 ≤ e.height) × (typed_column d e (row_text d e) (input_line_of e) ≡ Some column)
two_rows d e column = by (nat_le 2 e.height) refl where
  by : (two : Bool) → nat_le 2 e.height ≡ two → (if two then typed_column d e (row_text d e) (input_line_of e) else None) ≡ Some column
      → (2 ≤ e.height) × (typed_column d e (row_text d e) (input_line_of e) ≡ Some column)
  by true two is = (leb-true 2 e.height two, is)
  by false two is = absurd (cc is)

pub stands_in_line : (d : Data) (e : Editor) (top column : ℕ) → e.ended ≡ false → input_column d e ≡ Some column
    → StandsInLine d e (picture d e top)
stands_in_line d e top column on is =
    let text : List ℕ = row_text d e in
    let two = two_rows d e column is in
    let typed = typed_is d e text column two.1 in
    let part = shown_part e.width (length text) (line_glyphs d typed.line) typed.cell typed.s typed.is_part in
    let p : PictureState = picture d e top in
    let last = in_last_row d e top column on is in
    let some = behind_some e.width (length text) (line_glyphs d typed.line) typed.cell part.0 typed.s.glyphs typed.s.column (some_words d e) part.1 in
    let there : typed.s.column ≡ p.column + 1 = omega (arith, some, last.column_is, typed.column_is) in record {
      line = typed.line;
      cell = typed.cell;
      left_out = part.0;
      shown = typed.s.glyphs;
      is_line = typed.is_line;
      is_cell = typed.is_cell;
      part = subst (IsShownPart e.width (length text) (line_glyphs d typed.line) typed.cell part.0 typed.s.glyphs) there part.1;
      words = ap (λ (l : Option (List ℕ)). letter_glyphs text ++ typed_glyphs d e text l) typed.is_line
          ∙ ap (λ (s : Option ShownLine). letter_glyphs text ++ glyphs_or (line_glyphs d typed.line) s) typed.is_shown;
      some = two.0;
      row = omega (arith, last.row, two.0);
    }
