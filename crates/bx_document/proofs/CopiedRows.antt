-- Cached rows and their columns.
use Rattle.std.proofs.Common.{◌≡◌, ℕ, List, [], length, get_or, sym, ap, subst, ◌∙◌}
use Rattle.std.specs.Prelude.{HoldsAt}
use Rattle.bx_common.specs.declared.base.Base.{Base}
use Rattle.bx_grid.specs.Grid.{GridState}
use Rattle.bx_paragraph.specs.BodyRows.{BodyRow, body_rows, row_at}
use Rattle.bx_document.specs.Cache.{AreDrawnBy, EntryState, HoldsRow, IsDrawnBy, IsRowOf, numbered_row_columns}
use Rattle.bx_ucd.specs.Data.{Data}
use Rattle.bx_document.specs.Drawing.{body_row_columns}
use Rattle.bx_document.specs.Shown.{with_rows}

-- a grid of row `k` of a body alone, `w` columns wide
pub record IsOfRow (d : Data) (text : List ℕ) (direction : Base) (k w : ℕ) (grid : GridState) : Type 0 where
  pub one : grid.height ≡ 1
  pub wide : grid.width ≡ w
  pub are : grid.columns ≡ numbered_row_columns d text direction k w

is_row : (d : Data) (text : List ℕ) (direction : Base) (k w : ℕ) (r : EntryState) → IsDrawnBy d r → IsRowOf text direction k w r
    → IsOfRow d text direction k w r.grid
is_row d text direction k w r by of = record {
  one = ap (λ (g : GridState). g.height) by.grid_is;
  wide = of.width_is;
  are = ap (λ (g : GridState). g.columns) by.grid_is
      ∙ ap (λ body. numbered_row_columns d body r.base r.number r.grid.width) of.body_is
      ∙ ap (λ base. numbered_row_columns d text base r.number r.grid.width) of.base_is
      ∙ ap (λ n. numbered_row_columns d text direction n r.grid.width) of.number_is
      ∙ ap (numbered_row_columns d text direction k) of.width_is;
}

-- the grid of a cached row
found : (d : Data) (text : List ℕ) (direction : Base) (k w : ℕ) (rows : List EntryState) (i : ℕ) (grid : GridState) → AreDrawnBy d rows
    → HoldsRow text direction k w rows i → HoldsAt (λ r. grid ≡ r.grid) rows i → IsOfRow d text direction k w grid
found d text direction k w rows i grid all h e =
    let empty : GridState = record { height = 0; width = 0; columns = [] } in
    let none : EntryState = record { body = []; base = direction; number = 0; grid = empty } in
    let r = get_or rows i none in
    subst (IsOfRow d text direction k w) (sym (e none)) (is_row d text direction k w r (all i none h.within) (h.is none))

-- a row to be cached
kept_by : (d : Data) (text : List ℕ) (direction : Base) (k w : ℕ) (grid : GridState) → IsOfRow d text direction k w grid
    → IsDrawnBy d (record { body = text; base = direction; number = k; grid = grid })
kept_by d text direction k w grid h = record {
  grid_is = ap (λ n. record { height = n; width = grid.width; columns = grid.columns }) h.one
      ∙ ap (λ cs. record { height = 1; width = grid.width; columns = cs }) (h.are ∙ ap (numbered_row_columns d text direction k) (sym h.wide));
}

-- ---- as a row of the text is found, under the base direction of a view and in its columns

module _ (d : Data) (text : List ℕ) (direction base : Base) (k w width : ℕ) (r : BodyRow)
    (told : r ≡ row_at (body_rows d direction w text) k) (based : base ≡ direction) (sized : width ≡ w) where
  numbered : body_row_columns d w r ≡ numbered_row_columns d text base k width
  unfolding numbered_row_columns
  numbered =
      ap (body_row_columns d w) told ∙ sym (ap (λ n. numbered_row_columns d text direction k n) sized)
      ∙ sym (ap (λ b. numbered_row_columns d text b k width) based)

  module _ (rows : List EntryState) (i : ℕ) (grid : GridState) (all : AreDrawnBy d rows) (h : HoldsRow text base k width rows i)
      (e : HoldsAt (λ x. grid ≡ x.grid) rows i) where
    is : IsOfRow d text base k width grid
    is = found d text base k width rows i grid all h e

    pub found_one : grid.height ≡ 1
    found_one = is.one

    pub found_wide : grid.width ≡ w
    found_wide = is.wide ∙ sized

    same : grid.columns ≡ body_row_columns d w r
    same = is.are ∙ sym numbered

    -- the row fills the window
    pub found_fills : length grid.columns ≡ w → length (body_row_columns d w r) ≡ w
    found_fills full = ap length (sym same) ∙ full

    -- the row's columns are put into the grid
    pub found_put : (old later : GridState) (row : ℕ) → later ≡ with_rows old row grid.columns → later ≡ with_rows old row (body_row_columns d w r)
    found_put old later row step = step ∙ ap (with_rows old row) same

  -- a newly drawn row can be cached
  pub drawn_kept : (new : GridState) → new.height ≡ 1 → new.width ≡ w → new.columns ≡ body_row_columns d w r
      → IsDrawnBy d (record { body = text; base = base; number = k; grid = new })
  drawn_kept new one wide e = kept_by d text base k width new (record { one = one; wide = wide ∙ sym sized; are = e ∙ numbered })
