-- Grids: their sizes, a grid of blanks, and the invariant after putting one more glyph.
use Rattle.std.proofs.Common.{◌≡◌, ℕ, ◌+◌, ◌*◌, ◌-◌, ◌<◌, ◌≤◌, Bool, true, List, [], ◌∷◌, ◌++◌, length, map, take, drop, set, get_or, replicate}
use Rattle.std.proofs.Common.{zero, suc, refl, subst, ap, sym, ◌∙◌, append_assoc, arith}
use Rattle.std.specs.Str.{IsUtf8}
use Rattle.std.proofs.lemmas.List.{get_or-map, map-set, set_at, drop_more, length-take-le, length-replicate, take-append-drop, take-map, drop-map}
use Rattle.std.proofs.lemmas.Bool.Decides.{nat_tests}
use Rattle.std.proofs.Math.Nat.{mul-le-mul_right}
use Rattle.bx_grid.specs.Columns.{Col, Glyph, blank, run_columns}
use Rattle.bx_common.specs.Glyphs.{run_width}
use Rattle.bx_grid.specs.Grid.{paste, AreBlank, GridState, HasRoom, IsGrid, IsWithin}
use Rattle.bx_common.specs.Glyphs.{is_one_glyph}
use Rattle.bx_grid.specs.Glyphs.{WholeGlyph, IsGlyph, whole_columns}
use Rattle.bx_grid.specs.Codes.{code_of, codes_of, blank_code}
use Rattle.bx_grid.specs.Seen.{seen, all_seen}
use Rattle.bx_grid.specs.declared.column.Column.{Column}
use Rattle.bx_common.specs.Characters.{is_side, largest_side}
use Rattle.bx_grid.proofs.Pasted.{length-paste, rows_paste}
use Rattle.bx_grid.proofs.Puts.{run_length, narrow_columns}
use Rattle.bx_grid.proofs.Whole.{rows-blank, columns_some, whole_glyph}

pub set_is_paste : (xs : List Col) (k : ℕ) (y : Col) → k < length xs → set xs k y ≡ paste xs k (y ∷ [])
set_is_paste xs k y h =
    let front : length (take k xs) ≡ k = length-take-le k xs (omega arith) in
    ap (λ ys. set ys k y) (sym (take-append-drop k xs) ∙ ap (λ d. take k xs ++ d) (drop_more xs k y h))
    ∙ set_at (take k xs) (get_or xs k y) (drop (k + 1) xs) y k front
    ∙ sym (append_assoc (take k xs) (y ∷ []) (drop (k + 1) xs))

pub same_at : (xs ys : List Column) (i : ℕ) (x y : Column) → i < length xs → i < length ys → x ≡ get_or xs i x → y ≡ get_or ys i y
    → map seen xs ≡ map seen ys → seen x ≡ seen y
same_at xs ys i x y inside inside' at at' e =
    ap seen at ∙ sym (get_or-map seen xs i x (seen y) inside) ∙ ap (λ l. get_or l i (seen y)) e ∙ get_or-map seen ys i y (seen y) inside' ∙ ap seen (sym at')

pub set_seen : (items : List Column) (k : ℕ) (x : Column) (y : Col) → seen x ≡ y → k < length (all_seen items)
    → all_seen (set items k x) ≡ paste (all_seen items) k (y ∷ [])
set_seen items k x y is inside =
    map-set seen items k x ∙ set_is_paste (all_seen items) k (seen x) inside ∙ ap (λ z. paste (all_seen items) k (z ∷ [])) is

-- some columns of a row are among the grid's
pub span_inside : (r k n h w all : ℕ) → all ≡ h * w → r < h → k + n ≤ w → r * w + k + n ≤ all
span_inside r k n h w all e low left = omega (arith, e, mul-le-mul_right w (let below : r + 1 ≤ h = omega arith in below))

pub record IsSide (n : ℕ) : Type 0 where
  pub low : 1 ≤ n
  pub high : n ≤ largest_side

pub side_is : (n : ℕ) → is_side n ≡ true → IsSide n
side_is n h = record { low = grind (arith, nat_tests); high = grind (arith, nat_tests) }

pub sized_blanks : (h w : ℕ) (columns : List Col) → is_side h ≡ true → is_side w ≡ true
    → columns ≡ replicate (h * w) blank → IsGrid h w columns
sized_blanks h w columns tall wide e =
    let t = side_is h tall in
    let u = side_is w wide in
    record {
      sized = record { low = t.low; high = t.high; narrow = u.low; wide = u.high; each = ap length e ∙ length-replicate (h * w) blank };
      rows = rw e (rows-blank h w);
    }

-- a glyph may be put there
pub record CanPut (g : GridState) (line column : ℕ) (text : List ℕ) : Type 0 where
  pub inside : IsWithin g.height g.width line column
  pub glyph : is_one_glyph text ≡ true
  pub utf8 : IsUtf8 text
  pub room : HasRoom g line column (run_width text)

pub can_along : (g old : GridState) (line column : ℕ) (text : List ℕ) → g ≡ old → CanPut old line column text → CanPut g line column text
can_along g old line column text e can = subst (λ (x : GridState). CanPut x line column text) (sym e) can

-- a glyph of one column, put by its column
pub narrow_seen : (g : GridState) (items : List Column) (x : Column) (line column : ℕ) (text : List ℕ) (negative : Bool) → g.columns ≡ all_seen items
    → seen x ≡ Glyph text 1 0 negative → run_width text ≡ 1 → IsGrid g.height g.width g.columns → CanPut g line column text
    → all_seen (set items ((line - 1) * g.width + (column - 1)) x) ≡ paste g.columns ((line - 1) * g.width + (column - 1)) (run_columns negative text)
narrow_seen g items x line column text negative seen_as one narrow is can =
    let r = line - 1 in
    let k = column - 1 in
    let y : Col = Glyph text 1 0 negative in
    let below : r < g.height = omega (arith, can.inside) in
    let room : k + 1 ≤ g.width = omega (arith, can.inside) in
    let fits : r * g.width + k + 1 ≤ length g.columns = span_inside r k 1 g.height g.width (length g.columns) is.sized.each below room in
    set_seen items (r * g.width + k) x y one (omega (arith, ap length seen_as))
    ∙ ap (λ cs. paste cs (r * g.width + k) (y ∷ [])) (sym seen_as)
    ∙ ap (paste g.columns (r * g.width + k)) (sym (narrow_columns negative text narrow))

pub put_kept : (g : GridState) (line column : ℕ) (text : List ℕ) (negative : Bool) → IsGrid g.height g.width g.columns → CanPut g line column text
    → IsGrid g.height g.width (paste g.columns ((line - 1) * g.width + (column - 1)) (run_columns negative text))
put_kept g line column text negative is can =
    let r = line - 1 in
    let k = column - 1 in
    let glyph : WholeGlyph = record { text = text; negative = negative } in
    let one : IsGlyph glyph = record { utf8 = can.utf8; one = can.glyph } in
    let news : List Col = whole_columns glyph in
    let len : length news ≡ run_width text = run_length negative text in
    let below : r < g.height = omega (arith, can.inside) in
    let room : k + length news ≤ g.width = omega (arith, can.room.fits, len) in
    let blanks : AreBlank (r * g.width + k) (length news) g.columns = rw len can.room.blank in
    let fits : r * g.width + k + length news ≤ length g.columns = span_inside r k (length news) g.height g.width (length g.columns) is.sized.each below room in
    record {
      sized = record {
        low = is.sized.low;
        high = is.sized.high;
        narrow = is.sized.narrow;
        wide = is.sized.wide;
        each = length-paste g.columns news (r * g.width + k) fits ∙ is.sized.each;
      };
      rows = rows_paste g.height g.width r k g.columns news is.sized.each below room (columns_some glyph one) blanks (whole_glyph glyph one) is.rows;
    }

-- ---- the codes of a grid, and a row of it

codes_of_blanks : (n : ℕ) → codes_of (replicate n blank) ≡ replicate n blank_code
codes_of_blanks zero = refl
codes_of_blanks (suc n) = ap (λ ls. blank_code ∷ ls) (codes_of_blanks n)

pub blank_codes : (codes : List ℕ) (columns : List Col) (n : ℕ) → codes ≡ replicate n blank_code → columns ≡ replicate n blank → codes ≡ codes_of columns
blank_codes codes columns n e f = e ∙ sym (codes_of_blanks n) ∙ sym (ap codes_of f)

pub row_seen : (row width : ℕ) (columns : List Column) → all_seen (take (row * width + width - row * width) (drop (row * width) columns))
    ≡ take width (drop (row * width) (all_seen columns))
row_seen row width columns =
    let e : row * width + width - row * width ≡ width = omega arith in
    ap (λ n. all_seen (take n (drop (row * width) columns))) e ∙ sym (take-map seen width (drop (row * width) columns))
    ∙ ap (take width) (sym (drop-map seen (row * width) columns))

part_codes : (count from : ℕ) (columns : List Col) (codes : List ℕ) → codes ≡ codes_of columns
    → take count (drop from codes) ≡ codes_of (take count (drop from columns))
part_codes count from columns codes e =
    ap (λ ls. take count (drop from ls)) e ∙ ap (take count) (drop-map code_of from columns) ∙ take-map code_of count (drop from columns)

pub row_codes : (count from : ℕ) (columns : List Column) (codes : List ℕ) → codes ≡ codes_of (all_seen columns)
    → take count (drop from codes) ≡ codes_of (all_seen (take count (drop from columns)))
row_codes count from columns codes e =
    part_codes count from (all_seen columns) codes e
    ∙ ap codes_of (ap (take count) (drop-map seen from columns) ∙ take-map seen count (drop from columns))

pub put_fits : (g : GridState) (line column : ℕ) (text : List ℕ) (n : ℕ) → IsGrid g.height g.width g.columns → CanPut g line column text → n ≡ run_width text
    → (line - 1) * g.width + (column - 1) + n ≤ length g.columns
put_fits g line column text n is can e =
    span_inside (line - 1) (column - 1) n g.height g.width (length g.columns) is.sized.each (omega (arith, can.inside)) (omega (arith, can.room.fits, e))

pub code_set : (items : List Column) (codes : List ℕ) (x : Column) (y : Col) (k code : ℕ) → code ≡ code_of y → seen x ≡ y → codes ≡ codes_of (all_seen items)
    → set codes k code ≡ codes_of (all_seen (set items k x))
code_set items codes x y k code e one h =
    ap (λ l. set codes k l) (e ∙ ap code_of (sym one)) ∙ ap (λ ls. set ls k (code_of (seen x))) h
    ∙ sym (map-set code_of (all_seen items) k (seen x))
    ∙ ap codes_of (sym (map-set seen items k x))
