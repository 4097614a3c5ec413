-- Columns that are all blanks, by the test of each.
use Rattle.std.proofs.Common.{◌≡◌, ◌↔◌, ℕ, ◌+◌, ◌*◌, ◌-◌, ◌≤◌, Bool, true, IsTrue, List, [], ◌∷◌, length, take, drop, replicate, arith, zero, suc, refl, ap}
use Rattle.std.proofs.Common.{sym, ◌∙◌}
use Rattle.std.specs.List.{list_all}
use Rattle.bx_grid.specs.Columns.{Col, blank, is_blank}
use Rattle.bx_grid.specs.Seen.{seen, all_seen}
use Rattle.bx_grid.specs.declared.column.Column.{Column}
use Rattle.std.proofs.lemmas.List.{drop-map, length-drop, length-map, length-take-le, take-map}
use Rattle.bx_grid.specs.Grid.{GridState, HasRoom, IsGrid, IsWithin}
use Rattle.bx_grid.proofs.Grids.{span_inside}
use Rattle.bx_grid.proofs.Plain.{blank_is}
use Rattle.bx_grid.proofs.Reading.{and_left, and_right}

pub blanks_are : (xs : List Col) → list_all is_blank xs ≡ true → xs ≡ replicate (length xs) blank
blanks_are [] h = refl
blanks_are (x ∷ xs) h =
    let is : x ≡ blank = blank_is x (and_left (is_blank x) (list_all is_blank xs) h) in
    ap (λ y. y ∷ xs) is ∙ ap (λ ys. blank ∷ ys) (blanks_are xs (and_right (is_blank x) (list_all is_blank xs) h))

pub blanks_pass : (n : ℕ) → list_all is_blank (replicate n blank) ≡ true
blanks_pass zero = refl
blanks_pass (suc n) = blanks_pass n

pub blanks_told : (r : Bool) (columns : List Column) → r ≡ list_all is_blank (all_seen columns)
    → IsTrue r ↔ (all_seen columns ≡ replicate (length columns) blank)
blanks_told r columns e = (
  λ t. blanks_are (all_seen columns) (sym e ∙ t) ∙ ap (λ n. replicate n blank) (length-map columns seen),
  λ h. e ∙ ap (list_all is_blank) h ∙ blanks_pass (length columns),
)

-- ---- room for a glyph

span_seen : (index count : ℕ) (items : List Column) → all_seen (take (index + count - index) (drop index items)) ≡ take count (drop index (all_seen items))
span_seen index count items =
    let e : index + count - index ≡ count = omega arith in
    ap (λ n. all_seen (take n (drop index items))) e ∙ sym (take-map seen count (drop index items)) ∙ ap (take count) (sym (drop-map seen index items))

span_length : (index count : ℕ) (items : List Column) → index + count ≤ length items → length (take (index + count - index) (drop index items)) ≡ count
span_length index count items fits =
    let e : index + count - index ≡ count = omega arith in
    ap (λ n. length (take n (drop index items))) e ∙ length-take-le count (drop index items) (omega (arith, length-drop index items))

-- the test of the columns of a span is that of the room there
pub room_told : (r : Bool) (g : GridState) (items : List Column) (line column count : ℕ) → g.columns ≡ all_seen items → IsGrid g.height g.width g.columns
    → IsWithin g.height g.width line column
    → column - 1 + count ≤ g.width
    → let index = (line - 1) * g.width + (column - 1) in let span = take (index + count - index) (drop index items) in
    (IsTrue r ↔ (all_seen span ≡ replicate (length span) blank)) → IsTrue r ↔ HasRoom g line column count
room_told r g items line column count seen_as is inside fits told =
    let index = (line - 1) * g.width + (column - 1) in
    let len : length items ≡ length g.columns = sym (length-map items seen) ∙ ap length (sym seen_as) in
    let there : index + count ≤ length items =
    omega (arith, len, span_inside (line - 1) (column - 1) count g.height g.width (length g.columns) is.sized.each (omega (arith, inside)) fits) in
    let now : all_seen (take (index + count - index) (drop index items)) ≡ take count (drop index g.columns) = span_seen index count items
    ∙ ap (λ cs. take count (drop index cs)) (sym seen_as) in
    let many = ap (λ n. replicate n blank) (span_length index count items there) in (
      λ t. record { fits = fits; blank = sym now ∙ told.0 t ∙ many },
      λ h. told.1 (now ∙ h.blank ∙ sym many),
    )
