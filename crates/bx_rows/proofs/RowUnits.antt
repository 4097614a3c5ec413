-- The units of a body, and the starts of all rows once no unit is left.
use Rattle.std.proofs.Common.{◌≡◌, ℕ, ◌+◌, ◌<◌, ◌≤◌, Bool, true, false, nat_lt, List, [], ◌∷◌, map, length, length-append, length-take-le, take}
use Rattle.std.proofs.Common.{slice_range, Option, Some, None, refl, ap, ◌∙◌, arith}
use Rattle.std.specs.Str.{chars, IsUtf8, IsCharBoundary}
use Rattle.std.proofs.lemmas.Str.{chars-nil, chars-append, IsUtf8-take}
use Rattle.bx_ucd.specs.Data.{Data}
use Rattle.unicode_segmentation.proofs.TextLemmas.{take_split}
use Rattle.unicode_segmentation.specs.Grapheme.{graphemes}
use Rattle.unicode_segmentation.specs.Segments.{with_offsets}
use Rattle.bx_rows.specs.declared.cells.unit.Face.TheVariants.{Placeholder, Own}
use Rattle.bx_rows.specs.declared.cells.unit.Unit.{Unit}
use Rattle.bx_rows.specs.cells.Units.{format_letter, sized_face, unit_at, units}
use Rattle.bx_rows.specs.cells.Simple.{own_columns}
use Rattle.bx_rows.specs.cells.SimpleFace.{simple_face}
use Rattle.bx_rows.proofs.cells_lemmas.Rest.{no-cluster, none-behind}
use Rattle.bx_rows.specs.declared.start_search.RowStart.{RowStart}
use Rattle.bx_rows.specs.RowStarts.{start_of, row_starts}
use Rattle.bx_rows.specs.Wrapping.{columns_at, is_break, rows_from, rows_of}
use Rattle.bx_levels.proofs.resolve_lemmas.Small.{few_chars}

one_sized : (w c : ℕ) (b : Bool) → columns_at w c (elim b [ true ↦ Placeholder 35 | false ↦ Own 1 ]) ≡ 1
one_sized w c true = refl
one_sized w c false = refl

one_of : (o : Option ℕ) (w c : ℕ) → columns_at w c (elim o [ Some letter ↦ Placeholder letter | None ↦ sized_face w 1 ]) ≡ 1
one_of (Some letter) w c = refl
one_of None w c = one_sized w c (nat_lt w 1)

-- simple characters of one column take one, whatever their class
pub one-column : (ucd : Data) (w first : ℕ) (k : Bool) → own_columns first ≡ 1 → (c : ℕ) → columns_at w c (simple_face ucd w first k) ≡ 1
one-column ucd w first k e c =
    let o = format_letter ucd (Rattle.std.proofs.Common.cond k None (Some first)) in
    ap (λ n. columns_at w c (elim o [ Some letter ↦ Placeholder letter | None ↦ sized_face w n ])) e ∙ one_of o w c

rows_are : (p : Unit → Bool) (w : ℕ) (us : List Unit) → (us ≡ [] → ⊥) → rows_from p w 0 0 us ≡ rows_of p w us
rows_are p w [] h = absurd (h refl)
rows_are p w (u ∷ us) h = refl

no_units : (ucd : Data) (w : ℕ) (gs : List (List ℕ)) → map (unit_at ucd w) (with_offsets 0 gs) ≡ [] → gs ≡ []
unfolding with_offsets
no_units ucd w [] h = refl
no_units ucd w (g ∷ gs) h = cc

-- the rows of a body that is not empty
pub starts-of-some : (ucd : Data) (w : ℕ) (body : List ℕ) (starts : List RowStart) → IsUtf8 body → 0 < length body
    → starts ≡ map (start_of body (units ucd w body)) (rows_from (is_break ucd body) w 0 0 (units ucd w body)) → starts ≡ row_starts ucd w body
starts-of-some ucd w body starts u some e =
    e ∙ ap (map (start_of body (units ucd w body))) (rows_are (is_break ucd body) w (units ucd w body)
    (λ none. omega (arith, some, ap length (no-cluster body u (no_units ucd w (graphemes true body) none)))))

-- a body of no characters has one row
pub starts-of-none : (ucd : Data) (w : ℕ) (body : List ℕ) → length body ≡ 0 → row_starts ucd w body ≡ record { offset = 0; units = 0; chars = 0 } ∷ []
starts-of-none ucd w body e =
    let none : units ucd w body ≡ [] = none-behind ucd w body 0 (omega (arith, e)) in
    ap (λ us. map (start_of body us) (rows_of (is_break ucd body) w us)) none
    ∙ ap (λ n. record { offset = 0; units = 0; chars = n } ∷ []) (ap length chars-nil)

-- ---- characters

-- the characters before an offset, counted from an earlier one
pub chars-behind : (body : List ℕ) (from to : ℕ) → IsUtf8 body → IsCharBoundary body from → from ≤ to
    → length (chars (take to body)) ≡ length (chars (take from body)) + length (chars (slice_range body from to))
chars-behind body from to u b le =
    ap (λ x. length (chars x)) (take_split body from to le)
    ∙ ap length (chars-append (take from body) (slice_range body from to) (IsUtf8-take body from u b))
    ∙ length-append (chars (take from body)) (chars (slice_range body from to))

pub chars-within : (body : List ℕ) (at : ℕ) → IsUtf8 body → IsCharBoundary body at → length (chars (take at body)) ≤ at
chars-within body at u b = omega (arith, few_chars (take at body) (IsUtf8-take body at u b), length-take-le at body b.0)
