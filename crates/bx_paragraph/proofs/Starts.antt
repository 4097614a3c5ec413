-- The rows of a body begin at its row starts.
use Rattle.std.proofs.Common.{◌≡◌, ℕ, zero, suc, ◌+◌, ◌-◌, ◌<◌, ◌≤◌, ◌==◌, nat_lt, nat_le, Bool, true, false, List, [], ◌∷◌, length, map, take, drop, Option}
use Rattle.std.proofs.Common.{Some, None, refl, sym, ap, ◌∙◌, arith, leb-true, get_or}
use Rattle.std.specs.Prelude.{⊤, chars}
use Rattle.std.specs.List.{list_any}
use Rattle.std.proofs.lemmas.Bool.{and_parts}
use Rattle.std.proofs.lemmas.Bool.Decides.{leb_tells}
use Rattle.std.proofs.lemmas.List.{get_or-map, length-map}
use Rattle.std.proofs.Math.ListN.{get_or-map as get_or-map-all}
use Rattle.bx_ucd.specs.Data.{Data}
use Rattle.unicode_segmentation.specs.Grapheme.{graphemes}
use Rattle.unicode_segmentation.specs.Segments.{with_offsets}
use Rattle.bx_common.specs.Characters.{is_control, is_side, largest_side}
use Rattle.bx_common.specs.declared.base.Base.{Base}
use Rattle.bx_levels.specs.resolve.Levels.{paragraph_level_under, levels_under}
use Rattle.bx_rows.specs.declared.cells.unit.Face.TheVariants.{Tab, Placeholder, Own}
use Rattle.bx_rows.specs.declared.cells.unit.Unit.{Unit}
use Rattle.bx_rows.specs.cells.Units.{columns_of, face_of, format_letter, is_tab, only_char, sized_face, unit_at, units}
use Rattle.bx_rows.specs.declared.start_search.RowStart.{RowStart}
use Rattle.bx_rows.specs.RowStarts.{first_offset, row_starts, start_of}
use Rattle.bx_rows.specs.Wrapping.{columns_at, fit_count, is_break, row_len, row_units, rows_from, rows_of, up_to_break, up_to_last, wrap}
use Rattle.bx_paragraph.specs.BodyRows.{body_rows, falls_in, first_of, no_row, row_at, row_with, with_last}
use Rattle.bx_paragraph.specs.Layout.{row_of, IsLayoutBy, LayoutState, OfRows, rows_by}
use Rattle.bx_rows.proofs.Wraps.{fit_cons}

-- ---- each face fits at the left edge

sized-fits : (w n : ℕ) (a b : Bool) → 1 ≤ w → nat_lt w n ≡ b
    → columns_at w 0 (elim a [ true ↦ Placeholder 126 | false ↦ elim b [ true ↦ Placeholder 35 | false ↦ Own n ] ]) ≤ w
sized-fits w n true b h e = h
sized-fits w n false true h e = h
sized-fits w n false false h e = grind (arith, leb_tells)

letter-fits : (w n : ℕ) (o : Option ℕ) → 1 ≤ w → columns_at w 0 (elim o [ Some letter ↦ Placeholder letter | None ↦ sized_face w n ]) ≤ w
letter-fits w n None h = sized-fits w n (n == 0) (nat_lt w n) h refl
letter-fits w n (Some letter) h = h

control-fits : (w n : ℕ) (b : Bool) (o : Option ℕ) → 1 ≤ w
    → columns_at w 0 (elim b [ true ↦ Placeholder 63 | false ↦ elim o [ Some letter ↦ Placeholder letter | None ↦ sized_face w n ] ]) ≤ w
control-fits w n true o h = h
control-fits w n false o h = letter-fits w n o h

tab-fits : (w n : ℕ) (a b : Bool) (o : Option ℕ) → 1 ≤ w → columns_at w 0 (elim a [
  | true ↦ Tab
  | false ↦ elim b [ true ↦ Placeholder 63 | false ↦ elim o [ Some letter ↦ Placeholder letter | None ↦ sized_face w n ] ]
]) ≤ w
tab-fits w n true b o h = omega arith
tab-fits w n false b o h = control-fits w n b o h

pub face-fits : (ucd : Data) (w : ℕ) (cs : List ℕ) → 1 ≤ w → columns_at w 0 (face_of ucd w cs) ≤ w
face-fits ucd w cs h = tab-fits w (columns_of cs) (is_tab (only_char cs)) (list_any is_control cs) (format_letter ucd (only_char cs)) h

abbrev pub AllFit : ℕ → List Unit → Type 0
AllFit w [] = ⊤
AllFit w (u ∷ us) = (columns_at w 0 u.face ≤ w) × AllFit w us

all-fit : (ucd : Data) (w at : ℕ) (gs : List (List ℕ)) → 1 ≤ w → AllFit w (map (unit_at ucd w) (with_offsets at gs))
unfolding with_offsets
all-fit ucd w at [] h = tt
all-fit ucd w at (g ∷ gs) h = (face-fits ucd w (chars g) h, all-fit ucd w (at + length g) gs h)

pub units-fit : (ucd : Data) (w : ℕ) (body : List ℕ) → 1 ≤ w → AllFit w (units ucd w body)
units-fit ucd w body h = all-fit ucd w 0 (graphemes true body) h

-- ---- so each row has a unit

break-one : (n m : ℕ) → 1 ≤ n → 1 ≤ elim m [ zero ↦ n | suc k ↦ suc k ]
break-one n zero h = h
break-one n (suc k) h = omega arith

len-one : (b : Bool) (n m : ℕ) → 1 ≤ n → 1 ≤ m → 1 ≤ elim b [ true ↦ n | false ↦ m ]
len-one true n m h k = h
len-one false n m h k = k

pub some-unit : (p : Unit → Bool) (w : ℕ) (u : Unit) (us : List Unit) → 1 ≤ w → columns_at w 0 u.face ≤ w → 1 ≤ row_len p w (u ∷ us)
some-unit p w u us h fits =
    let n = fit_count w (u ∷ us) in
    let one : 1 ≤ n = omega (arith, fit_cons w 0 u us h (omega (arith, fits))) in
    len-one (n == length (u ∷ us)) n (up_to_break p n (u ∷ us)) one (break-one n (up_to_last p (take n (u ∷ us))) one)

-- ---- where the rows begin

first-taken : (n : ℕ) (us : List Unit) → 1 ≤ n → first_offset (take n us) ≡ first_offset us
first-taken zero us h = absurd (omega (arith, h))
first-taken (suc n) [] h = refl
first-taken (suc n) (u ∷ us) h = refl

first-row : (i n : ℕ) (all : List Unit) → 1 ≤ n → first_offset (row_units all (record { start = i; stop = i + n })) ≡ first_offset (drop i all)
first-row i n all h = let whole : i + n - i ≡ n = omega arith in ap (λ k. first_offset (take k (drop i all))) whole ∙ first-taken n (drop i all) h

firsts-from : (p : Unit → Bool) (w i k : ℕ) (body : List ℕ) (us all : List Unit) → 1 ≤ w → AllFit w us
    → map first_offset (map (row_units all) (rows_from p w i k us)) ≡ map (λ s. s.offset) (map (start_of body all) (rows_from p w i k us))
firsts-from p w i k body [] all h fit = refl
firsts-from p w i (suc k) body (u ∷ us) all h fit = firsts-from p w (suc i) k body us all h fit.1
firsts-from p w i zero body (u ∷ us) all h fit =
    let n = row_len p w (u ∷ us) in
    ap (λ o. o ∷ map first_offset (map (row_units all) (rows_from p w (suc i) (n - 1) us))) (first-row i n all (some-unit p w u us h fit.0))
    ∙ ap (λ os. first_offset (drop i all) ∷ os) (firsts-from p w (suc i) (n - 1) body us all h fit.1)

firsts-of : (p : Unit → Bool) (w : ℕ) (body : List ℕ) (us : List Unit) → 1 ≤ w → AllFit w us
    → map first_offset (map (row_units us) (rows_of p w us)) ≡ map (λ s. s.offset) (map (start_of body us) (rows_of p w us))
firsts-of p w body [] h fit = refl
firsts-of p w body (u ∷ us) h fit = firsts-from p w 0 0 body (u ∷ us) (u ∷ us) h fit

firsts-last : (ucd : Data) (body : List ℕ) (paragraph : ℕ) (each : List (Option ℕ)) (xs : List (List Unit))
    → map first_of (with_last (row_with ucd body paragraph each) xs) ≡ map first_offset xs
firsts-last ucd body paragraph each [] = refl
firsts-last ucd body paragraph each (us ∷ []) = refl
firsts-last ucd body paragraph each (us ∷ vs ∷ rest) = ap (λ os. first_offset us ∷ os) (firsts-last ucd body paragraph each (vs ∷ rest))

-- the rows of a body begin at its row starts
pub firsts : (ucd : Data) (base : Base) (w : ℕ) (body : List ℕ) → 1 ≤ w
    → map first_of (body_rows ucd base w body) ≡ map (λ s. s.offset) (row_starts ucd w body)
firsts ucd base w body h =
    let us = units ucd w body in
    firsts-last ucd body (paragraph_level_under ucd base (chars body)) (levels_under ucd base (chars body)) (map (row_units us)
    (wrap ucd w body us))
    ∙ firsts-of (is_break ucd body) w body us h (units-fit ucd w body h)

-- ---- the same of a layout

pub side-some : (w : ℕ) → is_side w ≡ true → 1 ≤ w
side-some w e = leb-true 1 w (and_parts (nat_le 1 w) (nat_le w largest_side) e).0

pub firsts-by : (l : LayoutState) (ucd : Data) → IsLayoutBy ucd l → is_side l.w ≡ true
    → map first_of (rows_by ucd l) ≡ map (λ s. s.offset) l.starts
firsts-by l ucd is side =
    firsts ucd l.base l.w l.body (side-some l.w side) ∙ ap (map (λ s. s.offset)) (sym is.starts)

pub row_count : (l : LayoutState) → is_side l.w ≡ true → OfRows l (λ rows. length l.starts ≡ length rows)
row_count l side ucd is =
    sym (length-map l.starts (λ s. s.offset)) ∙ ap length (sym (firsts-by l ucd is side)) ∙ length-map (rows_by ucd l) first_of

pub row_falls : (l : LayoutState) (offset : ℕ) → is_side l.w ≡ true → OfRows l (λ rows. falls_in (map (λ s. s.offset) l.starts) offset ≡ row_of rows offset)
row_falls l offset side ucd is = ap (λ os. falls_in os offset) (sym (firsts-by l ucd is side))

pub first_is : (l : LayoutState) (k : ℕ) (d : RowStart) → is_side l.w ≡ true → k < length l.starts
    → OfRows l (λ rows. (get_or l.starts k d).offset ≡ first_of (row_at rows k))
first_is l k d side within ucd is =
    sym (get_or-map (λ s. s.offset) l.starts k d 0 within) ∙ ap (λ os. get_or os k 0) (sym (firsts-by l ucd is side))
    ∙ get_or-map-all first_of (rows_by ucd l) k no_row

some-rows : (p : Unit → Bool) (w : ℕ) (us : List Unit) → 0 < length (rows_of p w us)
some-rows p w [] = omega arith
some-rows p w (u ∷ us) = omega arith

-- a body has a row at least
pub some_start : (ucd : Data) (w : ℕ) (body : List ℕ) (starts : List RowStart) → starts ≡ row_starts ucd w body → 0 < length starts
some_start ucd w body starts e =
    let us = units ucd w body in
    let count = ap length e ∙ length-map (wrap ucd w body us) (start_of body us) in
    omega (arith, count, some-rows (is_break ucd body) w us)
