-- The glyphs of a row's picture, put one after another into a row of blanks.
use Rattle.std.proofs.Common.{◌≡◌, ℕ, ◌+◌, ◌-◌, ◌*◌, ◌<◌, ◌≤◌, Bool, true, false, not, ◌&&◌, ◌||◌, nat_le, List, [], ◌∷◌, ◌++◌, length, map, take}
use Rattle.std.proofs.Common.{get_or, chars, refl, ap, sym, subst, ◌∙◌, length-append, sum_by, arith}
use Rattle.std.specs.Prelude.{All, flat_map}
use Rattle.std.specs.Cow.{cow_str_bytes}
use Rattle.std.proofs.lemmas.Bool.Decides.{nat_tests}
use Rattle.std.proofs.lemmas.Grind.{flat_map-append}
use Rattle.std.proofs.lemmas.List.{map_more, append-nil}
use Rattle.std.proofs.lemmas.List.Concat.{flat_map-cons}
use Rattle.std.proofs.lemmas.List.Sums.{sum_by-cons, sum_by_more, sum_by_more_le}
use borrow.Author.Tests.{not-true}
use Rattle.unicode_width.specs.Width.{str_width}
use Rattle.bx_common.specs.Characters.{are_ascii_printable, are_printable, is_ascii_glyph}
use Rattle.bx_common.specs.Glyphs.{is_one_glyph, run_width}
use Rattle.bx_grid.specs.Columns.{Col, run_columns, glyph_columns}
use Rattle.bx_grid.specs.Grid.{paste, GridState, HasRoom, IsWithin}
use Rattle.bx_grid.proofs.Laid.{plain_is_one, plain_run_width}
use Rattle.bx_grid.proofs.Puts.{length-glyph}
use Rattle.bx_grid.proofs.Reading.{and_left, and_right}
use Rattle.bx_rows.specs.declared.drawn.Drawn.{Drawn}
use Rattle.bx_rows.specs.RowPicture.{Glyph}
use Rattle.bx_rows.specs.Shown.{glyph_of}
use Rattle.bx_document.specs.Drawing.{side_by_side}
use Rattle.bx_document.proofs.PutOn.{one_row, put_next, room_next, within_next}

-- ---- one glyph

other_run : (text : List ℕ) (one : Bool) → is_ascii_glyph text ≡ one → one ≡ false → is_one_glyph text ≡ true → are_ascii_printable text ≡ false
other_run text one e f h =
    let all : (is_ascii_glyph text || ((are_printable text && not (are_ascii_printable text)) && nat_le 1 (str_width false (chars text)))) ≡ true = h in
    let rest : ((are_printable text && not (are_ascii_printable text)) && nat_le 1 (str_width false (chars text))) ≡ true =
    sym (ap (λ b. b || ((are_printable text && not (are_ascii_printable text)) && nat_le 1 (str_width false (chars text)))) (e ∙ f)) ∙ all in
    not-true (are_ascii_printable text)
    (and_right (are_printable text) (not (are_ascii_printable text))
    (and_left (are_printable text && not (are_ascii_printable text)) (nat_le 1 (str_width false (chars text))) rest))

wide_run : (text : List ℕ) (one : Bool) → is_ascii_glyph text ≡ one → one ≡ false → is_one_glyph text ≡ true → 1 ≤ str_width false (chars text)
wide_run text one e f h =
    let all : (is_ascii_glyph text || ((are_printable text && not (are_ascii_printable text)) && nat_le 1 (str_width false (chars text)))) ≡ true = h in
    let rest : ((are_printable text && not (are_ascii_printable text)) && nat_le 1 (str_width false (chars text))) ≡ true =
    sym (ap (λ b. b || ((are_printable text && not (are_ascii_printable text)) && nat_le 1 (str_width false (chars text)))) (e ∙ f)) ∙ all in
    let wide = and_right (are_printable text && not (are_ascii_printable text)) (nat_le 1 (str_width false (chars text))) rest in
    grind (arith, nat_tests)

run_by : (text : List ℕ) (negative : Bool) (one : Bool) → is_ascii_glyph text ≡ one → is_one_glyph text ≡ true
    → run_columns negative text ≡ glyph_columns text (run_width text) negative
run_by [] negative true e h = absurd (cc e)
run_by (b ∷ []) negative true e h =
    plain_is_one negative (b ∷ []) b refl e ∙ ap (λ n. glyph_columns (b ∷ []) n negative) (sym (plain_run_width (b ∷ []) e))
run_by (b ∷ c ∷ rest) negative true e h = absurd (cc e)
run_by text negative false e h = let other = other_run text false e refl h in rw other refl

-- a glyph's run is the columns of the glyph
pub glyph_run : (text : List ℕ) (negative : Bool) → is_one_glyph text ≡ true → run_columns negative text ≡ glyph_columns text (run_width text) negative
glyph_run text negative h = run_by text negative (is_ascii_glyph text) refl h

some_by : (text : List ℕ) (one : Bool) → is_ascii_glyph text ≡ one → is_one_glyph text ≡ true → 1 ≤ run_width text
some_by text true e h = omega (arith, plain_run_width text e)
some_by text false e h = let other = other_run text false e refl h in let wide = wide_run text false e refl h in rw other wide

pub glyph_some : (text : List ℕ) → is_one_glyph text ≡ true → 1 ≤ run_width text
glyph_some text h = some_by text (is_ascii_glyph text) refl h

-- ---- glyphs side by side

abbrev pub columns_in : List Drawn → ℕ
columns_in ds = sum_by (λ d. d.columns) ds

abbrev pub glyphs_columns : List Drawn → List Col
glyphs_columns ds = side_by_side (map glyph_of ds)

pub length-glyphs : (ds : List Drawn) → length (glyphs_columns ds) ≡ columns_in ds
length-glyphs [] = refl
length-glyphs (d ∷ ds) =
    let one = glyph_columns (cow_str_bytes d.text) d.columns d.negative in
    let len : length one ≡ d.columns = length-glyph (cow_str_bytes d.text) d.columns 0 d.columns d.negative in
    ap length (flat_map-cons (λ g. glyph_columns g.text g.columns g.negative) (glyph_of d) (map glyph_of ds))
    ∙ length-append one (glyphs_columns ds)
    ∙ omega (arith, len, length-glyphs ds, sum_by-cons (λ x. x.columns) d ds)

pub glyphs-more : (ds : List Drawn) (i : ℕ) (d : Drawn) → i < length ds
    → glyphs_columns (take (i + 1) ds) ≡ glyphs_columns (take i ds) ++ glyph_columns (cow_str_bytes (get_or ds i d).text) (get_or ds i d).columns
    (get_or ds i d).negative
glyphs-more ds i d inside =
    let each = λ (g : Glyph). glyph_columns g.text g.columns g.negative in
    ap (flat_map each) (map_more glyph_of ds i d inside)
    ∙ flat_map-append each (map glyph_of (take i ds)) (glyph_of (get_or ds i d) ∷ [])
    ∙ ap (λ cs. glyphs_columns (take i ds) ++ cs) (flat_map-cons each (glyph_of (get_or ds i d)) [] ∙ append-nil (each (glyph_of (get_or ds i d))))

-- ---- the loop's invariant

-- the first `i` glyphs of a row's picture are put, and the next one begins in this column, from 1
pub record IsPut (w : ℕ) (ds : List Drawn) (i : ℕ) (new : GridState) (column : ℕ) : Type 0 where
  pub at : column ≡ columns_in (take i ds) + 1
  pub grid : new ≡ one_row w (glyphs_columns (take i ds))

-- glyph number `i` comes next, and all glyphs have room
pub record IsNext (w : ℕ) (ds : List Drawn) (i : ℕ) (d : Drawn) : Type 0 where
  pub fills : columns_in ds ≤ w
  pub inside : i < length ds
  pub is : get_or ds i d ≡ d
  pub one : is_one_glyph (cow_str_bytes d.text) ≡ true
  pub width : run_width (cow_str_bytes d.text) ≡ d.columns

pub more-columns : (ds : List Drawn) (i : ℕ) (d : Drawn) → i < length ds → get_or ds i d ≡ d → columns_in (take (i + 1) ds) ≡ columns_in (take i ds) + d.columns
more-columns ds i d inside is = sum_by_more (λ x. x.columns) ds i d inside ∙ ap (λ (x : Drawn). columns_in (take i ds) + x.columns) is

pub fit-columns : (ds : List Drawn) (i : ℕ) (d : Drawn) → i < length ds → get_or ds i d ≡ d → columns_in (take i ds) + d.columns ≤ columns_in ds
fit-columns ds i d inside is =
    let le = sum_by_more_le (λ x. x.columns) ds i d inside in
    let one : (get_or ds i d).columns ≡ d.columns = ap (λ (x : Drawn). x.columns) is in
    omega (arith, le, one)

module _ (w : ℕ) (ds : List Drawn) (i : ℕ) (new : GridState) (column : ℕ) (d : Drawn) (n : IsNext w ds i d) (p : IsPut w ds i new column) where
  abbrev done : List Col
  done = glyphs_columns (take i ds)

  len : length done ≡ columns_in (take i ds)
  len = length-glyphs (take i ds)

  fit : columns_in (take i ds) + d.columns ≤ w
  fit = let le = fit-columns ds i d n.inside n.is in omega (arith, le, n.fills)

  at : column ≡ length done + 1
  at = omega (arith, p.at, len)

  pub within : IsWithin new.height new.width 1 column
  within = let some = glyph_some (cow_str_bytes d.text) n.one in within_next w done new column p.grid at (omega (arith, len, fit, some, n.width))

  pub room : HasRoom new 1 column (run_width (cow_str_bytes d.text))
  room = room_next w done new column p.grid at (run_width (cow_str_bytes d.text)) (omega (arith, len, fit, n.width))

  pub next_put : (later : GridState)
      → later ≡ record new { columns = paste new.columns ((1 - 1) * new.width + (column - 1)) (run_columns d.negative (cow_str_bytes d.text)) }
      → IsPut w ds (i + 1) later (column + d.columns)
  next_put later step =
      let text = cow_str_bytes d.text in
      let one = glyph_columns text d.columns d.negative in
      let wide : length one ≡ d.columns = length-glyph text d.columns 0 d.columns d.negative in
      let run : run_columns d.negative text ≡ one = glyph_run text d.negative n.one ∙ ap (λ k. glyph_columns text k d.negative) n.width in
      let next : glyphs_columns (take (i + 1) ds) ≡ done ++ one =
      glyphs-more ds i d n.inside ∙ ap (λ (x : Drawn). done ++ glyph_columns (cow_str_bytes x.text) x.columns x.negative) n.is in
      record {
        at = omega (arith, p.at, more-columns ds i d n.inside n.is);
        grid = put_next w done new column p.grid at one (run_columns d.negative text) later (omega (arith, len, wide, fit)) run step
            ∙ ap (one_row w) (sym next);
      }

pub is_next : (w : ℕ) (ds items : List Drawn) (i : ℕ) (d : Drawn) → columns_in ds ≤ w
    → items ≡ ds → i < length items → d ≡ get_or items i d → All (λ x. is_one_glyph (cow_str_bytes x.text) ≡ true) ds
    → All (λ x. run_width (cow_str_bytes x.text) ≡ x.columns) ds → IsNext w ds i d
is_next w ds items i d fills e inside is ones widths =
    let inside : i < length ds = subst (λ (xs : List Drawn). i < length xs) e inside in
    let is : get_or ds i d ≡ d = subst (λ (xs : List Drawn). get_or xs i d ≡ d) e (sym is) in
    record {
      fills = fills;
      inside = inside;
      is = is;
      one = subst (λ (x : Drawn). is_one_glyph (cow_str_bytes x.text) ≡ true) is (ones i d inside);
      width = subst (λ (x : Drawn). run_width (cow_str_bytes x.text) ≡ x.columns) is (widths i d inside);
    }
