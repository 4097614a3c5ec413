-- The picture of a row of single characters: glyphs read, mirrored and moved into visual order, and blanks added.
use Rattle.std.proofs.Common.{◌≡◌, ℕ, ◌-◌, ◌<◌, ◌≤◌, List, [], ◌∷◌, ◌++◌, map, length, take, drop, get_or, All, Option, Some, refl, sym, ap, ap₂, subst, ◌∙◌, arith}
use Rattle.std.specs.Prelude.{IfSome, encode_utf8_all}
use Rattle.std.specs.Str.{IsUtf8}
use Rattle.std.proofs.lemmas.List.{get_or-map, length-map, take_at}
use Rattle.std.proofs.lemmas.List.Elements.{All-rest}
use Rattle.bx_ucd.specs.Data.{Data}
use Rattle.bx_rows.specs.declared.cells.unit.Unit.{Unit}
use Rattle.bx_rows.specs.cells.UnitFacts.{HasFace, units_from}
use Rattle.bx_rows.proofs.cells_lemmas.Standing.{faces_if_taken}
use Rattle.bx_rows.specs.declared.drawn.Drawn.{Drawn}
use Rattle.bx_rows.specs.declared.start_search.RowStart.{RowStart}
use Rattle.bx_rows.specs.PlainRows.{AreSingle, char_forms, leveled_glyphs, single_glyph, single_units}
use Rattle.bx_rows.specs.RowLevels.{row_levels, visual}
use Rattle.bx_rows.specs.RowPicture.{Glyph, blank, columns_used, draw, with_blanks}
use Rattle.bx_rows.specs.RowStarts.{most_units, units_of_row}
use Rattle.bx_rows.specs.Shown.{glyph_of}
use Rattle.bx_rows.specs.RowStarts.{StartsRow}
use Rattle.bx_rows.proofs.EachRow.{IsRowPart, row-alone, whole}
use Rattle.bx_rows.proofs.NumbersBelow.{below_if_visual}
use Rattle.bx_rows.proofs.PlainPictures.{columns-single, single-draw}

-- the glyphs are as many as the characters
singles-count : (ucd : Data) (w : ℕ) (body : List ℕ) (at count : ℕ) (first : List Drawn) (s : AreSingle ucd w body at count first)
    → length first ≡ length s.cs
singles-count ucd w body at count first s = sym (length-map first glyph_of) ∙ ap length s.shown ∙ length-map s.cs single_glyph

-- the glyphs of the characters from a row's start on, at their levels and in their forms, in visual order
abbrev pub ShowsRow : Data → ℕ → List Drawn → List ℕ → List Glyph → ℕ → ℕ → List ℕ → List (Option ℕ) → Type 0
ShowsRow ucd w first found two offset number body each =
    (cs rest : List ℕ) → drop offset body ≡ encode_utf8_all cs ++ rest → map glyph_of first ≡ map single_glyph cs
    → two ≡ map (λ j. get_or (leveled_glyphs ucd w cs found (char_forms ucd body each number cs)) j blank) (visual found)

module _ (ucd : Data) (w : ℕ) (body : List ℕ) (k count : ℕ) (start : RowStart) (next : Option RowStart) (us : List Unit) (u : IsUtf8 body)
    (part : IsRowPart ucd w body us (units_of_row ucd w body k) start next) (many : count ≡ most_units w body start next) where
  pub taken : take count (units_from ucd w body start.offset) ≡ units_of_row ucd w body k
  taken = ap (λ n. take n (units_from ucd w body start.offset)) many ∙ part.units

  pub faces : All (HasFace ucd w body) (units_of_row ucd w body k)
  faces = faces_if_taken ucd w count body start.offset (units_of_row ucd w body k) u part.boundary (sym taken)

  pub fits : columns_used w (units_of_row ucd w body k) ≤ w
  fits =
      let here = units_of_row ucd w body k in
      subst (λ x. columns_used w x ≤ w) (whole here) (row-alone ucd w body k here refl).2

  pub single-fits : (first : List Drawn) → AreSingle ucd w body start.offset count first → length first ≤ w
  single-fits first s =
      let within = fits in
      let same = ap (columns_used w) (sym taken ∙ s.units) ∙ columns-single w start.offset s.cs in
      omega (arith, within, same, singles-count ucd w body start.offset count first s)

  -- the result of the steps is the row's picture
  pub drawn-single : (paragraph n : ℕ) (each : List (Option ℕ)) (first : List Drawn) (two all : List Glyph) (found : List ℕ)
      → StartsRow body start → AreSingle ucd w body start.offset count first → length found ≡ length first
      → found ≡ row_levels ucd body paragraph each (units_of_row ucd w body k)
      → ShowsRow ucd w first found two start.offset start.chars body each
      → n ≡ length first → all ≡ with_blanks paragraph (w - n) two
      → all ≡ draw ucd w body paragraph each (units_of_row ucd w body k) (row_levels ucd body paragraph each (units_of_row ucd w body k))
  drawn-single paragraph n each first two all found starts s count_is levels ordered length_is blanks =
      let here = units_of_row ucd w body k in
      let own : here ≡ single_units start.offset s.cs = sym taken ∙ s.units in
      let many_are = singles-count ucd w body start.offset count first s in
      blanks ∙ ap₂ (λ m xs. with_blanks paragraph (w - m) xs) (length_is ∙ many_are) (ordered s.cs s.rest s.bytes s.shown)
      ∙ sym (single-draw ucd w body paragraph each start s.cs s.rest found u starts s.bytes (subst (All (HasFace ucd w body)) own faces)
      (count_is ∙ many_are))
      ∙ ap₂ (draw ucd w body paragraph each) (sym own) levels

-- a list that is written back over one as long
pub written : {A : Type 0} (n : ℕ) (new old : List A) → length new ≡ n → take n (new ++ drop (length new) old) ≡ new
written n new old e = take_at new (drop (length new) old) n e

-- glyphs chosen by their numbers
shown-chosen : (ds : List Drawn) (d : Drawn) (ks : List ℕ) → All (λ k. k < length ds) ks
    → map glyph_of (map (λ k. get_or ds k d) ks) ≡ map (λ k. get_or (map glyph_of ds) k blank) ks
shown-chosen ds d [] a = refl
shown-chosen ds d (k ∷ ks) a =
    ap₂ (λ g gs. g ∷ gs) (sym (get_or-map glyph_of ds k d blank (a 0 k (omega arith))))
    (shown-chosen ds d ks (All-rest (λ j. j < length ds) k ks (k ∷ ks) refl a))

shown-ordered : (ds new : List Drawn) (levels : List ℕ) → length ds ≡ length levels → length new ≡ length ds
    → ((d : Drawn) → new ≡ map (λ k. get_or ds k d) (visual levels)) → map glyph_of new ≡ map (λ k. get_or (map glyph_of ds) k blank) (visual levels)
shown-ordered [] [] [] e f ordered = refl
shown-ordered [] [] (l ∷ ls) e f ordered = absurd (omega (arith, e))
shown-ordered [] (x ∷ xs) levels e f ordered = absurd (omega (arith, f))
shown-ordered (d ∷ ds) new levels e f ordered =
    ap (map glyph_of) (ordered d)
    ∙ shown-chosen (d ∷ ds) d (visual levels) (λ i j h. omega (arith, below_if_visual levels (visual levels) refl i j h, e))

-- the glyphs at their levels and in their forms, put into visual order
pub arranged-are : (all : List Glyph) (levels : List ℕ) (one two : List Drawn) → length one ≡ length levels
    → length two ≡ length one → map glyph_of one ≡ all → ((d : Drawn) → two ≡ map (λ k. get_or one k d) (visual levels))
    → map glyph_of two ≡ map (λ k. get_or all k blank) (visual levels)
arranged-are all levels one two e f first ordered =
    shown-ordered one two levels e f ordered ∙ ap (λ gs. map (λ k. get_or gs k blank) (visual levels)) first

-- a clause about a value that is present
pub if_some : {A : Type 0} (P : A → Type 0) (o : Option A) (x : A) → o ≡ Some x → IfSome o P → P x
if_some P o x e h = subst (λ y. IfSome y P) e h
