-- Units that touch do so in a row's picture.
use Rattle.std.proofs.Common.{◌≡◌, ◌-◌, ◌%◌, ℕ, zero, suc, List, [], ◌∷◌, ◌++◌, get_or, replicate, sym, ap, ◌∙◌}
use Rattle.std.specs.Prelude.{flat_map}
use Rattle.std.proofs.lemmas.Grind.{flat_map-append}
use Rattle.std.proofs.lemmas.List.{append_assoc}
use Rattle.bx_rows.specs.RowPicture.{Glyph, blank, columns_used, unit_columns, unit_glyphs}
use Rattle.bx_rows_laws.specs.TouchingLetters.{PicturesShowTouch, ShowTouch}
use Rattle.bx_rows.specs.RowLevels.{visual}

pieces-cut : (piece : ℕ → List Glyph) (order front middle back : List ℕ) (i j : ℕ) → order ≡ front ++ (j ∷ (middle ++ (i ∷ back)))
    → flat_map piece order ≡ flat_map piece front ++ (piece j ++ (flat_map piece middle ++ (piece i ++ flat_map piece back)))
pieces-cut piece order front middle back i j e =
    ap (flat_map piece) e ∙ flat_map-append piece front (j ∷ (middle ++ (i ∷ back)))
    ∙ ap (λ gs. flat_map piece front ++ (piece j ++ gs)) (flat_map-append piece middle (i ∷ back))

with-blanks : (odd : ℕ) (blanks glyphs : List Glyph) (pieces : List (List Glyph)) (i j : ℕ) → ShowTouch glyphs pieces i j
    → ShowTouch (elim odd as (λ _. List Glyph) [ zero ↦ glyphs ++ blanks | suc _ ↦ blanks ++ glyphs ]) pieces i j
with-blanks zero blanks glyphs pieces i j s =
    let one = get_or pieces j [] in
    let inside = flat_map (λ k. get_or pieces k []) s.middle in
    let other = get_or pieces i [] in
    record {
      front = s.front;
      middle = s.middle;
      back = s.back ++ blanks;
      row_is = ap (λ gs. gs ++ blanks) s.row_is ∙ append_assoc s.front (one ++ (inside ++ (other ++ s.back))) blanks
          ∙ ap (λ gs. s.front ++ gs) (append_assoc one (inside ++ (other ++ s.back)) blanks
          ∙ ap (λ gs. one ++ gs) (append_assoc inside (other ++ s.back) blanks ∙ ap (λ gs. inside ++ gs) (append_assoc other s.back blanks)));
      inside = s.inside;
    }
with-blanks (suc odd) blanks glyphs pieces i j s =
    let rest = get_or pieces j [] ++ (flat_map (λ k. get_or pieces k []) s.middle ++ (get_or pieces i [] ++ s.back)) in
    record {
      front = blanks ++ s.front;
      middle = s.middle;
      back = s.back;
      row_is = ap (λ gs. blanks ++ gs) s.row_is ∙ sym (append_assoc blanks s.front rest);
      inside = s.inside;
    }

pub pictures-touch : PicturesShowTouch
pictures-touch ucd w body paragraph each us levels i j t =
    let pieces = unit_glyphs ucd w body each us (unit_columns w 0 us) levels in
    let piece : ℕ → List Glyph = λ k. get_or pieces k [] in
    with-blanks (paragraph % 2) (replicate (w - columns_used w us) blank) (flat_map piece (visual levels)) pieces i j (record {
      front = flat_map piece t.front;
      middle = t.middle;
      back = flat_map piece t.back;
      row_is = pieces-cut piece (visual levels) t.front t.middle t.back i j t.order_is;
      inside = t.inside;
    })
