-- A row's picture shows the glyphs of each unit once, in visual order, and otherwise blanks.
use Rattle.std.proofs.Common.{◌≡◌, ℕ, zero, suc, ◌-◌, ◌%◌, List, [], ◌∷◌, ◌++◌, length, map, get_or, replicate, Option}
use Rattle.std.proofs.Common.{sym, ap, subst, ◌∙◌, arith}
use Rattle.std.specs.Prelude.{IsPermutation, flat_map}
use Rattle.std.specs.List.{range_with_len}
use Rattle.std.proofs.lemmas.List.{append_assoc, get_or_default, same_lists}
use Rattle.std.proofs.lemmas.Grind.{flat_map-append}
use Rattle.std.proofs.lemmas.List.Folds.{flat_map-map}
use Rattle.std.proofs.lemmas.List.FromFn.{get_or-map-range_with_len, length-map-range_with_len}
use Rattle.std.proofs.lemmas.List.Sorted.{IsPermutation-append_comm, IsPermutation-append_left, IsPermutation-map, IsPermutation-trans}
use Rattle.bx_ucd.specs.Data.{Data}
use Rattle.bx_rows.specs.declared.cells.unit.Unit.{Unit}
use Rattle.bx_rows_laws.specs.OrderLaws.{PicturesGoByLevels, ShowsEachOnce, ShowsLeft, StandsLeft, joined}
use Rattle.bx_rows.specs.RowPicture.{Glyph, blank, columns_used, draw, unit_columns, unit_glyphs, with_blanks}
use Rattle.bx_rows.specs.RowLevels.{visual}
use Rattle.bx_rows_laws.proofs.LowestLevels.{lowest-order}
use Rattle.bx_rows.proofs.Permutes.{made-permutes, visual-permutes}
use Rattle.bx_rows.proofs.Pieces.{pieces-length}
use Rattle.bx_rows.proofs.PictureSums.{columns-length}

abbrev chosen : List (List Glyph) → List ℕ → List (List Glyph)
chosen pieces numbers = map (λ k. get_or pieces k []) numbers

all-chosen : (pieces : List (List Glyph)) (n : ℕ) → n ≡ length pieces → chosen pieces (range_with_len 0 n) ≡ pieces
all-chosen pieces n e =
    let count : length (chosen pieces (range_with_len 0 n)) ≡ length pieces = length-map-range_with_len (λ k. get_or pieces k []) 0 n ∙ e in
    same_lists (chosen pieces (range_with_len 0 n)) pieces count
    (λ k d h. get_or-map-range_with_len (λ i. get_or pieces i []) 0 n k k d (omega (arith, h, count, e)) (omega arith)
    ∙ get_or_default pieces k [] d (omega (arith, h, count)))

-- the joined pieces, chosen by their numbers
joined-chosen : (pieces : List (List Glyph)) (numbers : List ℕ) → joined (chosen pieces numbers) ≡ flat_map (λ k. get_or pieces k []) numbers
joined-chosen pieces numbers = flat_map-map (λ p. p) (λ k. get_or pieces k []) numbers

blanks-permute : (odd n : ℕ) (all glyphs : List Glyph) → IsPermutation all glyphs
    → IsPermutation (all ++ replicate n blank) (elim odd [ zero ↦ glyphs ++ replicate n blank | suc _ ↦ replicate n blank ++ glyphs ])
blanks-permute zero n all glyphs h = IsPermutation-append_left (replicate n blank) all glyphs h
blanks-permute (suc k) n all glyphs h =
    IsPermutation-trans (all ++ replicate n blank) (glyphs ++ replicate n blank) (replicate n blank ++ glyphs)
    (IsPermutation-append_left (replicate n blank) all glyphs h) (IsPermutation-append_comm glyphs (replicate n blank))

shows-pieces : (paragraph n : ℕ) (pieces : List (List Glyph)) (levels : List ℕ) → length levels ≡ length pieces
    → ShowsEachOnce paragraph n pieces (with_blanks paragraph n (flat_map (λ k. get_or pieces k []) (visual levels)))
shows-pieces paragraph n pieces levels e =
    let numbers = range_with_len 0 (length levels) in
    let piece : ℕ → List Glyph = λ k. get_or pieces k [] in
    let same : chosen pieces numbers ≡ pieces = all-chosen pieces (length levels) e in
    let all : flat_map piece numbers ≡ joined pieces = sym (joined-chosen pieces numbers) ∙ ap joined same in
    record {
      ordered = chosen pieces (visual levels);
      once = subst (λ ps. IsPermutation ps (chosen pieces (visual levels))) same (IsPermutation-map piece numbers (visual levels) (visual-permutes levels));
      whole = ap (with_blanks paragraph n) (sym (joined-chosen pieces (visual levels)));
      glyphs = blanks-permute (paragraph % 2) n (joined pieces) (flat_map piece (visual levels))
          (subst (λ gs. IsPermutation gs (flat_map piece (visual levels))) all (made-permutes piece levels));
    }

pub shows-units : (ucd : Data) (w : ℕ) (body : List ℕ) (paragraph : ℕ) (each : List (Option ℕ)) (us : List Unit) (levels : List ℕ)
    → length levels ≡ length us → ShowsEachOnce paragraph (w - columns_used w us) (unit_glyphs ucd w body each us (unit_columns w 0 us) levels)
    (draw ucd w body paragraph each us levels)
shows-units ucd w body paragraph each us levels e =
    let pieces = unit_glyphs ucd w body each us (unit_columns w 0 us) levels in
    shows-pieces paragraph (w - columns_used w us) pieces levels (e ∙ sym (pieces-length ucd w body each us (unit_columns w 0 us) levels (columns-length w 0 us) e))

-- ---- the order of two units

left-joined : {X : Type 0} (f : X → List Glyph) (front : List X) (a : X) (middle : List X) (b : X) (back : List X)
    → flat_map f (front ++ (a ∷ (middle ++ (b ∷ back)))) ≡ flat_map f front ++ (f a ++ (flat_map f middle ++ (f b ++ flat_map f back)))
left-joined f front a middle b back =
    flat_map-append f front (a ∷ (middle ++ (b ∷ back))) ∙ ap (λ xs. flat_map f front ++ (f a ++ xs)) (flat_map-append f middle (b ∷ back))

-- the blanks are after all glyphs, or before them
left-of-blanks : (odd n : ℕ) (glyphs a b : List Glyph) → ShowsLeft glyphs a b
    → ShowsLeft (elim odd [ zero ↦ glyphs ++ replicate n blank | suc _ ↦ replicate n blank ++ glyphs ]) a b
left-of-blanks zero n glyphs a b s =
    let blanks = replicate n blank in
    record {
      front = s.front;
      middle = s.middle;
      back = s.back ++ blanks;
      row_is = ap (λ xs. xs ++ blanks) s.row_is ∙ append_assoc s.front (a ++ (s.middle ++ (b ++ s.back))) blanks
          ∙ ap (λ xs. s.front ++ xs) (append_assoc a (s.middle ++ (b ++ s.back)) blanks
          ∙ ap (λ xs. a ++ xs) (append_assoc s.middle (b ++ s.back) blanks ∙ ap (λ xs. s.middle ++ xs) (append_assoc b s.back blanks)));
    }
left-of-blanks (suc k) n glyphs a b s = record {
  front = replicate n blank ++ s.front;
  middle = s.middle;
  back = s.back;
  row_is = ap (λ xs. replicate n blank ++ xs) s.row_is ∙ sym (append_assoc (replicate n blank) s.front (a ++ (s.middle ++ (b ++ s.back))));
}

left-shown : (paragraph n : ℕ) (f : ℕ → List Glyph) (order : List ℕ) (a b : ℕ) → StandsLeft order a b
    → ShowsLeft (with_blanks paragraph n (flat_map f order)) (f a) (f b)
left-shown paragraph n f order a b s =
    left-of-blanks (paragraph % 2) n (flat_map f order) (f a) (f b) (record {
      front = flat_map f s.front;
      middle = flat_map f s.middle;
      back = flat_map f s.back;
      row_is = ap (flat_map f) s.order_is ∙ left-joined f s.front a s.middle b s.back;
    })

pub shows-by-levels : PicturesGoByLevels
shows-by-levels ucd w body paragraph each us levels i j lowest e h k l =
    let piece : ℕ → List Glyph = λ n. get_or (unit_glyphs ucd w body each us (unit_columns w 0 us) levels) n [] in
    let n = w - columns_used w us in
    let by = lowest-order levels i j lowest h (omega (arith, e, k)) l in
    record {
      even = λ p. left-shown paragraph n piece (visual levels) i j (by.even p);
      odd = λ p. left-shown paragraph n piece (visual levels) j i (by.odd p);
    }
