-- The bytes and the changes for columns that begin with a whole glyph.
use Rattle.std.proofs.Common.{◌≡◌, ℕ, ◌+◌, ◌≤◌, Bool, true, false, not, nat_eq, List, [], ◌∷◌, ◌++◌, length, take, drop, zero, suc, refl, ap, sym, ◌∙◌, arith}
use Rattle.std.proofs.lemmas.Bool.Decides.{nat_tests}
use Rattle.std.proofs.lemmas.List.{take_at, drop-drop}
use Rattle.bx_grid.specs.Columns.{Col, Glyph, is_ascii_glyph, are_equal, glyph_columns, glyph_columns_from}
use Rattle.bx_grid.specs.Effects.{Effect, Puts}
use Rattle.bx_grid.specs.Glyphs.{WholeGlyph, IsGlyph, whole_columns}
use Rattle.bx_grid.proofs.Laid.{plain_width}
use Rattle.bx_grid.proofs.Puts.{length-glyph}
use Rattle.bx_grid.proofs.Whole.{columns_form}
use Rattle.bx_paint.specs.Painting.{Step, then_sent, nothing_sent, is_sent, columns_sent, glyph_bytes}
use Rattle.bx_paint.specs.Changed.{glyphs_changed}

-- ---- the columns of a glyph after its first

rest_none : (r c : ℕ) (negative : Bool) (text : List ℕ) (n : ℕ) (glyph_negative : Bool) (offset count : ℕ) (olds xs : List Col) → 1 ≤ offset
    → columns_sent r c false negative olds (glyph_columns_from text n glyph_negative offset count ++ xs)
    ≡ columns_sent r (c + count) false negative (drop count olds) xs
rest_none r c negative text n glyph_negative offset zero olds xs h = ap (λ k. columns_sent r k false negative olds xs) (let e : c ≡ c + zero = omega arith in e)
rest_none r c negative text n glyph_negative offset (suc count) olds xs h =
    let later : nat_eq offset 0 ≡ false = grind (arith, nat_tests) in
    let e1 : (c + 1) + count ≡ c + suc count = omega arith in
    let e2 : 1 + count ≡ suc count = omega arith in
    rw later
    (rest_none r (c + 1) negative text n glyph_negative (offset + 1) count (drop 1 olds) xs (omega arith)
    ∙ ap (λ k. columns_sent r k false negative (drop count (drop 1 olds)) xs) e1
    ∙ ap (λ ys. columns_sent r (c + suc count) false negative ys xs) (drop-drop count 1 olds ∙ ap (λ k. drop k olds) e2))

rest_sent : (near : Bool) (r c : ℕ) (negative : Bool) (text : List ℕ) (n : ℕ) (glyph_negative : Bool) (offset count : ℕ) (olds xs : List Col) → 1 ≤ offset
    → (near ≡ true → count ≡ 0)
    → columns_sent r c near negative olds (glyph_columns_from text n glyph_negative offset count ++ xs)
    ≡ columns_sent r (c + count) near negative (drop count olds) xs
rest_sent false r c negative text n glyph_negative offset count olds xs h alone = rest_none r c negative text n glyph_negative offset count olds xs h
rest_sent true r c negative text n glyph_negative offset count olds xs h alone =
    let none : count ≡ 0 = alone refl in
    let e : c ≡ c + 0 = omega arith in
    rw none (ap (λ k. columns_sent r k true negative olds xs) e)

rest_changed : (index : ℕ) (text : List ℕ) (n : ℕ) (glyph_negative : Bool) (offset count : ℕ) (olds xs : List Col) → 1 ≤ offset
    → glyphs_changed index olds (glyph_columns_from text n glyph_negative offset count ++ xs) ≡ glyphs_changed (index + count) (drop count olds) xs
rest_changed index text n glyph_negative offset zero olds xs h = ap (λ k. glyphs_changed k olds xs) (let e : index ≡ index + zero = omega arith in e)
rest_changed index text n glyph_negative offset (suc count) olds xs h =
    let later : nat_eq offset 0 ≡ false = grind (arith, nat_tests) in
    let e1 : (index + 1) + count ≡ index + suc count = omega arith in
    let e2 : 1 + count ≡ suc count = omega arith in
    rw later
    (rest_changed (index + 1) text n glyph_negative (offset + 1) count (drop 1 olds) xs (omega arith)
    ∙ ap (λ k. glyphs_changed k (drop count (drop 1 olds)) xs) e1
    ∙ ap (λ ys. glyphs_changed (index + suc count) ys xs) (drop-drop count 1 olds ∙ ap (λ k. drop k olds) e2))

-- ---- a glyph

-- the bytes sent for it
abbrev pub glyph_sent : ℕ → ℕ → Bool → Bool → Bool → WholeGlyph → Step
glyph_sent r c near negative true g = nothing_sent negative
glyph_sent r c near negative false g = record { bytes = glyph_bytes r c near negative g.text g.negative; near = is_ascii_glyph g.text; negative = g.negative }

abbrev pub glyph_effect : ℕ → Bool → WholeGlyph → List Effect
glyph_effect index true g = []
glyph_effect index false g = Puts index g.text g.negative ∷ []

-- the columns of a glyph, n of them, with others after them, where same says that the old columns are its own
pub record IsByGlyph (same : Bool) (g : WholeGlyph) (n : ℕ) (olds xs : List Col) : Type 0 where
  pub sent : (r c : ℕ) (near negative : Bool) → columns_sent r c near negative olds (whole_columns g ++ xs)
      ≡ then_sent (glyph_sent r c near negative same g).bytes
      (columns_sent r (c + n) (glyph_sent r c near negative same g).near (glyph_sent r c near negative same g).negative (drop n olds) xs)
  pub changed : (index : ℕ) → glyphs_changed index olds (whole_columns g ++ xs) ≡ glyph_effect index same g ++ glyphs_changed (index + n) (drop n olds) xs

first_sent : (same : Bool) (r c : ℕ) (near negative : Bool) (g : WholeGlyph) (n : ℕ) (olds cs : List Col)
    → is_sent olds (Glyph g.text n 0 g.negative ∷ cs) ≡ not same
    → columns_sent r c near negative olds (Glyph g.text n 0 g.negative ∷ cs)
    ≡ then_sent (glyph_sent r c near negative same g).bytes
    (columns_sent r (c + 1) (glyph_sent r c near negative same g).near (glyph_sent r c near negative same g).negative (drop 1 olds) cs)
first_sent true r c near negative g n olds cs e = rw e refl
first_sent false r c near negative g n olds cs e = rw e refl

first_changed : (same : Bool) (index : ℕ) (g : WholeGlyph) (n : ℕ) (olds cs : List Col) → is_sent olds (Glyph g.text n 0 g.negative ∷ cs) ≡ not same
    → glyphs_changed index olds (Glyph g.text n 0 g.negative ∷ cs) ≡ glyph_effect index same g ++ glyphs_changed (index + 1) (drop 1 olds) cs
first_changed true index g n olds cs e = rw e refl
first_changed false index g n olds cs e = rw e refl

-- a glyph after which the next is near has one column
near_alone : (same : Bool) (r c : ℕ) (near negative : Bool) (g : WholeGlyph) (m : ℕ) → whole_columns g ≡ glyph_columns g.text (suc m) g.negative
    → (glyph_sent r c near negative same g).near ≡ true → m ≡ 0
near_alone true r c near negative g m is h = absurd (cc h)
near_alone false r c near negative g m is h =
    let one : suc m ≡ 1 = sym (length-glyph g.text (suc m) 0 (suc m) g.negative) ∙ ap length (sym is) ∙ plain_width g.negative g.text h in
    omega (arith, one)

glyph_by : (same : Bool) (g : WholeGlyph) (m : ℕ) (olds xs : List Col) → IsGlyph g → whole_columns g ≡ glyph_columns g.text (suc m) g.negative
    → are_equal (take (suc m) olds) (whole_columns g) ≡ same → IsByGlyph same g (suc m) olds xs
glyph_by same g m olds xs h is e =
    let whole = glyph_columns g.text (suc m) g.negative in
    let more = glyph_columns_from g.text (suc m) g.negative (0 + 1) m in
    let first : take (suc m) (whole ++ xs) ≡ whole = take_at whole xs (suc m) (length-glyph g.text (suc m) 0 (suc m) g.negative) in
    let test : is_sent olds (whole ++ xs) ≡ not same = ap (λ ys. not (are_equal (take (suc m) olds) ys)) (first ∙ sym is) ∙ ap not e in
    let past : drop m (drop 1 olds) ≡ drop (suc m) olds = drop-drop m 1 olds ∙ ap (λ k. drop k olds) (let n : 1 + m ≡ suc m = omega arith in n) in
    record {
      sent = λ r c near negative.
          let s = glyph_sent r c near negative same g in
          ap (λ ys. columns_sent r c near negative olds (ys ++ xs)) is
          ∙ first_sent same r c near negative g (suc m) olds (more ++ xs) test
          ∙ ap (then_sent s.bytes)
          (rest_sent s.near r (c + 1) s.negative g.text (suc m) g.negative (0 + 1) m (drop 1 olds) xs (omega arith) (near_alone same r c near negative g m is)
          ∙ ap (λ ys. columns_sent r ((c + 1) + m) s.near s.negative ys xs) past
          ∙ ap (λ k. columns_sent r k s.near s.negative (drop (suc m) olds) xs) (let n : (c + 1) + m ≡ c + suc m = omega arith in n));
      changed = λ index.
          ap (λ ys. glyphs_changed index olds (ys ++ xs)) is
          ∙ first_changed same index g (suc m) olds (more ++ xs) test
          ∙ ap (λ ds. glyph_effect index same g ++ ds)
          (rest_changed (index + 1) g.text (suc m) g.negative (0 + 1) m (drop 1 olds) xs (omega arith)
          ∙ ap (λ ys. glyphs_changed ((index + 1) + m) ys xs) past
          ∙ ap (λ k. glyphs_changed k (drop (suc m) olds) xs) (let n : (index + 1) + m ≡ index + suc m = omega arith in n));
    }

by_form : (same : Bool) (g : WholeGlyph) (n : ℕ) (olds xs : List Col) → IsGlyph g → 1 ≤ n → whole_columns g ≡ glyph_columns g.text n g.negative
    → are_equal (take n olds) (whole_columns g) ≡ same → IsByGlyph same g n olds xs
by_form same g zero olds xs h some is e = absurd (omega (arith, some))
by_form same g (suc m) olds xs h some is e = glyph_by same g m olds xs h is e

pub by_glyph : (same : Bool) (g : WholeGlyph) (olds xs : List Col) → IsGlyph g → are_equal (take (length (whole_columns g)) olds) (whole_columns g) ≡ same
    → IsByGlyph same g (length (whole_columns g)) olds xs
by_glyph same g olds xs h e =
    let form = columns_form g h in
    let count : length (whole_columns g) ≡ form.0 = ap length form.2 ∙ length-glyph g.text form.0 0 form.0 g.negative in
    rw count (by_form same g form.0 olds xs h form.1 form.2 (rw count at e))
