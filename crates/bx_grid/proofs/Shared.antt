-- Where two lists of whole glyphs have a column in common, and where they differ.
use Rattle.std.proofs.Common.{◌≡◌, ℕ, ◌+◌, ◌-◌, ◌<◌, ◌≤◌, Bool, List, [], ◌∷◌, ◌++◌, length, take, drop, get_or, zero, suc, inl, inr, refl, subst, ap, sym, ◌∙◌}
use Rattle.std.proofs.Common.{length-append, arith}
use Rattle.std.specs.List.{All}
use Rattle.std.proofs.Math.Seq.{drop-append-add}
use Rattle.std.proofs.lemmas.Bool.{cases_lt}
use Rattle.std.proofs.lemmas.List.{get_or-take, get_or-drop, get_or-append_right, get_or_append_left, take_at, length-take, length-drop}
use Rattle.std.proofs.lemmas.List.Elements.{All-head, All-tail}
use Rattle.bx_grid.specs.Columns.{Col, Unknown, Glyph, glyph_columns, glyph_columns_from}
use Rattle.bx_grid.specs.Glyphs.{WholeGlyph, IsGlyph, whole_columns, all_columns, AreWhole, StandsWhole, IsWholeAt, ShareWholeGlyphs, IsOfGlyph}
use Rattle.bx_grid.specs.Glyphs.{DifferInWholeGlyphs}
use Rattle.bx_grid.proofs.Puts.{length-glyph}
use Rattle.bx_grid.proofs.Whole.{columns_form}

abbrev at : List Col → ℕ → Col
at columns i = get_or columns i Unknown

column_from : (text : List ℕ) (count m offset i : ℕ) (negative : Bool) → i < m
    → at (glyph_columns_from text count negative offset m) i ≡ Glyph text count (offset + i) negative
column_from text count zero offset i negative low = absurd (omega arith)
column_from text count (suc m) offset zero negative low = ap (λ o. Glyph text count o negative) (omega arith)
column_from text count (suc m) offset (suc i) negative low =
    column_from text count m (offset + 1) i negative (omega arith) ∙ ap (λ o. Glyph text count o negative) (omega arith)

column_of : (text : List ℕ) (count i : ℕ) (negative : Bool) → i < count → at (glyph_columns text count negative) i ≡ Glyph text count i negative
column_of text count i negative low = column_from text count count 0 i negative low ∙ ap (λ o. Glyph text count o negative) (omega arith)

-- ---- each column has all of its glyph next to it

later : (c : Col) (i j : ℕ) (front rest : List Col) → i ≡ length front + j → IsWholeAt c j rest → IsWholeAt c i (front ++ rest)
later Unknown i j front rest e h = h
later (Glyph text count offset negative) i j front rest e h =
    let begins : offset ≤ j = h.begins in
    let there : i - offset ≡ length front + (j - offset) = omega (arith, e, begins) in
    record {
      glyph = h.glyph;
      counted = h.counted;
      within = h.within;
      begins = omega (arith, e, begins);
      all = ap (λ k. take count (drop k (front ++ rest))) there ∙ ap (take count) (drop-append-add front rest (j - offset)) ∙ h.all;
    }

first : (g : WholeGlyph) (n i : ℕ) (rest : List Col) → IsGlyph g → whole_columns g ≡ glyph_columns g.text n g.negative → i < n
    → IsWholeAt (at (whole_columns g ++ rest) i) i (whole_columns g ++ rest)
first g n i rest one form low =
    let len : length (whole_columns g) ≡ n = ap length form ∙ length-glyph g.text n 0 n g.negative in
    let is : at (whole_columns g ++ rest) i ≡ Glyph g.text n i g.negative =
    get_or_append_left (whole_columns g) rest Unknown i (omega (arith, len)) ∙ ap (λ cs. at cs i) form ∙ column_of g.text n i g.negative low in
    let none : i - i ≡ 0 = omega arith in
    let stands : StandsWhole g.text n i g.negative i (whole_columns g ++ rest) = record {
      glyph = record { utf8 = one.utf8; one = one.one };
      counted = sym len;
      within = low;
      begins = omega arith;
      all = ap (λ k. take n (drop k (whole_columns g ++ rest))) none ∙ take_at (whole_columns g) rest n len;
    } in
    subst (λ (c : Col). IsWholeAt c i (whole_columns g ++ rest)) (sym is) stands

whole_by : (gs : List WholeGlyph) → All IsGlyph gs → (i : ℕ) → i < length (all_columns gs) → IsWholeAt (at (all_columns gs) i) i (all_columns gs)
whole_by [] h i low = absurd (omega (arith, low))
whole_by (g ∷ gs) h i low =
    let one = All-head IsGlyph g gs h in
    let f = columns_form g one in
    let rest = all_columns gs in
    let len : length (whole_columns g) ≡ f.0 = ap length f.2 ∙ length-glyph g.text f.0 0 f.0 g.negative in
    elim (cases_lt i f.0) [
      | inl in_first ↦ first g f.0 i rest one f.2 in_first
      | inr past ↦
          let inside : i - f.0 < length rest = omega (arith, low, len, past, length-append (whole_columns g) rest) in
          let is : at (whole_columns g ++ rest) i ≡ at rest (i - f.0) = get_or-append_right (whole_columns g) rest f.0 i Unknown len past in
          subst (λ (c : Col). IsWholeAt c i (whole_columns g ++ rest)) (sym is)
          (later (at rest (i - f.0)) i (i - f.0) (whole_columns g) rest (omega (arith, len, past)) (whole_by gs (All-tail IsGlyph g gs h) (i - f.0) inside))
    ]

pub stands_whole : (xs : List Col) → AreWhole xs → (i : ℕ) → i < length xs → IsWholeAt (at xs i) i xs
stands_whole xs a i low =
    subst (λ (ys : List Col). IsWholeAt (at ys i) i ys) a.are (whole_by a.glyphs a.each i (omega (arith, ap length a.are, low)))

-- ---- two lists

pub share : (old new : List Col) → length old ≡ length new → AreWhole old → AreWhole new → ShareWholeGlyphs old new
share old new size a b i low e = (
  stands_whole old a i low,
  subst (λ (c : Col). IsWholeAt c i new) (sym e) (stands_whole new b i (omega (arith, low, size))),
)

-- a column of a glyph, from another of the same glyph
of_glyph : (text : List ℕ) (count offset : ℕ) (negative : Bool) (i k : ℕ) (columns : List Col) → StandsWhole text count offset negative i columns
    → i ≤ k + offset → k + offset < i + count → at columns k ≡ Glyph text count (k + offset - i) negative
of_glyph text count offset negative i k columns h low high =
    let j = k + offset - i in
    let within : offset < count = h.within in
    let begins : offset ≤ i = h.begins in
    let inside : j < count = omega arith in
    let there : i - offset + j ≡ k = omega arith in
    let g : WholeGlyph = record { text = text; negative = negative } in
    let one : IsGlyph g = record { utf8 = h.glyph.utf8; one = h.glyph.one } in
    let f = columns_form g one in
    let len : f.0 ≡ count = sym (length-glyph text f.0 0 f.0 negative) ∙ ap length (sym f.2) ∙ sym h.counted in
    ap (at columns) (sym there)
    ∙ sym (get_or-drop (i - offset) columns j Unknown)
    ∙ sym (get_or-take count (drop (i - offset) columns) j Unknown inside)
    ∙ ap (λ cs. at cs j) (h.all ∙ f.2)
    ∙ ap (λ n. at (glyph_columns text n negative) j) len
    ∙ column_of text count j negative inside

-- all of a glyph's columns are among these
inside_all : (text : List ℕ) (count offset : ℕ) (negative : Bool) (i k : ℕ) (columns : List Col) → StandsWhole text count offset negative i columns
    → k + offset < i + count → k < length columns
inside_all text count offset negative i k columns h high =
    let within : offset < count = h.within in
    let begins : offset ≤ i = h.begins in
    let len : length (take count (drop (i - offset) columns)) ≡ count = ap length h.all ∙ sym h.counted in
    omega (arith, len, length-take count (drop (i - offset) columns), length-drop (i - offset) columns)

differ_at : (x : Col) (old new : List Col) (i k : ℕ) → length old ≡ length new → AreWhole new → at old i ≡ x → IsWholeAt x i old → IsOfGlyph x i k
    → at old k ≡ at new k → at old i ≡ at new i
differ_at Unknown old new i k size b is h of e = absurd h
differ_at (Glyph text count offset negative) old new i k size b is h of e =
    let j = k + offset - i in
    let low : i ≤ k + offset = of.0 in
    let high : k + offset < i + count = of.1 in
    let within : offset < count = h.within in
    let begins : offset ≤ i = h.begins in
    let here : at new k ≡ Glyph text count j negative = sym e ∙ of_glyph text count offset negative i k old h low high in
    let inside : k < length new = omega (arith, inside_all text count offset negative i k old h high, size) in
    let whole : StandsWhole text count j negative k new = subst (λ (c : Col). IsWholeAt c k new) here (stands_whole new b k inside) in
    let back : i + j - k ≡ offset = omega arith in
    is ∙ sym (of_glyph text count j negative k i new whole (omega arith) (omega arith) ∙ ap (λ o. Glyph text count o negative) back)

pub differ : (old new : List Col) → length old ≡ length new → AreWhole old → AreWhole new → DifferInWholeGlyphs old new
differ old new size a b i k low of other e =
    other (differ_at (at old i) old new i k size b refl (stands_whole old a i low) of e)
