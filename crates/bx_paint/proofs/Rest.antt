-- A row that is half painted: the new row's columns as far as it is done, and after them the old row's. Those are unknown if their
-- glyph was covered.
use Rattle.std.proofs.Common.{◌≡◌, ℕ, ◌+◌, ◌*◌, ◌≤◌, Bool, true, false, nat_lt, List, [], ◌∷◌, ◌++◌, length, take, drop, replicate, zero, suc, refl, ap, sym}
use Rattle.std.proofs.Common.{◌∙◌, length-append, arith}
use Rattle.std.proofs.lemmas.Bool.Decides.{nat_tests}
use Rattle.std.proofs.lemmas.List.{take_at, drop_at, drop-drop}
use Rattle.bx_grid.specs.Columns.{Col, blank, columns_before, cut_after, put, put_in_row, glyph_columns, glyph_columns_from}
use Rattle.bx_grid.specs.Glyphs.{WholeGlyph, IsGlyph, whole_columns, AreWhole}
use Rattle.bx_grid.proofs.Pasted.{past_blanks}
use Rattle.bx_grid.proofs.Whole.{columns_form, whole_split, whole_after, whole_left, whole_right}
use Rattle.bx_grid.proofs.CutColumns.{length-cut_after}
use Rattle.bx_grid.proofs.CutColumns.{cut_after-drop}

-- ---- the columns after an index

right_by : (t : Bool) (e d : ℕ) (x : Col) (xs : List Col) → nat_lt d (columns_before x) ≡ t → e ≤ d
    → cut_after (e + 1) (cut_after (d + 1) xs) ≡ cut_after (e + 1) xs
    → cut_after e (cut_after d (x ∷ xs)) ≡ cut_after e (x ∷ xs)
right_by true e d x xs t h more =
    let here : nat_lt e (columns_before x) ≡ true = grind (arith, nat_tests) in
    let none : nat_lt e 0 ≡ false = grind (arith, nat_tests) in
    rw (t, here, none, more) refl
right_by false e d x xs t h more = rw (t, more) refl

-- of columns that are cut off again, farther on
right_again : (e d : ℕ) (xs : List Col) → e ≤ d → cut_after e (cut_after d xs) ≡ cut_after e xs
right_again e d [] h = refl
right_again e d (x ∷ xs) h = right_by (nat_lt d (columns_before x)) e d x xs refl h (right_again (e + 1) (d + 1) xs (omega arith))

right_rest : (n : ℕ) (xs : List Col) → cut_after 0 (drop n (cut_after 0 xs)) ≡ cut_after 0 (drop n xs)
right_rest n xs = ap (cut_after 0) (cut_after-drop 0 n xs) ∙ right_again 0 (0 + n) (drop n xs) (omega arith)

-- ---- a glyph that stays

kept_by : (n : ℕ) (before ys : List Col) (g : WholeGlyph) → IsGlyph g → 1 ≤ n → whole_columns g ≡ glyph_columns g.text n g.negative
    → AreWhole (before ++ (whole_columns g ++ ys))
    → AreWhole (whole_columns g ++ ys) × AreWhole ys
kept_by zero before ys g h some is whole = absurd (omega (arith, some))
kept_by (suc m) before ys g h some is whole =
    let parts = whole_split before g.text (suc m) g.negative (glyph_columns_from g.text (suc m) g.negative (0 + 1) m ++ ys) (rw is at whole) in
    let here : AreWhole (whole_columns g ++ ys) = rw is parts.1 in
    (here, whole_after g ys h here)

pub kept : (before ys : List Col) (g : WholeGlyph) → IsGlyph g → AreWhole (before ++ (whole_columns g ++ ys))
    → cut_after 0 (whole_columns g ++ ys) ≡ whole_columns g ++ cut_after 0 ys
kept before ys g h whole =
    let form = columns_form g h in
    let parts = kept_by form.0 before ys g h form.1 form.2 whole in
    whole_right 0 (whole_columns g ++ ys) parts.0 ∙ ap (λ zs. whole_columns g ++ zs) (sym (whole_right 0 ys parts.1))

-- ---- blanks

pub kept_blanks : (k : ℕ) (before ys : List Col) → AreWhole (before ++ (replicate k blank ++ ys))
    → cut_after 0 (replicate k blank ++ ys) ≡ replicate k blank ++ cut_after 0 ys
kept_blanks zero before ys h = refl
kept_blanks (suc k) before ys h =
    let here = (whole_split before (32 ∷ []) 1 false (replicate k blank ++ ys) h).1 in
    whole_right 0 (replicate (suc k) blank ++ ys) here
    ∙ ap (λ zs. replicate (suc k) blank ++ zs) (sym (whole_right 0 ys (past_blanks (suc k) ys here)))

-- ---- the columns while a row is painted

-- the rows above, the row, and the rows below
abbrev pub partly : List Col → List Col → List Col → List Col → List Col
partly above done rest below = above ++ ((done ++ cut_after 0 rest) ++ below)

-- the next column to be painted is c
pub record IsAtColumn (r c w : ℕ) (above done rest : List Col) : Type 0 where
  pub high : length above ≡ r * w
  pub at : length done ≡ c
  pub wide : c + length rest ≡ w
  pub whole : AreWhole done

row_put : (done rest new : List Col) (c : ℕ) → AreWhole done → length done ≡ c
    → put_in_row (done ++ cut_after 0 rest) c new ≡ (done ++ new) ++ cut_after 0 (drop (length new) rest)
row_put done rest new c whole at =
    let n = length new in
    let row = done ++ cut_after 0 rest in
    let front : take c row ≡ done = take_at done (cut_after 0 rest) c at in
    let back : drop (c + n) row ≡ drop n (cut_after 0 rest) = sym (drop-drop n c row) ∙ ap (drop n) (drop_at done (cut_after 0 rest) c at) in
    rw (front, back, whole_left done whole, right_rest n rest) refl

-- columns put next extend the part that is done
pub put_partly : (above done rest below new : List Col) (r c w : ℕ) → IsAtColumn r c w above done rest
    → put w (partly above done rest below) r c new ≡ partly above (done ++ new) (drop (length new) rest) below
put_partly above done rest below new r c w h =
    let row = done ++ cut_after 0 rest in
    let wide : length row ≡ w = length-append done (cut_after 0 rest) ∙ omega (arith, length-cut_after 0 rest, h.at, h.wide) in
    let front : take (r * w) (above ++ (row ++ below)) ≡ above = take_at above (row ++ below) (r * w) h.high in
    let back : drop (r * w) (above ++ (row ++ below)) ≡ row ++ below = drop_at above (row ++ below) (r * w) h.high in
    let here : take w (row ++ below) ≡ row = take_at row below w wide in
    let past : drop w (row ++ below) ≡ below = drop_at row below w wide in
    rw (front, back, here, past) (ap (λ xs. above ++ (xs ++ below)) (row_put done rest new c h.whole h.at))
