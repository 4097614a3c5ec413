-- Whole glyphs: the columns of a glyph, and where columns of whole glyphs may be cut.
use Rattle.std.proofs.Common.{◌≡◌, ℕ, ◌+◌, ◌*◌, ◌-◌, ◌≤◌, Bool, true, false, not, ◌&&◌, ◌||◌, nat_le, nat_lt, nat_eq, List, [], ◌∷◌, ◌++◌, length, take, drop}
use Rattle.std.proofs.Common.{replicate, zero, suc, refl, ap, sym, ◌∙◌, append_assoc, length-append, arith}
use Rattle.std.specs.List.{list_all, All}
use Rattle.std.specs.Str.{chars}
use Rattle.std.proofs.lemmas.Bool.Decides.{nat_tests}
use Rattle.std.proofs.lemmas.List.{append-nil, append_cancel_left, take-append-drop, length-drop, replicate-append-replicate, take_at, drop_at, nil_from_length}
use Rattle.std.proofs.lemmas.List.{length-replicate}
use Rattle.std.proofs.lemmas.List.Elements.{All-nil, All-cons, All-head, All-tail, All-append}
use Rattle.std.proofs.lemmas.Bool.{not-true}
use Rattle.unicode_width.specs.Width.{str_width}
use Rattle.bx_bytes.specs.Utf8.{are_printable}
use Rattle.bx_grid.specs.Columns.{Col, Glyph, blank, is_ascii_glyph, glyph_columns, glyph_columns_from, run_columns, cut_before, cut_after}
use Rattle.bx_grid.specs.Effects.{Puts, glyphs_at}
use Rattle.bx_grid.specs.Glyphs.{WholeGlyph, IsGlyph, whole_columns, all_columns, AreWhole, AreWholeRows}
use Rattle.bx_grid.specs.Columns.{is_ascii_printable}
use Rattle.bx_grid.proofs.Puts.{length-glyph}
use Rattle.bx_grid.proofs.Reading.{and_left, and_right}

-- ---- the columns of a glyph

plain_form : (text : List ℕ) (negative : Bool) → is_ascii_glyph text ≡ true → run_columns negative text ≡ glyph_columns text 1 negative
plain_form [] negative h = absurd (cc h)
plain_form (b ∷ []) negative h = rw h refl
plain_form (b ∷ c ∷ rest) negative h = absurd (cc h)

form_by : (one : Bool) (text : List ℕ) (negative : Bool) → is_ascii_glyph text ≡ one
    → one || ((are_printable text && not (list_all is_ascii_printable text)) && nat_le 1 (str_width false (chars text))) ≡ true
    → (n : ℕ) × (1 ≤ n) × (run_columns negative text ≡ glyph_columns text n negative)
form_by true text negative e h = (1, omega arith, plain_form text negative e)
form_by false text negative e h =
    let w = str_width false (chars text) in
    let other : list_all is_ascii_printable text ≡ false =
    not-true (list_all is_ascii_printable text)
    (and_right (are_printable text) (not (list_all is_ascii_printable text))
    (and_left (are_printable text && not (list_all is_ascii_printable text)) (nat_le 1 w) h)) in
    let wide : nat_le 1 w ≡ true = and_right (are_printable text && not (list_all is_ascii_printable text)) (nat_le 1 w) h in
    (w, grind (arith, nat_tests), rw other refl)

-- a glyph has one column or more, which differ in their offsets alone
pub columns_form : (g : WholeGlyph) → IsGlyph g → (n : ℕ) × (1 ≤ n) × (whole_columns g ≡ glyph_columns g.text n g.negative)
columns_form g h = form_by (is_ascii_glyph g.text) g.text g.negative refl h.one

pub columns_some : (g : WholeGlyph) → IsGlyph g → 1 ≤ length (whole_columns g)
columns_some g h =
    let f = columns_form g h in
    let len : length (whole_columns g) ≡ f.0 = ap length f.2 ∙ length-glyph g.text f.0 0 f.0 g.negative in
    omega (arith, f.1, len)

-- ---- lists of glyphs

pub all_columns-append : (gs hs : List WholeGlyph) → all_columns (gs ++ hs) ≡ all_columns gs ++ all_columns hs
all_columns-append [] hs = refl
all_columns-append (g ∷ gs) hs =
    ap (λ cs. whole_columns g ++ cs) (all_columns-append gs hs) ∙ sym (append_assoc (whole_columns g) (all_columns gs) (all_columns hs))

pub whole-nil : AreWhole []
whole-nil = record { glyphs = []; each = All-nil IsGlyph; are = refl }

pub whole-append : (xs ys : List Col) → AreWhole xs → AreWhole ys → AreWhole (xs ++ ys)
whole-append xs ys a b = record {
  glyphs = a.glyphs ++ b.glyphs;
  each = All-append IsGlyph a.glyphs b.glyphs a.each b.each;
  are = all_columns-append a.glyphs b.glyphs ∙ ap (λ cs. cs ++ all_columns b.glyphs) a.are ∙ ap (λ cs. xs ++ cs) b.are;
}

pub whole_along : (xs ys : List Col) → xs ≡ ys → AreWhole xs → AreWhole ys
whole_along xs ys e a = record { glyphs = a.glyphs; each = a.each; are = a.are ∙ e }

pub whole_glyph : (g : WholeGlyph) → IsGlyph g → AreWhole (whole_columns g)
whole_glyph g h = record { glyphs = g ∷ []; each = All-cons IsGlyph g [] h (All-nil IsGlyph); are = append-nil (whole_columns g) }

-- ---- where columns may be cut

-- columns past a glyph's first begin no glyph: all of them come before the next first column
past : (text : List ℕ) (count n offset : ℕ) (negative : Bool) (later xs ys : List Col) (start : List ℕ) (columns : ℕ) (other : Bool) → 1 ≤ offset
    → glyph_columns_from text count negative offset n ++ later ≡ xs ++ Glyph start columns 0 other ∷ ys
    → (zs : List Col) × (xs ≡ glyph_columns_from text count negative offset n ++ zs) × (later ≡ zs ++ Glyph start columns 0 other ∷ ys)
past text count zero offset negative later xs ys start columns other low e = (xs, refl, e)
past text count (suc n) offset negative later [] ys start columns other low e =
    absurd (let none : offset ≡ 0 = cc e in omega arith)
past text count (suc n) offset negative later (x ∷ xs) ys start columns other low e =
    let first : Glyph text count offset negative ≡ x = cc e in
    let rest : glyph_columns_from text count negative (offset + 1) n ++ later ≡ xs ++ Glyph start columns 0 other ∷ ys = cc e in
    let cut = past text count n (offset + 1) negative later xs ys start columns other (omega arith) rest in
    (cut.0, ap (λ y. y ∷ xs) (sym first) ∙ ap (λ cs. Glyph text count offset negative ∷ cs) cut.1, cut.2)

-- the first glyph comes before a column that begins one, or that column is its first
first_cut : (g : WholeGlyph) (n : ℕ) (later xs ys : List Col) (x : Col) (text : List ℕ) (columns : ℕ) (negative : Bool) → 1 ≤ n
    → glyph_columns g.text n g.negative ++ later ≡ (x ∷ xs) ++ Glyph text columns 0 negative ∷ ys
    → (zs : List Col) × (x ∷ xs ≡ glyph_columns g.text n g.negative ++ zs) × (later ≡ zs ++ Glyph text columns 0 negative ∷ ys)
first_cut g zero later xs ys x text columns negative low e = absurd (omega arith)
first_cut g (suc n) later xs ys x text columns negative low e =
    let first : Glyph g.text (suc n) 0 g.negative ≡ x = cc e in
    let rest : glyph_columns_from g.text (suc n) g.negative 1 n ++ later ≡ xs ++ Glyph text columns 0 negative ∷ ys = cc e in
    let cut = past g.text (suc n) n 1 g.negative later xs ys text columns negative (omega arith) rest in
    (cut.0, ap (λ y. y ∷ xs) (sym first) ∙ ap (λ cs. Glyph g.text (suc n) 0 g.negative ∷ cs) cut.1, cut.2)

split_by : (gs : List WholeGlyph) → All IsGlyph gs → (xs : List Col) (text : List ℕ) (columns : ℕ) (negative : Bool) (ys : List Col)
    → all_columns gs ≡ xs ++ Glyph text columns 0 negative ∷ ys → AreWhole xs × AreWhole (Glyph text columns 0 negative ∷ ys)
split_by gs h [] text columns negative ys e = (whole-nil, record { glyphs = gs; each = h; are = e })
split_by [] h (x ∷ xs) text columns negative ys e = absurd (cc e)
split_by (g ∷ gs) h (x ∷ xs) text columns negative ys e =
    let one = All-head IsGlyph g gs h in
    let f = columns_form g one in
    let cut = first_cut g f.0 (all_columns gs) xs ys x text columns negative f.1 (ap (λ cs. cs ++ all_columns gs) (sym f.2) ∙ e) in
    let rest = split_by gs (All-tail IsGlyph g gs h) cut.0 text columns negative ys cut.2 in (
      whole_along (whole_columns g ++ cut.0) (x ∷ xs) (ap (λ cs. cs ++ cut.0) f.2 ∙ sym cut.1) (whole-append (whole_columns g) cut.0 (whole_glyph g one) rest.0),
      rest.1,
    )

-- a column of offset 0 begins a glyph
pub whole_split : (xs : List Col) (text : List ℕ) (columns : ℕ) (negative : Bool) (ys : List Col)
    → AreWhole (xs ++ Glyph text columns 0 negative ∷ ys) → AreWhole xs × AreWhole (Glyph text columns 0 negative ∷ ys)
whole_split xs text columns negative ys a = split_by a.glyphs a.each xs text columns negative ys a.are

-- columns that begin with a glyph's first
pub record IsHeaded (text : List ℕ) (columns : ℕ) (negative : Bool) (ys : List Col) : Type 0 where
  pub glyph : IsGlyph (record { text = text; negative = negative })
  pub some : 1 ≤ columns
  pub form : run_columns negative text ≡ glyph_columns text columns negative
  pub rest : List Col
  pub whole : AreWhole rest
  pub are : Glyph text columns 0 negative ∷ ys ≡ run_columns negative text ++ rest

first_is : (g : WholeGlyph) (n : ℕ) (later ys : List Col) (text : List ℕ) (columns : ℕ) (negative : Bool) → 1 ≤ n
    → glyph_columns g.text n g.negative ++ later ≡ Glyph text columns 0 negative ∷ ys
    → (g.text ≡ text) × (n ≡ columns) × (g.negative ≡ negative)
first_is g zero later ys text columns negative low e = absurd (omega arith)
first_is g (suc n) later ys text columns negative low e = (cc e, cc e, cc e)

headed : (g : WholeGlyph) (n : ℕ) (later ys : List Col) (text : List ℕ) (columns : ℕ) (negative : Bool) → g.text ≡ text → n ≡ columns → g.negative ≡ negative
    → IsGlyph g → 1 ≤ n → whole_columns g ≡ glyph_columns g.text n g.negative → AreWhole later → whole_columns g ++ later ≡ Glyph text columns 0 negative ∷ ys
    → IsHeaded text columns negative ys
headed g n later ys text columns negative et en ex one some form whole e = record {
  glyph = record { utf8 = rw (← et) one.utf8; one = rw (← et) one.one };
  some = omega arith;
  form = rw (← et, ← en, ← ex) form;
  rest = later;
  whole = whole;
  are = rw (← et, ← ex) (sym (rw (← et, ← ex) at e));
}

head_by : (gs : List WholeGlyph) → All IsGlyph gs → (text : List ℕ) (columns : ℕ) (negative : Bool) (ys : List Col)
    → all_columns gs ≡ Glyph text columns 0 negative ∷ ys → IsHeaded text columns negative ys
head_by [] h text columns negative ys e = absurd (cc e)
head_by (g ∷ gs) h text columns negative ys e =
    let one = All-head IsGlyph g gs h in
    let f = columns_form g one in
    let is = first_is g f.0 (all_columns gs) ys text columns negative f.1 (ap (λ cs. cs ++ all_columns gs) (sym f.2) ∙ e) in
    headed g f.0 (all_columns gs) ys text columns negative is.0 is.1 is.2 one f.1 f.2 (record { glyphs = gs; each = All-tail IsGlyph g gs h; are = refl }) e

pub whole_head : (text : List ℕ) (columns : ℕ) (negative : Bool) (ys : List Col) → AreWhole (Glyph text columns 0 negative ∷ ys)
    → IsHeaded text columns negative ys
whole_head text columns negative ys a = head_by a.glyphs a.each text columns negative ys a.are

after_by : (g : WholeGlyph) (n : ℕ) (ys : List Col) → 1 ≤ n → whole_columns g ≡ glyph_columns g.text n g.negative → AreWhole (whole_columns g ++ ys) → AreWhole ys
after_by g zero ys low f a = absurd (omega arith)
after_by g (suc n) ys low f a =
    let first : whole_columns g ++ ys ≡ Glyph g.text (suc n) 0 g.negative ∷ (glyph_columns_from g.text (suc n) g.negative 1 n ++ ys) = ap (λ cs. cs ++ ys) f in
    let h = whole_head g.text (suc n) g.negative (glyph_columns_from g.text (suc n) g.negative 1 n ++ ys) (whole_along (whole_columns g ++ ys) _ first a) in
    whole_along h.rest ys (append_cancel_left (whole_columns g) h.rest ys (sym h.are ∙ sym first)) h.whole

-- the columns after a glyph's
pub whole_after : (g : WholeGlyph) (ys : List Col) → IsGlyph g → AreWhole (whole_columns g ++ ys) → AreWhole ys
whole_after g ys h a =
    let f = columns_form g h in
    after_by g f.0 ys f.1 f.2 a

-- ---- putting glyphs beside whole ones spoils nothing

left_from : (text : List ℕ) (count n offset : ℕ) (negative : Bool) (later : List Col) → offset + n ≡ count → cut_before later ≡ later
    → cut_before (glyph_columns_from text count negative offset n ++ later) ≡ glyph_columns_from text count negative offset n ++ later
left_from text count zero offset negative later e kept = kept
left_from text count (suc n) offset negative later e kept =
    let rest = glyph_columns_from text count negative (offset + 1) n ++ later in
    let len : length rest ≡ n + length later =
    length-append (glyph_columns_from text count negative (offset + 1) n) later
    ∙ ap (λ m. m + length later) (length-glyph text count (offset + 1) n negative) in
    let test : nat_lt (length rest) (count - (offset + 1)) ≡ false = let low : count - (offset + 1) ≤ length rest = omega arith in grind (arith, nat_tests) in
    rw test (ap (λ cs. Glyph text count offset negative ∷ cs) (left_from text count n (offset + 1) negative later (omega arith) kept))

left_by : (gs : List WholeGlyph) → All IsGlyph gs → cut_before (all_columns gs) ≡ all_columns gs
left_by [] h = refl
left_by (g ∷ gs) h =
    let f = columns_form g (All-head IsGlyph g gs h) in
    rw f.2 (left_from g.text f.0 f.0 0 g.negative (all_columns gs) (omega arith) (left_by gs (All-tail IsGlyph g gs h)))

pub whole_left : (xs : List Col) → AreWhole xs → cut_before xs ≡ xs
whole_left xs a = rw (← a.are) (left_by a.glyphs a.each)

right_from : (text : List ℕ) (count n offset d : ℕ) (negative : Bool) (later : List Col) → offset ≤ d → ((e : ℕ) → cut_after e later ≡ later)
    → cut_after d (glyph_columns_from text count negative offset n ++ later) ≡ glyph_columns_from text count negative offset n ++ later
right_from text count zero offset d negative later low kept = kept d
right_from text count (suc n) offset d negative later low kept =
    let test : nat_lt d offset ≡ false = grind (arith, nat_tests) in
    rw test (ap (λ cs. Glyph text count offset negative ∷ cs) (right_from text count n (offset + 1) (d + 1) negative later (omega arith) kept))

right_by : (gs : List WholeGlyph) → All IsGlyph gs → (d : ℕ) → cut_after d (all_columns gs) ≡ all_columns gs
right_by [] h d = refl
right_by (g ∷ gs) h d =
    let f = columns_form g (All-head IsGlyph g gs h) in
    rw f.2 (right_from g.text f.0 f.0 0 d g.negative (all_columns gs) (omega arith) (right_by gs (All-tail IsGlyph g gs h)))

pub whole_right : (d : ℕ) (xs : List Col) → AreWhole xs → cut_after d xs ≡ xs
whole_right d xs a = rw (← a.are) (right_by a.glyphs a.each d)

-- ---- blanks and rows

abbrev pub space : WholeGlyph
space = record { text = 32 ∷ []; negative = false }

pub space_is : IsGlyph space
unfolding lib.Utf8.encode
space_is = record { utf8 = (32 ∷ [], (refl, refl)); one = refl }

pub whole_blanks : (n : ℕ) → AreWhole (replicate n blank)
whole_blanks zero = whole-nil
whole_blanks (suc n) = whole-append (whole_columns space) (replicate n blank) (whole_glyph space space_is) (whole_blanks n)

pub rows_whole : (h w : ℕ) (cs : List Col) → length cs ≡ h * w → AreWholeRows h w cs → AreWhole cs
rows_whole zero w cs len rows = whole_along [] cs (sym (nil_from_length cs (omega (arith, len)))) whole-nil
rows_whole (suc h) w cs len rows =
    whole_along (take w cs ++ drop w cs) cs (take-append-drop w cs)
    (whole-append (take w cs) (drop w cs) rows.0 (rows_whole h w (drop w cs) (length-drop w cs ∙ omega (arith, len)) rows.1))

pub rows-blank : (h w : ℕ) → AreWholeRows h w (replicate (h * w) blank)
rows-blank zero w = tt
rows-blank (suc h) w =
    let split : replicate (suc h * w) blank ≡ replicate w blank ++ replicate (h * w) blank =
    ap (λ n. replicate n blank) (let e : suc h * w ≡ w + h * w = omega arith in e) ∙ sym (replicate-append-replicate w (h * w) blank) in
    let first : take w (replicate w blank ++ replicate (h * w) blank) ≡ replicate w blank =
    take_at (replicate w blank) (replicate (h * w) blank) w (length-replicate w blank) in
    let rest : drop w (replicate w blank ++ replicate (h * w) blank) ≡ replicate (h * w) blank =
    drop_at (replicate w blank) (replicate (h * w) blank) w (length-replicate w blank) in
    rw (split, first, rest) (whole_blanks w, rows-blank h w)

-- ---- what a terminal does for a glyph

effects_past : (index : ℕ) (text : List ℕ) (count n offset : ℕ) (negative : Bool) → 1 ≤ offset
    → glyphs_at index (glyph_columns_from text count negative offset n) ≡ []
effects_past index text count zero offset negative low = refl
effects_past index text count (suc n) offset negative low =
    let other : nat_eq offset 0 ≡ false = grind (arith, nat_tests) in
    rw other (effects_past (index + 1) text count n (offset + 1) negative (omega arith))

effects_by : (index : ℕ) (text : List ℕ) (n : ℕ) (negative : Bool) → 1 ≤ n → glyphs_at index (glyph_columns text n negative) ≡ Puts index text negative ∷ []
effects_by index text zero negative low = absurd (omega arith)
effects_by index text (suc n) negative low = ap (λ ds. Puts index text negative ∷ ds) (effects_past (index + 1) text (suc n) n 1 negative (omega arith))

pub glyph_effects : (index : ℕ) (g : WholeGlyph) → IsGlyph g → glyphs_at index (whole_columns g) ≡ Puts index g.text g.negative ∷ []
glyph_effects index g h =
    let f = columns_form g h in
    ap (glyphs_at index) f.2 ∙ effects_by index g.text f.0 g.negative f.1
