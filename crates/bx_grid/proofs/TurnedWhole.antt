-- Whole glyphs, cut at borders, and turned.
use Rattle.std.proofs.Common.{◌≡◌, ℕ, zero, suc, ◌+◌, ◌*◌, ◌-◌, ◌<◌, ◌≤◌, Bool, true, false, not, nat_le, List, [], ◌∷◌, ◌++◌, length, map, take, drop}
use Rattle.std.proofs.Common.{get_or, set, refl, ap, ap₂, sym, subst, ◌∙◌, append_assoc, arith}
use Rattle.std.proofs.lemmas.Bool.Decides.{nat_tests}
use borrow.Rule.Slice.PartMut.{put_mid}
use Rattle.std.proofs.Math.Seq.{take-append-add, drop-append-add}
use Rattle.std.proofs.lemmas.List.{drop-append-le, drop-drop, drop-map, get_or-append-add, get_or-drop, get_or-map, length-drop, length-map, length-take-le}
use Rattle.std.proofs.lemmas.List.{map-append, map-set, take-append-le, take-map}
use Rattle.std.proofs.lemmas.List.Edits.{map_over_more}
use Rattle.std.proofs.lemmas.List.Elements.{All-head, All-tail}
use Rattle.std.specs.Prelude.{if◌then◌else◌, All}
use Rattle.std.specs.Str.{chars}
use Rattle.unicode_width.specs.Width.{str_width}
use Rattle.bx_grid.specs.Columns.{Col, Unknown, Glyph, are_ascii_printable, blank, columns_before, glyph_columns, glyph_columns_from}
use Rattle.bx_grid.specs.Columns.{plain_columns, turned}
use Rattle.bx_grid.specs.Grid.{paste, IsBorder, turned_in}
use Rattle.bx_grid.specs.Glyphs.{WholeGlyph, IsGlyph, whole_columns, all_columns, AreWhole}
use Rattle.bx_grid.specs.Seen.{seen, all_seen}
use Rattle.bx_grid.specs.declared.column.Column.{Column}
use Rattle.bx_grid.proofs.Pasted.{length-paste, paste_after, paste_before, three_parts}
use Rattle.bx_grid.proofs.Puts.{length-glyph}
use Rattle.bx_grid.proofs.Whole.{columns_form, whole-append, whole-nil, whole_along, whole_glyph}

-- ---- columns of whole glyphs, cut at a border

offset-at : (text : List ℕ) (count n offset k : ℕ) (negative : Bool) (later : List Col) → k < n
    → columns_before (get_or (glyph_columns_from text count negative offset n ++ later) k blank) ≡ offset + k
offset-at text count zero offset k negative later h = absurd (omega arith)
offset-at text count (suc n) offset zero negative later h = omega arith
offset-at text count (suc n) offset (suc k) negative later h = offset-at text count n (offset + 1) k negative later (omega arith) ∙ omega arith

abbrev Cut : List Col → ℕ → Type 0
Cut cs k = AreWhole (take k cs) × AreWhole (drop k cs)

cut-past : (xs ys : List Col) (k q : ℕ) → k ≡ length xs + q → AreWhole xs → Cut ys q → Cut (xs ++ ys) k
cut-past xs ys k q e whole cut = (
  whole_along (xs ++ take q ys) (take k (xs ++ ys)) (sym (take-append-add xs ys q) ∙ ap (λ n. take n (xs ++ ys)) (sym e))
      (whole-append xs (take q ys) whole cut.0),
  whole_along (drop q ys) (drop k (xs ++ ys)) (sym (drop-append-add xs ys q) ∙ ap (λ n. drop n (xs ++ ys)) (sym e)) cut.1,
)

border-past : (xs ys : List Col) (k q : ℕ) → k ≡ length xs + q → IsBorder (xs ++ ys) k → IsBorder ys q
border-past xs ys k q e b = ap columns_before (sym (ap (λ n. get_or (xs ++ ys) n blank) e ∙ get_or-append-add xs ys q blank)) ∙ b

-- past the first glyph, or before it
cut-glyph : (g : WholeGlyph) (later : List Col) → IsGlyph g → ((q : ℕ) → IsBorder later q → Cut later q) → (n k : ℕ) (past : Bool) → nat_le n k ≡ past
    → 1 ≤ k → whole_columns g ≡ glyph_columns g.text n g.negative → IsBorder (whole_columns g ++ later) k → Cut (whole_columns g ++ later) k
cut-glyph g later one rest n k true e low form b =
    let len : length (whole_columns g) ≡ n = ap length form ∙ length-glyph g.text n 0 n g.negative in
    let at : k ≡ length (whole_columns g) + (k - n) = let le : n ≤ k = grind (arith, nat_tests) in omega (arith, len, le) in
    cut-past (whole_columns g) later k (k - n) at (whole_glyph g one) (rest (k - n) (border-past (whole_columns g) later k (k - n) at b))
cut-glyph g later one rest n k false e low form b =
    let inside : k < n = grind (arith, nat_tests) in
    let offset = ap (λ cs. columns_before (get_or (cs ++ later) k blank)) form ∙ offset-at g.text n n 0 k g.negative later inside in
    absurd (omega (arith, offset, b, low))

cut-by : (gs : List WholeGlyph) → All IsGlyph gs → (k : ℕ) → IsBorder (all_columns gs) k → Cut (all_columns gs) k
cut-by gs h zero b = (whole-nil, record { glyphs = gs; each = h; are = refl })
cut-by [] h (suc k) b = (whole-nil, whole-nil)
cut-by (g ∷ gs) h (suc k) b =
    let one = All-head IsGlyph g gs h in
    let f = columns_form g one in
    cut-glyph g (all_columns gs) one (λ q c. cut-by gs (All-tail IsGlyph g gs h) q c) f.0 (suc k) (nat_le f.0 (suc k)) refl (omega arith) f.2 b

pub whole-cut : (cs : List Col) (k : ℕ) → AreWhole cs → IsBorder cs k → Cut cs k
whole-cut cs k a b = subst (λ xs. Cut xs k) a.are (cut-by a.glyphs a.each k (subst (λ xs. IsBorder xs k) (sym a.are) b))

-- ---- whole glyphs, turned

abbrev turned_glyph : WholeGlyph → WholeGlyph
turned_glyph g = record { text = g.text; negative = not g.negative }

turned-from : (text : List ℕ) (count n offset : ℕ) (negative : Bool)
    → map turned (glyph_columns_from text count negative offset n) ≡ glyph_columns_from text count (not negative) offset n
turned-from text count zero offset negative = refl
turned-from text count (suc n) offset negative = ap (λ cs. Glyph text count offset (not negative) ∷ cs) (turned-from text count n (offset + 1) negative)

turned-plain : (text : List ℕ) (negative : Bool) → map turned (plain_columns negative text) ≡ plain_columns (not negative) text
turned-plain [] negative = refl
turned-plain (b ∷ bs) negative = ap (λ cs. Glyph (b ∷ []) 1 0 (not negative) ∷ cs) (turned-plain bs negative)

run-turned : (plain : Bool) (text : List ℕ) (n : ℕ) (negative : Bool)
    → map turned (if plain then plain_columns negative text else glyph_columns text n negative)
    ≡ (if plain then plain_columns (not negative) text else glyph_columns text n (not negative))
run-turned true text n negative = turned-plain text negative
run-turned false text n negative = turned-from text n n 0 negative

glyph-turned : (g : WholeGlyph) → map turned (whole_columns g) ≡ whole_columns (turned_glyph g)
glyph-turned g = run-turned (are_ascii_printable g.text) g.text (str_width false (chars g.text)) g.negative

whole-by : (gs : List WholeGlyph) → All IsGlyph gs → AreWhole (map turned (all_columns gs))
whole-by [] h = whole-nil
whole-by (g ∷ gs) h =
    let one = All-head IsGlyph g gs h in
    whole_along (whole_columns (turned_glyph g) ++ map turned (all_columns gs)) (map turned (whole_columns g ++ all_columns gs))
    (ap (λ cs. cs ++ map turned (all_columns gs)) (sym (glyph-turned g)) ∙ sym (map-append turned (whole_columns g) (all_columns gs)))
    (whole-append (whole_columns (turned_glyph g)) (map turned (all_columns gs))
    (whole_glyph (turned_glyph g) (record { utf8 = one.utf8; one = one.one })) (whole-by gs (All-tail IsGlyph g gs h)))

pub whole-turned : (cs : List Col) → AreWhole cs → AreWhole (map turned cs)
whole-turned cs a = whole_along (map turned (all_columns a.glyphs)) (map turned cs) (ap (map turned) a.are) (whole-by a.glyphs a.each)

module _ (cs : List Col) (k n : ℕ) (fits : k + n ≤ length cs) where
  abbrev inside : List Col
  inside = take n (drop k cs)

  pub length-inside : length (map turned inside) ≡ n
  length-inside = length-map inside turned ∙ length-take-le n (drop k cs) (omega (arith, length-drop k cs, fits))

  pub length-turned : length (turned_in cs k n) ≡ length cs
  length-turned = length-paste cs (map turned inside) k (omega (arith, length-inside, fits))

  -- whole glyphs turned among others
  pub whole-turned_in : AreWhole cs → IsBorder cs k → IsBorder cs (k + n) → AreWhole (turned_in cs k n)
  whole-turned_in a begins ends =
      let rest = drop k cs in
      let first = whole-cut cs k a begins in
      let last = whole-cut cs (k + n) a ends in
      let mid = whole-cut rest n first.1 (ap columns_before (get_or-drop k cs n blank) ∙ ends) in
      let behind : drop (k + n) cs ≡ drop (k + length (map turned inside)) cs = ap (λ m. drop (k + m) cs) (sym length-inside) in
      whole-append (take k cs ++ map turned inside) (drop (k + length (map turned inside)) cs)
      (whole-append (take k cs) (map turned inside) first.0 (whole-turned inside mid.0))
      (whole_along (drop (k + n) cs) (drop (k + length (map turned inside)) cs) behind last.1)

-- ---- borders stay

same-before : (c : Col) → columns_before (turned c) ≡ columns_before c
same-before Unknown = refl
same-before (Glyph text columns offset negative) = refl

befores-turned : (cs : List Col) → map columns_before (map turned cs) ≡ map columns_before cs
befores-turned [] = refl
befores-turned (c ∷ cs) = ap₂ (λ n ns. n ∷ ns) (same-before c) (befores-turned cs)

before-at : (cs : List Col) (k : ℕ) → columns_before (get_or cs k blank) ≡ get_or (map columns_before cs) k 0
before-at [] k = refl
before-at (c ∷ cs) zero = refl
before-at (c ∷ cs) (suc k) = before-at cs k

pub befores-kept : (cs : List Col) (k n : ℕ) → k + n ≤ length cs → map columns_before (turned_in cs k n) ≡ map columns_before cs
befores-kept cs k n fits =
    let mid = take n (drop k cs) in
    let len : k + length (map turned mid) ≡ k + n = ap (λ m. k + m) (length-inside cs k n fits) in
    map-append columns_before (take k cs ++ map turned mid) (drop (k + length (map turned mid)) cs)
    ∙ ap₂ (λ xs m. xs ++ map columns_before (drop m cs))
    (map-append columns_before (take k cs) (map turned mid) ∙ ap (λ xs. map columns_before (take k cs) ++ xs) (befores-turned mid)) len
    ∙ append_assoc (map columns_before (take k cs)) (map columns_before mid) (map columns_before (drop (k + n) cs))
    ∙ ap (λ xs. map columns_before (take k cs) ++ xs) (sym (map-append columns_before mid (drop (k + n) cs)))
    ∙ sym (map-append columns_before (take k cs) (mid ++ drop (k + n) cs))
    ∙ ap (map columns_before) (sym (three_parts cs k n))

pub border-turned : (cs : List Col) (k n j : ℕ) → k + n ≤ length cs → IsBorder cs j → IsBorder (turned_in cs k n) j
border-turned cs k n j fits b =
    before-at (turned_in cs k n) j ∙ ap (λ xs. get_or xs j 0) (befores-kept cs k n fits) ∙ sym (before-at cs j) ∙ b

-- ---- as the program turns them

-- one more column
pub turned-more : (columns old : List Column) (i : ℕ) (x y : Column) → i < length old → length columns ≡ length old
    → all_seen columns ≡ map turned (take i (all_seen old)) ++ drop i (all_seen old)
    → x ≡ get_or columns i x → seen y ≡ turned (seen x)
    → all_seen (set columns i y) ≡ map turned (take (i + 1) (all_seen old)) ++ drop (i + 1) (all_seen old)
turned-more columns old i x y h len is at turn =
    map-set seen columns i y
    ∙ ap (λ c. set (all_seen columns) i c) turn
    ∙ map_over_more turned (all_seen old) (all_seen columns) i (seen x) (omega (arith, h, length-map old seen)) is
    (ap seen at ∙ sym (get_or-map seen columns i x (seen x) (omega (arith, h, len))))

-- a part of the columns
pub part-turned : (columns part : List Column) (k n : ℕ) → k + n ≤ length columns → all_seen part ≡ map turned (all_seen (take n (drop k columns)))
    → all_seen (put_mid k n columns part) ≡ turned_in (all_seen columns) k n
part-turned columns part k n fits e =
    let seen-mid : all_seen (take n (drop k columns)) ≡ take n (drop k (all_seen columns)) =
    sym (ap (take n) (drop-map seen k columns) ∙ take-map seen n (drop k columns)) in
    let count : length (map turned (take n (drop k (all_seen columns)))) ≡ n =
    length-inside (all_seen columns) k n (omega (arith, fits, length-map columns seen)) in
    ap (λ xs. all_seen (take k columns ++ (part ++ xs))) (drop-drop n k columns)
    ∙ ap all_seen (sym (append_assoc (take k columns) part (drop (k + n) columns)))
    ∙ map-append seen (take k columns ++ part) (drop (k + n) columns)
    ∙ ap₂ (λ xs ys. xs ++ ys)
    (map-append seen (take k columns) part ∙ ap₂ (λ xs ys. xs ++ ys) (sym (take-map seen k columns)) (e ∙ ap (map turned) seen-mid))
    (sym (drop-map seen (k + n) columns) ∙ ap (λ m. drop (k + m) (all_seen columns)) (sym count))

-- columns of one row
pub row-turned : (cs : List Col) (r w k n : ℕ) → r * w + w ≤ length cs → k + n ≤ w
    → turned_in cs (r * w + k) n ≡ paste cs (r * w) (turned_in (take w (drop (r * w) cs)) k n)
row-turned cs r w k n inside fits =
    let start = r * w in
    let front = take start cs in
    let row = take w (drop start cs) in
    let back = drop (start + w) cs in
    let before : length front ≡ start = length-take-le start cs (omega (arith, inside)) in
    let wide : length row ≡ w = length-take-le w (drop start cs) (omega (arith, inside, length-drop start cs)) in
    let split : cs ≡ front ++ (row ++ back) = three_parts cs start w in
    let here : k ≤ length row = omega (arith, fits, wide) in
    let among : take n (drop (start + k) cs) ≡ take n (drop k row) =
    ap (λ xs. take n (drop (start + k) xs)) split
    ∙ ap (λ m. take n (drop m (front ++ (row ++ back)))) (let e : start + k ≡ length front + k = omega (arith, before) in e)
    ∙ ap (take n) (drop-append-add front (row ++ back) k ∙ drop-append-le k row back here)
    ∙ take-append-le n (drop k row) back (omega (arith, length-drop k row, wide, fits)) in
    let news = map turned (take n (drop k row)) in
    let count : length news ≡ n = length-inside row k n (omega (arith, wide, fits)) in
    let one : paste cs (start + k) news ≡ front ++ (paste row k news ++ back) =
    ap (λ xs. paste xs (start + k) news) split
    ∙ paste_after front (row ++ back) news (start + k) k (omega (arith, before))
    ∙ ap (λ xs. front ++ xs) (paste_before row back news k (omega (arith, count, wide, fits))) in
    let long : length (turned_in row k n) ≡ w = length-turned row k n (omega (arith, wide, fits)) ∙ wide in
    ap (λ xs. paste cs (start + k) (map turned xs)) among
    ∙ one
    ∙ sym (append_assoc front (turned_in row k n) back)
    ∙ ap (λ m. (front ++ turned_in row k n) ++ drop (start + m) cs) (sym long)
