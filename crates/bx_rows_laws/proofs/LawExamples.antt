-- Examples from each law alone. Where the definition would compute, levels, classes or bodies are left open.
use Rattle.std.proofs.Common.{◌≡◌, ◌⊎◌, ℕ, suc, ◌+◌, ◌%◌, ◌<◌, ◌≤◌, List, [], ◌∷◌, length, map, drop, get_or, slice_range, true, Option, All}
use Rattle.std.proofs.Common.{refl, sym, ap, ap₂, subst, ◌∙◌, arith, inl, inr}
use Rattle.std.specs.Prelude.{IsPermutation, None, Some, chars, codes, encode_utf8_all, false, flat_map}
use Rattle.std.specs.Str.{IsUtf8}
use Rattle.std.proofs.lemmas.Bool.{cases_eq}
use Rattle.std.proofs.lemmas.List.Elements.{All-cons, All-nil, All-weaker}
use Rattle.std.proofs.lemmas.List.Sorted.{length_permutation, sum_by-IsPermutation}
use Rattle.std.proofs.lemmas.Str.{IsCharBoundary-end, IsCharBoundary-start}
use Rattle.bx_ucd.specs.Data.{Data}
use Rattle.bx_ucd.specs.declared.joining.Form.{Form}
use Rattle.bx_ucd.specs.declared.joining.Joining.{Joining}
use Rattle.unicode_segmentation.proofs.Computing.{unicode_segmentation}
use Rattle.unicode_width.proofs.Computing.{unicode_width}
use Rattle.bx_ucd.specs.SmallTables.{small}
use Rattle.bx_rows.specs.declared.cells.unit.Face.{Face}
use Rattle.bx_rows.specs.declared.cells.unit.Face.TheVariants.{Tab, Placeholder, Own}
use Rattle.bx_rows.specs.declared.cells.unit.Unit.{Unit}
use Rattle.bx_rows.specs.cells.Units.{unit_chars, unit_text, units}
use Rattle.bx_rows.specs.cells.UnitFacts.{HasFace, StandsIn}
use Rattle.bx_rows.proofs.cells_lemmas.Rest.{chars_encoded}
use Rattle.bx_rows.specs.joining.JoinedText.{AreFormless}
use Rattle.bx_rows.specs.declared.wrapping.Row.{Row}
use Rattle.bx_rows.specs.declared.start_search.RowStart.{RowStart}
use Rattle.bx_rows_laws.specs.JoiningLaws.{FormlessRowsStay, FormsChangeTextsAlone, IsSameOrForm, LettersShowTheirForms, ShownLetter, columns_shown, text_shown}
use Rattle.bx_rows_laws.specs.Laws.{EndsWell, IsFull, RowsAreOfRest, RowsCutUnits, RowsEndWell, RowsMeetAgain, StandInTurn, UnitsFitWindow, UnitsMakeBody}
use Rattle.bx_rows_laws.specs.Laws.{UnitsStandInTurn}
use Rattle.bx_rows_laws.specs.OrderLaws.{AreAtLevel, EqualLevelsOrder, IsLowest, LowestLevelsOrder, LowestStaysBetween, OrdersArePermutations}
use Rattle.bx_rows_laws.specs.OrderLaws.{PicturesGoByLevels, PicturesShowUnits}
use Rattle.bx_rows_laws.specs.OrderLaws.{ShowsLeft, StandsBetween, StandsLeft, StaysBetween}
use Rattle.bx_rows.specs.RowPicture.{Glyph, blank, columns_used, draw, glyph}
use Rattle.bx_rows.specs.Shown.{IsRowOf}
use Rattle.bx_rows.specs.RowStarts.{row_starts}
use Rattle.bx_rows.specs.RowLevels.{visual}
use Rattle.bx_rows.specs.Wrapping.{columns_at, row_units, wrap}
use Rattle.bx_rows.specs.UnitPlaces.{FitsWindow}

-- ---- units

ab : IsUtf8 (codes "ab")
unfolding unicode_segmentation unicode_width
ab = (codes "ab", (refl, refl))

one-byte : IsUtf8 (codes "a")
unfolding unicode_segmentation unicode_width
one-byte = (codes "a", (refl, refl))

goes-on : (start stop : ℕ) (ss : List (ℕ × ℕ)) → StandInTurn start ss stop → start ≤ stop
goes-on start stop [] t = omega (arith, t)
goes-on start stop (s ∷ ss) t = let some = t.1 in omega (arith, some, goes-on s.1 stop ss t.2)

one-step : (ss : List (ℕ × ℕ)) → StandInTurn 0 ss 1 → ss ≡ (0, 1) ∷ []
one-step [] t = absurd (omega (arith, t))
one-step (s ∷ []) t = ap (λ x. (x, s.1) ∷ []) t.0 ∙ ap (λ x. (0, x) ∷ []) t.2
one-step (s ∷ r ∷ ss) t = let some = t.1 in let more = t.2.1 in absurd (omega (arith, some, more, goes-on r.1 1 ss t.2.2))

-- a body of one byte has one unit, from 0 to 1
one-unit : UnitsStandInTurn → (ucd : Data) (w : ℕ) → map {B = ℕ × ℕ} (λ u. (u.start, u.stop)) (units ucd w (codes "a")) ≡ (0, 1) ∷ []
one-unit law ucd w = one-step (map {B = ℕ × ℕ} (λ u. (u.start, u.stop)) (units ucd w (codes "a"))) (law ucd w (codes "a") one-byte)

some-unit : (us : List Unit) → flat_map (unit_text (codes "ab")) us ≡ codes "ab" → 0 < length us
some-unit [] e = absurd cc
some-unit (u ∷ us) e = omega arith

-- a body that is not empty has a unit
some-units : UnitsMakeBody → (ucd : Data) (w : ℕ) → 0 < length (units ucd w (codes "ab"))
some-units law ucd w = some-unit (units ucd w (codes "ab")) (law ucd w (codes "ab") ab)

one-column : (f : Face) → FitsWindow 1 f → columns_at 1 0 f ≡ 1
one-column Tab h = omega arith
one-column (Placeholder x) h = refl
one-column (Own n) h = omega (arith, h)

-- in a window of one column each unit has one
one-column-each : UnitsFitWindow → (ucd : Data) → All (λ u. columns_at 1 0 u.face ≡ 1) (units ucd 1 (codes "ab"))
one-column-each law ucd =
    All-weaker (λ u. FitsWindow 1 u.face) (λ u. columns_at 1 0 u.face ≡ 1) (λ u h. one-column u.face h) (units ucd 1 (codes "ab")) (law ucd 1 (codes "ab") ab)

-- ---- rows of units

abbrev letter : ℕ → Unit
letter k = record { start = k; stop = k + 1; face = Own 1 }

abbrev letters : List Unit
letters = letter 0 ∷ letter 1 ∷ []

letters-fit : All (λ u. FitsWindow 1 u.face) letters
letters-fit =
    let fits : (k : ℕ) → FitsWindow 1 (letter k).face = λ k. (omega arith, omega arith) in
    All-cons (λ u. FitsWindow 1 u.face) (letter 0) (letter 1 ∷ []) (fits 0)
    (All-cons (λ u. FitsWindow 1 u.face) (letter 1) [] (fits 1) (All-nil (λ u. FitsWindow 1 u.face)))

wider : (f : Face) → FitsWindow 1 f → FitsWindow 5 f
wider Tab h = tt
wider (Placeholder x) h = tt
wider (Own n) h = (h.0, omega (arith, h))

same-pair : (s : ℕ × ℕ) (x y : ℕ) → s.0 ≡ x → s.1 ≡ y → s ≡ (x, y)
same-pair s x y e f = ap₂ (λ m n. (m, n)) e f

two-steps : (ss : List (ℕ × ℕ)) → StandInTurn 0 ss 2 → (ss ≡ (0, 2) ∷ []) ⊎ (ss ≡ (0, 1) ∷ (1, 2) ∷ [])
two-steps [] t = absurd (omega (arith, t))
two-steps (s ∷ []) t = inl (ap (λ x. x ∷ []) (same-pair s 0 2 t.0 t.2))
two-steps (s ∷ r ∷ []) t =
    let one : s.1 ≡ 1 = (let some = t.1 in let more = t.2.1 in let end = t.2.2 in omega (arith, some, more, end)) in
    inr (ap₂ (λ x y. x ∷ y ∷ []) (same-pair s 0 1 t.0 one) (same-pair r 1 2 (t.2.0 ∙ one) t.2.2))
two-steps (s ∷ r ∷ q ∷ ss) t =
    let some = t.1 in
    let more = t.2.1 in
    let most = t.2.2.1 in absurd (omega (arith, some, more, most, goes-on q.1 2 ss t.2.2.2))

too-wide : (rows : List Row) → map {B = ℕ × ℕ} (λ r. (r.start, r.stop)) rows ≡ (0, 2) ∷ [] → All (IsRowOf 1 letters) rows → ⊥
too-wide [] e a = cc
too-wide (r ∷ rows) e a =
    let start : r.start ≡ 0 = ap (λ (ss : List (ℕ × ℕ)). (get_or ss 0 (0, 0)).0) e in
    let stop : r.stop ≡ 2 = ap (λ (ss : List (ℕ × ℕ)). (get_or ss 0 (0, 0)).1) e in
    let wide : columns_used 1 (row_units letters r) ≡ 2 = ap₂ (λ x y. columns_used 1 (slice_range letters x y)) start stop in
    let here = a 0 r (omega arith) in
    let fits : columns_used 1 (row_units letters r) ≤ 1 = here.2 in omega (arith, wide, fits)

-- in a window of one column two letters are in two rows
two-rows : RowsCutUnits → (ucd : Data) (body : List ℕ) → map {B = ℕ × ℕ} (λ r. (r.start, r.stop)) (wrap ucd 1 body letters) ≡ (0, 1) ∷ (1, 2) ∷ []
two-rows law ucd body =
    let cut = law ucd 1 body letters (omega arith) letters-fit in
    let rows = wrap ucd 1 body letters in
    let spans : List (ℕ × ℕ) = map {B = ℕ × ℕ} (λ r. (r.start, r.stop)) rows in
    elim (two-steps spans (cut.in_turn (omega arith))) as (λ _. spans ≡ (0, 1) ∷ (1, 2) ∷ []) [
      | inl e ↦ absurd (too-wide rows e cut.fit)
      | inr e ↦ e
    ]

too-short : (ucd : Data) (body : List ℕ) (rows : List Row) → map {B = ℕ × ℕ} (λ r. (r.start, r.stop)) rows ≡ (0, 1) ∷ (1, 2) ∷ []
    → All (EndsWell ucd 5 body letters) rows → ⊥
too-short ucd body [] e a = cc
too-short ucd body (r ∷ rows) e a =
    let start : r.start ≡ 0 = ap (λ (ss : List (ℕ × ℕ)). (get_or ss 0 (0, 0)).0) e in
    let stop : r.stop ≡ 1 = ap (λ (ss : List (ℕ × ℕ)). (get_or ss 0 (0, 0)).1) e in
    let here = a 0 r (omega arith) in
    let full : IsFull 5 letters (record { start = 0; stop = 1 }) =
    subst (λ k. IsFull 5 letters (record { start = k; stop = 1 })) start (here.longest 1 (omega (arith, stop)) (omega arith) (inl refl)) in
    elim full as (λ _. ⊥) [ inl h ↦ omega (arith, h) | inr h ↦ omega (arith, h) ]

-- in a window of five columns they are in one row, wherever rows may end
one-row : RowsCutUnits → RowsEndWell → (ucd : Data) (body : List ℕ)
    → map {B = ℕ × ℕ} (λ r. (r.start, r.stop)) (wrap ucd 5 body letters) ≡ (0, 2) ∷ []
one-row cuts ends ucd body =
    let fit : All (λ u. FitsWindow 5 u.face) letters =
    All-weaker (λ u. FitsWindow 1 u.face) (λ u. FitsWindow 5 u.face) (λ u h. wider u.face h) letters letters-fit in
    let cut = cuts ucd 5 body letters (omega arith) fit in
    let rows = wrap ucd 5 body letters in
    let spans : List (ℕ × ℕ) = map (λ r. (r.start, r.stop)) rows in
    elim (two-steps spans (cut.in_turn (omega arith))) as (λ _. spans ≡ (0, 2) ∷ []) [
      | inl e ↦ e
      | inr e ↦ absurd (too-short ucd body rows e (ends ucd 5 body letters (omega arith) fit))
    ]

-- no units have one row
no-units : RowsCutUnits → (ucd : Data) (w : ℕ) (body : List ℕ) → 1 ≤ w → length (wrap ucd w body []) ≡ 1
no-units law ucd w body h = let cut = law ucd w body [] h (All-nil (λ u. FitsWindow w u.face)) in cut.one refl

-- ---- rows of bodies

abbrev start : ℕ → RowStart
start n = record { offset = n; units = n; chars = n }

words : IsUtf8 (codes "ab cd ef")
unfolding unicode_segmentation unicode_width
words = (codes "ab cd ef", (refl, refl))

other-words : IsUtf8 (codes "b cd ef")
unfolding unicode_segmentation unicode_width
other-words = (codes "b cd ef", (refl, refl))

-- after `ab ` follow the rows of `cd ef`, three bytes further on
rows-of-rest : RowsAreOfRest → drop 1 (row_starts small 3 (codes "ab cd ef")) ≡ start 3 ∷ start 6 ∷ []
unfolding unicode_segmentation unicode_width
rows-of-rest law = law small 3 (codes "ab cd ef") 1 (start 3) words refl

-- after `b ` follow the same rows as after `ab `, a byte nearer
rows-meet : RowsMeetAgain → drop 1 (row_starts small 3 (codes "b cd ef")) ≡ start 2 ∷ start 5 ∷ []
unfolding unicode_segmentation unicode_width
rows-meet law = law small 3 (codes "ab cd ef") (codes "b cd ef") 1 1 (start 3) (start 2) words other-words refl refl refl

-- ---- orders

either-order : (order : List ℕ) → IsPermutation (0 ∷ 1 ∷ []) order → (order ≡ 0 ∷ 1 ∷ []) ⊎ (order ≡ 1 ∷ 0 ∷ [])
either-order [] p = let count : 0 ≡ 2 = length_permutation (0 ∷ 1 ∷ []) [] p in absurd (omega (arith, count))
either-order (x ∷ []) p = let count : 1 ≡ 2 = length_permutation (0 ∷ 1 ∷ []) (x ∷ []) p in absurd (omega (arith, count))
either-order (x ∷ y ∷ []) p =
    let sum : 0 + x + y ≡ 1 = sum_by-IsPermutation (λ n. n) (0 ∷ 1 ∷ []) (x ∷ y ∷ []) p in
    elim (cases_eq x 0) as (λ _. (x ∷ y ∷ [] ≡ 0 ∷ 1 ∷ []) ⊎ (x ∷ y ∷ [] ≡ 1 ∷ 0 ∷ [])) [
      | inl e ↦ inl (ap₂ (λ m n. m ∷ n ∷ []) e (omega (arith, sum, e)))
      | inr e ↦ inr (ap₂ (λ m n. m ∷ n ∷ []) (omega (arith, sum, e)) (omega (arith, sum, e)))
    ]
either-order (x ∷ y ∷ z ∷ zs) p =
    let count : suc (suc (suc (length zs))) ≡ 2 = length_permutation (0 ∷ 1 ∷ []) (x ∷ y ∷ z ∷ zs) p in absurd (omega (arith, count))

-- two units are in text order or the other way round, whatever their levels
two-orders : OrdersArePermutations → (a b : ℕ) → (visual (a ∷ b ∷ []) ≡ 0 ∷ 1 ∷ []) ⊎ (visual (a ∷ b ∷ []) ≡ 1 ∷ 0 ∷ [])
two-orders law a b = either-order (visual (a ∷ b ∷ [])) (law (a ∷ b ∷ []))

and-least : (m l : ℕ) (ls : List ℕ) → m ≤ l → All (λ x. m ≤ x) ls → All (λ x. m ≤ x) (l ∷ ls)
and-least m l ls h a = All-cons (λ x. m ≤ x) l ls h a

first-lowest : (m : ℕ) (ls : List ℕ) → All (λ x. m ≤ x) ls → IsLowest m (m ∷ ls)
first-lowest m ls a = record { one = (0, omega arith, refl); least = and-least m m ls (omega arith) a }

last-lowest : IsLowest 0 (1 ∷ 0 ∷ [])
last-lowest = record {
  one = (1, omega arith, refl);
  least = and-least 0 1 (0 ∷ []) (omega arith) (and-least 0 0 [] (omega arith) (All-nil (λ x. 0 ≤ x)));
}

abbrev levels : List ℕ
levels = 0 ∷ 1 ∷ 1 ∷ 0 ∷ []

-- units of the levels 0 1 1 0 are in the order 0 2 1 3
by-lowest-levels : LowestLevelsOrder → StandsLeft (visual levels) 0 2 × StandsLeft (visual levels) 2 1 × StandsLeft (visual levels) 1 3
by-lowest-levels law =
    let none : All (λ x. 0 ≤ x) [] = All-nil (λ x. 0 ≤ x) in
    let low : IsLowest 0 (0 ∷ 1 ∷ 1 ∷ []) =
    first-lowest 0 (1 ∷ 1 ∷ []) (and-least 0 1 (1 ∷ []) (omega arith) (and-least 0 1 [] (omega arith) none)) in
    let odd : IsLowest 1 (1 ∷ 1 ∷ []) = first-lowest 1 (1 ∷ []) (and-least 1 1 [] (omega arith) (All-nil (λ x. 1 ≤ x))) in
    let end : IsLowest 0 (1 ∷ 1 ∷ 0 ∷ []) =
    record { one = (2, omega arith, refl); least = and-least 0 1 (1 ∷ 0 ∷ []) (omega arith) last-lowest.least } in
    let a = law levels 0 2 0 (omega arith) (omega arith) low in
    let b = law levels 1 2 1 (omega arith) (omega arith) odd in
    let c = law levels 1 3 0 (omega arith) (omega arith) end in (a.even refl, b.odd refl, c.even refl)

around : (m n : ℕ) → n ≤ m → AreAtLevel n (n ∷ m ∷ n ∷ []) 0 2
around m n h = record {
  one = λ d. refl;
  other = λ d. refl;
  least = and-least n n (m ∷ n ∷ []) (omega arith) (and-least n m (n ∷ []) h (and-least n n [] (omega arith) (All-nil (λ x. n ≤ x))));
}

-- two units of an odd level round one of a higher level change places
by-equal-levels : EqualLevelsOrder → (m n : ℕ) → n ≤ m → n % 2 ≡ 1 → StandsLeft (visual (n ∷ m ∷ n ∷ [])) 2 0
by-equal-levels law m n h e = let a = law (n ∷ m ∷ n ∷ []) 0 2 n (omega arith) (omega arith) (around m n h) in a.odd e

-- the one of the higher level stays between them
stays-inside : StaysBetween → (m n : ℕ) → n ≤ m → StandsBetween (visual (n ∷ m ∷ n ∷ [])) 0 1 2
stays-inside law m n h = law (n ∷ m ∷ n ∷ []) 0 1 2 n (omega arith) (omega arith) (omega arith) (around m n h)

-- so does one of a lower level
lowest-stays-inside : LowestStaysBetween → (m n : ℕ) → n ≤ m → StandsBetween (visual (m ∷ n ∷ m ∷ [])) 0 1 2
lowest-stays-inside law m n h =
    law (m ∷ n ∷ m ∷ []) 0 1 2 n (omega arith) (omega arith) (omega arith) (λ d. refl)
    (and-least n m (n ∷ m ∷ []) h (and-least n n (m ∷ []) (omega arith) (and-least n m [] h (All-nil (λ x. n ≤ x)))))

-- ---- pictures

abbrev mark : ℕ → Unit
mark x = record { start = 0; stop = 0; face = Placeholder x }

abbrev shown : ℕ → Glyph
shown x = glyph (x ∷ []) 1 true

-- three columns show two marks and one blank, whatever their levels
marks-and-blank : PicturesShowUnits → (ucd : Data) (body : List ℕ) (each : List (Option ℕ)) (paragraph x y a b : ℕ)
    → IsPermutation (shown x ∷ shown y ∷ blank ∷ []) (draw ucd 3 body paragraph each (mark x ∷ mark y ∷ []) (a ∷ b ∷ []))
marks-and-blank law ucd body each paragraph x y a b =
    let s = law ucd 3 body paragraph each (mark x ∷ mark y ∷ []) (a ∷ b ∷ []) refl in s.glyphs

-- at an odd level the second mark is shown left of the first
marks-turned : PicturesGoByLevels → (ucd : Data) (body : List ℕ) (each : List (Option ℕ)) (paragraph x y n : ℕ) → n % 2 ≡ 1
    → ShowsLeft (draw ucd 3 body paragraph each (mark x ∷ mark y ∷ []) (n ∷ n ∷ [])) (shown y ∷ []) (shown x ∷ [])
marks-turned law ucd body each paragraph x y n e =
    let s = law ucd 3 body paragraph each (mark x ∷ mark y ∷ []) (n ∷ n ∷ []) 0 1 n refl (omega arith) (omega arith)
    (first-lowest n (n ∷ []) (and-least n n [] (omega arith) (All-nil (λ x. n ≤ x)))) in s.odd e

-- ---- joined letters

-- the small tables with other joining types and forms
abbrev with_forms : (ℕ → Joining) → (ℕ → Form → Option ℕ) → Data
with_forms types forms = record small { joining = types; form = forms }

-- one letter, BEH, in two bytes
abbrev beh : List ℕ
beh = encode_utf8_all (0x628 ∷ [])

abbrev beh_unit : Unit
beh_unit = record { start = 0; stop = 2; face = Own 1 }

abbrev beh_glyph : Glyph
beh_glyph = glyph beh 1 false

whole-beh : IsUtf8 beh
unfolding unicode_segmentation unicode_width
whole-beh = (0x628 ∷ [], (refl, refl))

beh-stands : All (StandsIn beh) (beh_unit ∷ [])
unfolding unicode_segmentation unicode_width
beh-stands =
    All-cons (StandsIn beh) beh_unit [] (omega arith, IsCharBoundary-start beh whole-beh, IsCharBoundary-end beh) (All-nil (StandsIn beh))

beh-face : (types : ℕ → Joining) (forms : ℕ → Form → Option ℕ) → All (HasFace (with_forms types forms) 1 beh) (beh_unit ∷ [])
unfolding unicode_segmentation unicode_width
beh-face types forms = let P = HasFace (with_forms types forms) 1 beh in All-cons P beh_unit [] refl (All-nil P)

-- a letter and a control character
abbrev beh_control : List ℕ
beh_control = encode_utf8_all (0x628 ∷ 1 ∷ [])

abbrev control : Unit
control = record { start = 2; stop = 3; face = Placeholder 63 }

faces-there : (types : ℕ → Joining) (forms : ℕ → Form → Option ℕ) → All (HasFace (with_forms types forms) 3 beh_control) (beh_unit ∷ control ∷ [])
unfolding unicode_segmentation unicode_width
faces-there types forms =
    let P = HasFace (with_forms types forms) 3 beh_control in All-cons P beh_unit (control ∷ []) refl (All-cons P control [] refl (All-nil P))

-- a column in negative image for the control character, one for the letter, and a blank, whatever the types and forms
columns-stay : FormsChangeTextsAlone → (types : ℕ → Joining) (forms : ℕ → Form → Option ℕ)
    → columns_shown (draw (with_forms types forms) 3 beh_control 0 (Some 1 ∷ Some 1 ∷ []) (beh_unit ∷ control ∷ []) (1 ∷ 1 ∷ []))
    ≡ true ∷ false ∷ false ∷ []
unfolding unicode_segmentation unicode_width
columns-stay law types forms =
    law (with_forms types forms) 3 beh_control 0 (Some 1 ∷ Some 1 ∷ []) (beh_unit ∷ control ∷ []) (1 ∷ 1 ∷ []) (faces-there types forms)

-- a letter without forms is shown as itself, whatever the types and other letters' forms
letter-stays : FormlessRowsStay → (types : ℕ → Joining) (forms : ℕ → Form → Option ℕ) → ((f : Form) → forms 0x628 f ≡ None)
    → draw (with_forms types forms) 2 beh 0 (Some 1 ∷ []) (beh_unit ∷ []) (1 ∷ []) ≡ beh_glyph ∷ blank ∷ []
unfolding unicode_segmentation unicode_width
letter-stays law types forms none =
    let ucd = with_forms types forms in
    let formless : AreFormless ucd (0x628 ∷ []) =
    All-cons (λ c. (f : Form) → forms c f ≡ None) 0x628 [] none (All-nil (λ c. (f : Form) → forms c f ≡ None)) in
    law ucd 2 beh 0 (Some 1 ∷ []) (beh_unit ∷ []) (1 ∷ []) whole-beh beh-stands
    (All-cons (λ u. AreFormless ucd (unit_chars beh u)) beh_unit [] formless (All-nil (λ u. AreFormless ucd (unit_chars beh u))))

-- the text of a row of the letter
abbrev beh_shown : (ℕ → Joining) → (ℕ → Form → Option ℕ) → List ℕ
beh_shown types forms = text_shown (draw (with_forms types forms) 1 beh 0 (Some 1 ∷ []) (beh_unit ∷ []) (1 ∷ []))

-- a form of the letter
record FormOfBeh (forms : ℕ → Form → Option ℕ) (text : List ℕ) : Type 0 where
  form : Form
  shown : ℕ
  is_form : forms 0x628 form ≡ Some shown
  text_is : text ≡ encode_utf8_all (shown ∷ [])

-- characters are determined by their text
characters : (cs : List ℕ) → beh ≡ encode_utf8_all cs → cs ≡ 0x628 ∷ []
unfolding unicode_segmentation unicode_width
characters cs e = sym (chars_encoded cs (subst IsUtf8 e whole-beh)) ∙ ap chars (sym e)

one-place : (types : ℕ → Joining) (forms : ℕ → Form → Option ℕ) (text : List ℕ) (ps : List ShownLetter) → map (λ p. p.letter) ps ≡ 0x628 ∷ []
    → map (λ p. p.unjoined) ps ≡ 0x628 ∷ [] → text ≡ encode_utf8_all (map (λ p. p.shown) ps) → All (IsSameOrForm (with_forms types forms)) ps
    → (text ≡ beh) ⊎ FormOfBeh forms text
one-place types forms text [] e u t a = absurd (cc e)
one-place types forms text (p ∷ []) e u t a =
    let letter : p.letter ≡ 0x628 = ap (λ cs. get_or cs 0 0) e in
    let unjoined : p.unjoined ≡ 0x628 = ap (λ cs. get_or cs 0 0) u in
    elim (a 0 p (omega arith)) as (λ _. (text ≡ beh) ⊎ FormOfBeh forms text) [
      | inl same ↦ inl (t ∙ ap (λ c. encode_utf8_all (c ∷ [])) (same ∙ unjoined))
      | inr found ↦ inr (record { form = found.0; shown = p.shown; is_form = ap (λ c. forms c found.0) (sym letter) ∙ found.1; text_is = t })
    ]
one-place types forms text (p ∷ q ∷ ps) e u t a = absurd (let many : suc (suc (length (map (λ p. p.letter) ps))) ≡ 1 = ap length e in omega (arith, many))

-- a letter is shown as itself or as one of its own forms, whatever the types and forms
one-letter : LettersShowTheirForms → (types : ℕ → Joining) (forms : ℕ → Form → Option ℕ)
    → (beh_shown types forms ≡ beh) ⊎ FormOfBeh forms (beh_shown types forms)
unfolding unicode_segmentation unicode_width
one-letter law types forms =
    let ucd = with_forms types forms in
    let s = law ucd 1 beh 0 (Some 1 ∷ []) (beh_unit ∷ []) (1 ∷ []) whole-beh beh-stands (beh-face types forms) in
    one-place types forms (beh_shown types forms) s.places (characters (map (λ p. p.letter) s.places) s.letters_are)
    (characters (map (λ p. p.unjoined) s.places) s.unjoined_are) s.shown_are s.each
