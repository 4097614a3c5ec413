-- Examples from the laws of joined letters alone. Levels, forms and the rest of a row are left open.
use Rattle.std.proofs.Common.{◌≡◌, ◌≤◌, ◌<◌, ◌+◌, ◌%◌, ℕ, zero, suc, List, [], ◌∷◌, ◌++◌, All, Option, false, get_or, map, true}
use Rattle.std.proofs.Common.{refl, sym, ap, arith}
use Rattle.std.specs.Prelude.{◌==◌, None, Some, encode_utf8_all, if◌then◌else◌, unwrap_or}
use Rattle.std.specs.Str.{IsCharBoundary, IsUtf8}
use Rattle.std.proofs.lemmas.List.Elements.{All-cons, All-head, All-nil, All-weaker}
use Rattle.bx_ucd.specs.Data.{Data}
use Rattle.bx_ucd.specs.declared.class.Class.{Class}
use Rattle.bx_ucd.specs.declared.joining.Form.{Form}
use Rattle.bx_ucd.specs.declared.joining.Form.TheVariants.{Initial}
use Rattle.bx_ucd.specs.declared.joining.Joining.TheVariants.{D, T, U}
use Rattle.unicode_segmentation.proofs.Computing.{unicode_segmentation}
use Rattle.unicode_width.proofs.Computing.{unicode_width}
use Rattle.bx_ucd.specs.SmallTables.{small}
use Rattle.bx_rows.specs.declared.cells.unit.Face.TheVariants.{Placeholder, Own}
use Rattle.bx_rows.specs.declared.cells.unit.Unit.{Unit}
use Rattle.bx_rows.specs.cells.UnitFacts.{StandsIn}
use Rattle.bx_rows_laws.specs.JoiningLaws.{AreByJoining, GoesByJoining, IsOwnAtOdd, LettersGoByJoining, ShownLetter, text_shown}
use Rattle.bx_rows_laws.specs.Laws.{StandInTurn}
use Rattle.bx_rows.specs.RowLevels.{is_segment_separator, is_trailing, row_levels, visual}
use Rattle.bx_rows.specs.RowPicture.{Glyph, draw, glyph, unit_columns, unit_glyphs}
use Rattle.bx_rows_laws.specs.TouchingLetters.{BeginJoined, BeginsWithLetter, EqualOddLevelsTouch, IsPassedOver, JoinedLettersTouch, LettersKeepLevels}
use Rattle.bx_rows_laws.specs.TouchingLetters.{PicturesShowTouch, ShowTouch, Touch}

-- ---- units side by side

record Beside (order : List ℕ) (a b : ℕ) : Type 0 where
  front : List ℕ
  back : List ℕ
  order_is : order ≡ front ++ (a ∷ (b ∷ back))

nothing-inside : (order : List ℕ) (i : ℕ) (front middle back : List ℕ) → order ≡ front ++ (suc i ∷ (middle ++ (i ∷ back)))
    → All (λ k. (i < k) × (k < suc i)) middle → Beside order (suc i) i
nothing-inside order i front [] back e a = record { front = front; back = back; order_is = e }
nothing-inside order i front (k ∷ ks) back e a = let h = All-head (λ k. (i < k) × (k < suc i)) k ks a in absurd (omega (arith, h))

side-by-side : (order : List ℕ) (i : ℕ) → Touch order i (suc i) → Beside order (suc i) i
side-by-side order i t = nothing-inside order i t.front t.middle t.back t.order_is t.inside

abbrev mark : ℕ → Unit
mark x = record { start = 0; stop = 0; face = Placeholder x }

abbrev shown_mark : ℕ → Glyph
shown_mark x = glyph (x ∷ []) 1 true

-- two units in turn of one odd level are side by side, whatever is around them
odd-beside : EqualOddLevelsTouch → (a b n : ℕ) → n % 2 ≡ 1 → Beside (visual (a ∷ n ∷ n ∷ b ∷ [])) 2 1
odd-beside law a b n odd =
    let least : All (λ l. n ≤ l) (n ∷ n ∷ []) =
    All-cons (λ l. n ≤ l) n (n ∷ []) (omega arith) (All-cons (λ l. n ≤ l) n [] (omega arith) (All-nil (λ l. n ≤ l))) in
    side-by-side (visual (a ∷ n ∷ n ∷ b ∷ [])) 1
    (law (a ∷ n ∷ n ∷ b ∷ []) 1 2 n (omega arith) (omega arith) odd (record { one = λ d. refl; other = λ d. refl; least = least }))

-- so are the glyphs of two marks in a picture
marks-beside : EqualOddLevelsTouch → PicturesShowTouch → (ucd : Data) (body : List ℕ) (each : List (Option ℕ)) (paragraph x y n : ℕ) → n % 2 ≡ 1
    → ShowTouch (draw ucd 3 body paragraph each (mark x ∷ mark y ∷ []) (n ∷ n ∷ [])) ((shown_mark x ∷ []) ∷ (shown_mark y ∷ []) ∷ []) 0 1
marks-beside law pictures ucd body each paragraph x y n odd =
    let least : All (λ l. n ≤ l) (n ∷ n ∷ []) =
    All-cons (λ l. n ≤ l) n (n ∷ []) (omega arith) (All-cons (λ l. n ≤ l) n [] (omega arith) (All-nil (λ l. n ≤ l))) in
    pictures ucd 3 body paragraph each (mark x ∷ mark y ∷ []) (n ∷ n ∷ []) 0 1
    (law (n ∷ n ∷ []) 0 1 n (omega arith) (omega arith) odd (record { one = λ d. refl; other = λ d. refl; least = least }))

-- ---- letters that join

-- tables in which BEH joins on both sides, and letters join across RIGHT-TO-LEFT MARK
abbrev joining : (ℕ → Form → Option ℕ) → Data
joining forms = record small { joining = λ c. if c == 0x628 then D else (if c == 0x200f then T else U); form = forms }

abbrev unit : ℕ → ℕ → Unit
unit start stop = record { start = start; stop = stop; face = Own 1 }

-- `x` and two letters BEH
abbrev two : List ℕ
two = encode_utf8_all (0x78 ∷ 0x628 ∷ 0x628 ∷ [])

two-valid : IsUtf8 two
unfolding unicode_segmentation unicode_width
two-valid = (0x78 ∷ 0x628 ∷ 0x628 ∷ [], (refl, refl))

abbrev two_units : List Unit
two_units = unit 0 1 ∷ unit 1 3 ∷ unit 3 5 ∷ []

two-stand : All (StandsIn two) two_units
unfolding unicode_segmentation unicode_width
two-stand =
    let P = StandsIn two in
    let one : IsCharBoundary two 1 = (omega arith, λ h k. omega arith) in
    let three : IsCharBoundary two 3 = (omega arith, λ h k. omega arith) in
    All-cons P (unit 0 1) (unit 1 3 ∷ unit 3 5 ∷ []) (omega arith, (omega arith, λ h k. omega (arith, k)), one)
    (All-cons P (unit 1 3) (unit 3 5 ∷ []) (omega arith, one, three)
    (All-cons P (unit 3 5) [] (omega arith, three, (omega arith, λ h k. absurd (omega (arith, h)))) (All-nil P)))

-- the same tables with other classes; laws that use them take as premise that BEH is neither a separator nor whitespace
abbrev classed : (ℕ → Class) → (ℕ → Form → Option ℕ) → Data
classed classes forms = record (joining forms) { class = classes }

abbrev two_levels : ℕ → List (Option ℕ)
two_levels l = Some l ∷ Some 1 ∷ Some 1 ∷ []

two-turn : StandInTurn 0 (map (λ u. (u.start, u.stop)) two_units) 5
two-turn = (refl, omega arith, (refl, omega arith, (refl, omega arith, refl)))

record IsLetter (class : Class) : Type 0 where
  no_separator : is_segment_separator class ≡ false
  no_blank : is_trailing class ≡ false

one-begins : (classes : ℕ → Class) (forms : ℕ → Form → Option ℕ) (l : ℕ) → IsLetter (classes 0x628)
    → BeginsWithLetter (classed classes forms) two (two_levels l) two_units 1 1
unfolding unicode_segmentation unicode_width
one-begins classes forms l h = record {
  before = (0x78, Some l) ∷ [];
  letter = 0x628;
  after = (0x628, Some 1) ∷ [];
  body_is = refl;
  begins = λ d. refl;
  no_separator = h.no_separator;
  no_blank = h.no_blank;
}

other-begins : (classes : ℕ → Class) (forms : ℕ → Form → Option ℕ) (l : ℕ) → IsLetter (classes 0x628)
    → BeginsWithLetter (classed classes forms) two (two_levels l) two_units 2 1
unfolding unicode_segmentation unicode_width
other-begins classes forms l h = record {
  before = (0x78, Some l) ∷ (0x628, Some 1) ∷ [];
  letter = 0x628;
  after = [];
  body_is = refl;
  begins = λ d. refl;
  no_separator = h.no_separator;
  no_blank = h.no_blank;
}

-- the last letter has its own level in the row, whatever the classes and the paragraph level
last-keeps : LettersKeepLevels → (classes : ℕ → Class) (forms : ℕ → Form → Option ℕ) (p l : ℕ) → IsLetter (classes 0x628)
    → get_or (row_levels (classed classes forms) two p (two_levels l) two_units) 2 0 ≡ 1
last-keeps law classes forms p l h =
    law (classed classes forms) two p (two_levels l) two_units 0 5 2 1 two-valid two-stand two-turn (omega arith) (other-begins classes forms l h) 0

two-joined : (classes : ℕ → Class) (forms : ℕ → Form → Option ℕ) (l : ℕ) → BeginJoined (classed classes forms) two (two_levels l) two_units 1 2 1
unfolding unicode_segmentation unicode_width
two-joined classes forms l = record {
  before = (0x78, Some l) ∷ [];
  first = 0x628;
  between = [];
  second = 0x628;
  after = [];
  body_is = refl;
  one = λ d. refl;
  other = λ d. refl;
  passed = All-nil (IsPassedOver (classed classes forms));
  joined = refl;
}

-- two letters that join are side by side, whatever the level of the character before them
letters-beside : JoinedLettersTouch → LettersKeepLevels → (classes : ℕ → Class) (forms : ℕ → Form → Option ℕ) (p l : ℕ) → IsLetter (classes 0x628)
    → Beside (visual (row_levels (classed classes forms) two p (two_levels l) two_units)) 2 1
letters-beside law keeps classes forms p l h =
    let ucd = classed classes forms in
    let t = law ucd two p (two_levels l) two_units 0 5 1 2 1 two-valid two-stand two-turn (omega arith) (omega arith) (two-joined classes forms l)
    (keeps ucd two p (two_levels l) two_units 0 5 1 1 two-valid two-stand two-turn (omega arith) (one-begins classes forms l h))
    (keeps ucd two p (two_levels l) two_units 0 5 2 1 two-valid two-stand two-turn (omega arith) (other-begins classes forms l h)) in
    side-by-side (visual (row_levels ucd two p (two_levels l) two_units)) 1 t.touch

-- `x`, BEH, RIGHT-TO-LEFT MARK and BEH
abbrev marked : List ℕ
marked = encode_utf8_all (0x78 ∷ 0x628 ∷ 0x200f ∷ 0x628 ∷ [])

marked-valid : IsUtf8 marked
unfolding unicode_segmentation unicode_width
marked-valid = (0x78 ∷ 0x628 ∷ 0x200f ∷ 0x628 ∷ [], (refl, refl))

abbrev marked_units : List Unit
marked_units = unit 0 1 ∷ unit 1 3 ∷ unit 3 6 ∷ unit 6 8 ∷ []

marked-stand : All (StandsIn marked) marked_units
unfolding unicode_segmentation unicode_width
marked-stand =
    let P = StandsIn marked in
    let one : IsCharBoundary marked 1 = (omega arith, λ h k. omega arith) in
    let three : IsCharBoundary marked 3 = (omega arith, λ h k. omega arith) in
    let six : IsCharBoundary marked 6 = (omega arith, λ h k. omega arith) in
    All-cons P (unit 0 1) (unit 1 3 ∷ unit 3 6 ∷ unit 6 8 ∷ []) (omega arith, (omega arith, λ h k. omega (arith, k)), one)
    (All-cons P (unit 1 3) (unit 3 6 ∷ unit 6 8 ∷ []) (omega arith, one, three)
    (All-cons P (unit 3 6) (unit 6 8 ∷ []) (omega arith, three, six)
    (All-cons P (unit 6 8) [] (omega arith, six, (omega arith, λ h k. absurd (omega (arith, h)))) (All-nil P))))

marked-joined : (forms : ℕ → Form → Option ℕ) (l : ℕ)
    → BeginJoined (joining forms) marked (Some l ∷ Some 1 ∷ Some 3 ∷ Some 1 ∷ []) marked_units 1 3 1
unfolding unicode_segmentation unicode_width
marked-joined forms l = record {
  before = (0x78, Some l) ∷ [];
  first = 0x628;
  between = (0x200f, Some 3) ∷ [];
  second = 0x628;
  after = [];
  body_is = refl;
  one = λ d. refl;
  other = λ d. refl;
  passed = All-cons (IsPassedOver (joining forms)) (0x200f, Some 3) [] (refl, refl) (All-nil (IsPassedOver (joining forms)));
  joined = refl;
}

-- at most the mark between two letters stands between them, at a level of its own too
mark-between : JoinedLettersTouch → (forms : ℕ → Form → Option ℕ) (l : ℕ)
    → (t : Touch (visual (l ∷ 1 ∷ 3 ∷ 1 ∷ [])) 1 3) × All (λ k. k ≡ 2) t.middle
unfolding unicode_segmentation unicode_width
mark-between law forms l =
    let t = law (joining forms) marked 0 (Some l ∷ Some 1 ∷ Some 3 ∷ Some 1 ∷ []) marked_units 0 8 1 3 1 marked-valid marked-stand
    (refl, omega arith, (refl, omega arith, (refl, omega arith, (refl, omega arith, refl)))) (omega arith) (omega arith) (marked-joined forms l)
    (λ d. refl) (λ d. refl) in
    (t.touch, All-weaker (λ k. (1 < k) × (k < 3)) (λ k. k ≡ 2) (λ k h. omega (arith, h)) t.touch.middle t.touch.inside)

-- ---- forms

-- the text of unit `i` of the row of the two letters
abbrev shown : (ℕ → Form → Option ℕ) → ℕ → ℕ → List ℕ
shown forms l i =
    let ucd = joining forms in
    text_shown (get_or (unit_glyphs ucd 3 two (two_levels l) two_units (unit_columns 3 0 two_units) (l ∷ 1 ∷ 1 ∷ [])) i [])

abbrev place : ℕ → ShownLetter
place c = record { letter = 0x628; unjoined = 0x628; shown = c }

initial-there : (forms : ℕ → Form → Option ℕ) (l c : ℕ) → unwrap_or (forms 0x628 Initial) 0x628 ≡ c → (k : ℕ) (d : ShownLetter) → k < 1
    → GoesByJoining (joining forms) two (two_levels l) (1 + k) (get_or (place c ∷ []) k d)
unfolding unicode_segmentation unicode_width
initial-there forms l c e zero d h = record {
  before = (U, Some l) ∷ [];
  own = (D, Some 1);
  after = (D, Some 1) ∷ [];
  body_is = refl;
  number_is = refl;
  shown_is = sym e;
}
initial-there forms l c e (suc k) d h = absurd (omega (arith, h))

one-unit : (forms : ℕ → Form → Option ℕ) (l c : ℕ) → unwrap_or (forms 0x628 Initial) 0x628 ≡ c
    → AreByJoining (joining forms) 3 1 two (two_levels l) (unit 1 3) (place c ∷ [])
unfolding unicode_segmentation unicode_width
one-unit forms l c e = record { letters_are = refl; unjoined_are = refl; each_is = λ k h d. initial-there forms l c e k d h }

-- BEH before BEH is shown in its initial form, whatever the level before it and the other forms are
initial-shown : LettersGoByJoining → (forms : ℕ → Form → Option ℕ) (l : ℕ) → forms 0x628 Initial ≡ Some 0xfe91
    → shown forms l 1 ≡ encode_utf8_all (0xfe91 ∷ [])
unfolding unicode_segmentation unicode_width
initial-shown law forms l e =
    let at : IsOwnAtOdd two_units (l ∷ 1 ∷ 1 ∷ []) 1 1 (unit 1 3) =
    record { count = refl; within = omega arith; unit_is = λ d. refl; own = refl; odd = λ d. refl } in
    let s = law (joining forms) 3 two (two_levels l) two_units (l ∷ 1 ∷ 1 ∷ []) 1 1 (unit 1 3) (place 0xfe91 ∷ []) two-valid
    (two-stand 1 (unit 1 3) (omega arith)) at (one-unit forms l 0xfe91 (ap (λ o. unwrap_or o 0x628) e)) in
    s.fits refl

-- without that form it is shown as itself
letter-shown : LettersGoByJoining → (forms : ℕ → Form → Option ℕ) (l : ℕ) → forms 0x628 Initial ≡ None
    → shown forms l 1 ≡ encode_utf8_all (0x628 ∷ [])
unfolding unicode_segmentation unicode_width
letter-shown law forms l e =
    let at : IsOwnAtOdd two_units (l ∷ 1 ∷ 1 ∷ []) 1 1 (unit 1 3) =
    record { count = refl; within = omega arith; unit_is = λ d. refl; own = refl; odd = λ d. refl } in
    let s = law (joining forms) 3 two (two_levels l) two_units (l ∷ 1 ∷ 1 ∷ []) 1 1 (unit 1 3) (place 0x628 ∷ []) two-valid
    (two-stand 1 (unit 1 3) (omega arith)) at (one-unit forms l 0x628 (ap (λ o. unwrap_or o 0x628) e)) in
    s.fits refl
