-- Rows that follow from the laws alone, in every window, or of every text.
use Rattle.std.proofs.Common.{◌≡◌, ◌⊎◌, ℕ, zero, suc, ◌+◌, ◌-◌, ◌<◌, ◌≤◌, true, List, [], ◌∷◌, length, get_or, Option, Some}
use Rattle.std.proofs.Common.{refl, sym, ap₂, subst, arith, inl, inr}
use Rattle.std.specs.Prelude.{Contains, IsUtf8, codes, slice_get}
use Rattle.std.specs.List.Sorted.{IsStrictlyIncreasing}
use Rattle.std.proofs.lemmas.Option.{get_or_from_slice_get}
use Rattle.bx_ucd.specs.Data.{Data}
use Rattle.unicode_segmentation.proofs.Computing.{unicode_segmentation}
use Rattle.unicode_width.proofs.Computing.{unicode_width}
use Rattle.bx_common.specs.Characters.{is_side}
use Rattle.bx_ucd.specs.declared.data.Side.{Side}
use Rattle.bx_ucd.specs.SmallTables.{small}
use Rattle.bx_common.specs.declared.base.Base.{Base}
use Rattle.bx_view.specs.declared.moves.Logical.{Logical}
use Rattle.bx_view.specs.declared.moves.Logical.TheVariants.{Back, Forward}
use Rattle.bx_view.specs.declared.moves.Move.{Move}
use Rattle.bx_view.specs.Cells.{HasOneSlot, times}
use Rattle.bx_view.specs.Laws.{HasCells, FindsLeastPlace, IsGreatestBefore, IsLeastBehind, IsShownFrom, MovesKeep, MovesLeast, PlacesGoOn}
use Rattle.bx_view.specs.Laws.{SpansText, WordsGoOn}
use Rattle.bx_view_laws.specs.Laws.{InEachWindow}
use Rattle.bx_view.specs.Moved.{moved}
use Rattle.bx_view.specs.Places.{IsTextPlace, text_places}
use Rattle.bx_view.specs.TextRows.{TextRow, places, row_at, row_of, slots, text_rows}
use Rattle.bx_view.specs.Top.{follow}
use Rattle.bx_view.specs.Words.{text_stops}

ab : IsUtf8 (codes "ab")
unfolding unicode_segmentation unicode_width
ab = (codes "ab", (refl, refl))

one_letter : IsUtf8 (codes "a")
unfolding unicode_segmentation unicode_width
one_letter = (codes "a", (refl, refl))

-- the small tables with other brackets
abbrev with_brackets : (ℕ → Option (Side × ℕ)) → Data
with_brackets bracket = record small { bracket = bracket }

-- the rows of the letter a
abbrev rows_of_letter : (ℕ → Option (Side × ℕ)) → Base → ℕ → List TextRow
rows_of_letter bracket base w = text_rows (with_brackets bracket) base w (codes "a")

-- ---- places

abbrev ArePlaces : Type 0
ArePlaces = InEachWindow (λ ucd text w rows. places rows ≡ text_places ucd text)

-- the places of `ab`
places_of_ab : ArePlaces → (bracket : ℕ → Option (Side × ℕ)) (base : Base) (w : ℕ) → is_side w ≡ true
    → places (text_rows (with_brackets bracket) base w (codes "ab")) ≡ 0 ∷ 1 ∷ 2 ∷ []
unfolding unicode_segmentation unicode_width
places_of_ab law bracket base w side = law (with_brackets bracket) base w (codes "ab") side ab

places_of_a : ArePlaces → (bracket : ℕ → Option (Side × ℕ)) (base : Base) (w : ℕ) → is_side w ≡ true → places (rows_of_letter bracket base w) ≡ 0 ∷ 1 ∷ []
unfolding unicode_segmentation unicode_width
places_of_a law bracket base w side = law (with_brackets bracket) base w (codes "a") side one_letter

above_number : (xs : List ℕ) (k : ℕ) → IsStrictlyIncreasing xs → k < length xs → k ≤ get_or xs k 0
above_number xs zero rise h = omega arith
above_number xs (suc k) rise h =
    let one : k + 1 ≡ suc k = omega arith in
    let more : get_or xs k 0 < get_or xs (k + 1) 0 = rise k (omega (arith, h)) in
    let less = above_number xs k rise (omega (arith, h)) in
    subst (λ n. suc k ≤ get_or xs n 0) one (omega (arith, more, less))

from_0_to_1 : (xs : List ℕ) → IsStrictlyIncreasing xs → slice_get xs 0 ≡ Some 0 → slice_get xs (length xs - 1) ≡ Some 1 → xs ≡ 0 ∷ 1 ∷ []
from_0_to_1 [] rise first last = absurd (cc)
from_0_to_1 (x ∷ []) rise first last = let one : Some x ≡ Some 1 = last in absurd (cc)
from_0_to_1 (x ∷ y ∷ []) rise first last =
    let one : Some y ≡ Some 1 = last in
    let a : x ≡ 0 = cc in
    let b : y ≡ 1 = cc in ap₂ (λ m n. m ∷ n ∷ []) a b
from_0_to_1 (x ∷ y ∷ z ∷ xs) rise first last =
    let all : List ℕ = x ∷ y ∷ z ∷ xs in
    let count : length all ≡ suc (suc (suc (length xs))) = refl in
    absurd (omega (arith, count, get_or_from_slice_get all (length all - 1) 1 0 last, above_number all (length all - 1) rise (omega (arith, count))))

-- a text of one byte has the places 0 and 1, whatever separates
two_places : ((ucd : Data) (text : List ℕ) → IsUtf8 text → SpansText ucd text) → (ucd : Data) → text_places ucd (codes "a") ≡ 0 ∷ 1 ∷ []
two_places law ucd = let s = law ucd (codes "a") one_letter in from_0_to_1 (text_places ucd (codes "a")) s.rise s.first s.last

-- ---- moves

either_place : (k x : ℕ) → k < 2 → get_or (0 ∷ 1 ∷ []) k x ≡ x → (x ≡ 0) ⊎ (x ≡ 1)
either_place zero x h e = inl (sym e)
either_place (suc zero) x h e = inr (sym e)
either_place (suc (suc k)) x h e = absurd (omega (arith, h))

-- a move from the start of `a`
abbrev letter_moved : (ℕ → Option (Side × ℕ)) → Base → ℕ → Move → ℕ
letter_moved bracket base w m = moved (with_brackets bracket) (codes "a") w (rows_of_letter bracket base w) m 0

-- each move from the start of `a` leads to its start or its end
moves_in_a : InEachWindow (λ ucd text w rows. MovesKeep ucd text w rows (IsTextPlace ucd text)) → (bracket : ℕ → Option (Side × ℕ)) (base : Base) (w : ℕ) (m : Move)
    → is_side w ≡ true → (letter_moved bracket base w m ≡ 0) ⊎ (letter_moved bracket base w m ≡ 1)
unfolding unicode_segmentation unicode_width
moves_in_a law bracket base w m side =
    let keep = law (with_brackets bracket) base w (codes "a") side one_letter in
    let place = keep.moved m 0 (0, omega arith, refl) in either_place place.0 (letter_moved bracket base w m) place.1 place.2

-- ---- the next place

-- `aé`, whose second letter has two bytes
abbrev two_letters : List ℕ
two_letters = 97 ∷ 195 ∷ 169 ∷ []

places_of_two : text_places small two_letters ≡ 0 ∷ 1 ∷ 3 ∷ []
unfolding unicode_segmentation unicode_width
places_of_two = refl

place_of_two : (p : ℕ) → Contains (text_places small two_letters) p → Contains (0 ∷ 1 ∷ 3 ∷ []) p
place_of_two p c = subst (λ os. Contains os p) places_of_two c

at_the_second : Contains (text_places small two_letters) 1
at_the_second = subst (λ os. Contains os 1) (sym places_of_two) (1, omega arith, refl)

behind_the_second : (p k : ℕ) → k < 3 → get_or (0 ∷ 1 ∷ 3 ∷ []) k p ≡ p → 2 ≤ p → p ≡ 3
behind_the_second p zero h e from = absurd (omega (arith, e, from))
behind_the_second p (suc zero) h e from = absurd (omega (arith, e, from))
behind_the_second p (suc (suc zero)) h e from = sym e
behind_the_second p (suc (suc (suc k))) h e from = absurd (omega (arith, h))

before_the_end : (p k : ℕ) → k < 3 → get_or (0 ∷ 1 ∷ 3 ∷ []) k p ≡ p → 1 ≤ p → p < 3 → p ≡ 1
before_the_end p zero h e from upto = absurd (omega (arith, e, from))
before_the_end p (suc zero) h e from upto = sym e
before_the_end p (suc (suc zero)) h e from upto = absurd (omega (arith, e, upto))
before_the_end p (suc (suc (suc k))) h e from upto = absurd (omega (arith, h))

-- whatever finds places by the law finds the end of `aé` from within its second letter
end_from_within_a_letter : (from : ℕ → ℕ) → FindsLeastPlace small two_letters from → from 2 ≡ 3
end_from_within_a_letter from law =
    let is = law.inside 2 (omega arith) in
    let c = place_of_two (from 2) is.is_place in behind_the_second (from 2) c.0 c.1 c.2 is.not_before

-- and the second letter from its start, not the end
letter_from_its_start : (from : ℕ → ℕ) → FindsLeastPlace small two_letters from → from 1 ≡ 1
letter_from_its_start from law =
    let is = law.inside 1 (omega arith) in
    let upto = is.least 1 at_the_second (omega arith) in
    let not_before = is.not_before in omega (arith, upto, not_before)

-- a step forward leads over both bytes of the second letter, and a step back too
over_a_letter : (step : Logical → ℕ → ℕ) → PlacesGoOn small two_letters step → step Forward 1 ≡ 3
over_a_letter step law =
    let next = law.forward 1 (omega arith) in
    let c = place_of_two (step Forward 1) next.is_stop in behind_the_second (step Forward 1) c.0 c.1 c.2 (omega (arith, next.behind))

back_over_a_letter : (step : Logical → ℕ → ℕ) → PlacesGoOn small two_letters step → step Back 3 ≡ 1
back_over_a_letter step law =
    let previous = law.back 3 (omega arith) in
    let c = place_of_two (step Back 3) previous.is_stop in
    let from = previous.greatest 1 at_the_second (omega arith) in
    before_the_end (step Back 3) c.0 c.1 c.2 (omega (arith, from)) previous.before

-- ---- words

abbrev two_words : List ℕ
two_words = codes "ab cd"

forward_stops : text_stops small Forward two_words ≡ 0 ∷ 3 ∷ 5 ∷ []
unfolding unicode_segmentation unicode_width
forward_stops = refl

back_stops : text_stops small Back two_words ≡ 0 ∷ 0 ∷ 3 ∷ []
unfolding unicode_segmentation unicode_width
back_stops = refl

least_is_3 : (stop k : ℕ) → k < 3 → get_or (0 ∷ 3 ∷ 5 ∷ []) k stop ≡ stop → 0 < stop → stop ≤ 3 → stop ≡ 3
least_is_3 stop zero h e past upto = absurd (omega (arith, e, past))
least_is_3 stop (suc zero) h e past upto = sym e
least_is_3 stop (suc (suc zero)) h e past upto = absurd (omega (arith, e, upto))
least_is_3 stop (suc (suc (suc k))) h e past upto = absurd (omega (arith, h))

greatest_is_3 : (stop k : ℕ) → k < 3 → get_or (0 ∷ 0 ∷ 3 ∷ []) k stop ≡ stop → 3 ≤ stop → stop ≡ 3
greatest_is_3 stop zero h e from = absurd (omega (arith, e, from))
greatest_is_3 stop (suc zero) h e from = absurd (omega (arith, e, from))
greatest_is_3 stop (suc (suc zero)) h e from = sym e
greatest_is_3 stop (suc (suc (suc k))) h e from = absurd (omega (arith, h))

-- whatever steps by the law of words goes forward from the start of `ab cd` to the second word
forward_to_second_word : (step : Logical → ℕ → ℕ) → WordsGoOn small two_words step → step Forward 0 ≡ 3
forward_to_second_word step law =
    let next = subst (λ os. IsLeastBehind os 0 (step Forward 0)) forward_stops (law.forward 0 (omega arith)) in
    let upto = next.least 3 (1, omega arith, refl) (omega arith) in
    least_is_3 (step Forward 0) next.is_stop.0 next.is_stop.1 next.is_stop.2 next.behind upto

-- and back from its end to the same word
back_to_second_word : (step : Logical → ℕ → ℕ) → WordsGoOn small two_words step → step Back 5 ≡ 3
back_to_second_word step law =
    let previous = subst (λ os. IsGreatestBefore os 5 (step Back 5)) back_stops (law.back 5 (omega arith)) in
    let from = previous.greatest 3 (2, omega arith, refl) (omega arith) in
    greatest_is_3 (step Back 5) previous.is_stop.0 previous.is_stop.1 previous.is_stop.2 from

-- a step of one byte
abbrev one_byte : Logical → ℕ → ℕ
one_byte Forward place = place + 1
one_byte Back place = place - 1

one_byte_is_no_word_step : ¬ (WordsGoOn small two_words one_byte)
one_byte_is_no_word_step law = let e : 1 ≡ 3 = forward_to_second_word one_byte law in absurd (omega (arith, e))

-- a step to the text's end or start
abbrev to_the_end : Logical → ℕ → ℕ
to_the_end Forward place = 5
to_the_end Back place = 0

the_end_is_a_stop_too_far : ¬ (WordsGoOn small two_words to_the_end)
the_end_is_a_stop_too_far law = let e : 5 ≡ 3 = forward_to_second_word to_the_end law in absurd (omega (arith, e))

the_start_is_a_stop_too_far : ¬ (WordsGoOn small two_words to_the_end)
the_start_is_a_stop_too_far law = let e : 0 ≡ 3 = back_to_second_word to_the_end law in absurd (omega (arith, e))

-- ---- cells

one_slot_at : (bracket : ℕ → Option (Side × ℕ)) (base : Base) (w : ℕ) → places (rows_of_letter bracket base w) ≡ 0 ∷ 1 ∷ []
    → HasCells (with_brackets bracket) w (rows_of_letter bracket base w) → HasOneSlot w (rows_of_letter bracket base w) 1
one_slot_at bracket base w e cells = cells.one 1 (subst (λ xs. Contains xs 1) (sym e) (1, omega arith, refl))

-- the end of `a` has one slot in its row, in every window (that it is a place of the rows is the law of places)
one_slot_of_end : ArePlaces → InEachWindow (λ ucd text w rows. HasCells ucd w rows) → (bracket : ℕ → Option (Side × ℕ)) (base : Base) (w : ℕ)
    → is_side w ≡ true → let rows = rows_of_letter bracket base w in times 1 (slots w (row_at rows (row_of rows 1))) ≡ 1
one_slot_of_end are law bracket base w side =
    let one = one_slot_at bracket base w (places_of_a are bracket base w side) (law (with_brackets bracket) base w (codes "a") side one_letter) in one.once

-- ---- the top

module _ (law : InEachWindow (λ ucd text w rows. MovesLeast rows)) (ucd : Data) (base : Base) (w : ℕ) (text : List ℕ)
    (side : is_side w ≡ true) (valid : IsUtf8 text) where
  abbrev rows : List TextRow
  rows = text_rows ucd base w text

  -- if one row is visible, it is the place's row
  one_row_shown : (top place : ℕ) → row_of rows (follow rows top place 1) ≡ row_of rows place
  one_row_shown top place =
      let least = law ucd base w text side valid in
      let shown = least.shows top place 1 (omega arith) in
      let above = shown.0 in
      let below = shown.1 in omega (arith, above, below)

  -- a top from which the place's row is shown stays
  shown_top_stays : (top place t : ℕ) → 0 < t → IsShownFrom rows place t (row_of rows top) → row_of rows (follow rows top place t) ≡ row_of rows top
  shown_top_stays top place t some shown =
      let least = law ucd base w text side valid in
      let near = least.nearest top place t (row_of rows top) some shown in omega (arith, near)
