-- Worked examples, each from a law alone.
use Rattle.std.proofs.Common.{replicate, ◌≡◌, ℕ, zero, suc, ◌+◌, ◌<◌, [], ◌∷◌, true, get_or, refl, sym, ap, subst, ◌∙◌, arith}
use Rattle.std.specs.Prelude.{codes, Some}
use Rattle.std.specs.Fmt.{digits}
use Rattle.std.proofs.lemmas.List.Elements.{All-cons, All-nil}
use Rattle.ucd_case.proofs.Computing.{ucd_case}
use Rattle.unicode_normalization.proofs.Computing.{unicode_normalization}
use Rattle.unicode_segmentation.proofs.Computing.{unicode_segmentation}
use Rattle.unicode_width.proofs.Computing.{unicode_width}
use Rattle.bx_keys.specs.declared.key.Key.{Key}
use Rattle.bx_keys.specs.declared.key.Key.TheVariants.{Insert, Forward, Find, TextEnd, ErasePoint, FindNext, FindPrevious, LineDown, LineUp}
use Rattle.bx_keys.specs.declared.key.Key.TheVariants.{PageBack, PageOn}
use Rattle.bx_paragraph.specs.declared.slots.Slot.{Slot}
use Rattle.bx_paragraph.specs.Slots.{covers, row_slots}
use Rattle.bx_view.specs.declared.moves.Goal.TheVariants.{Column}
use Rattle.bx_editor.specs.declared.message.Message.TheVariants.{FromStart}
use Rattle.bx_editor.specs.Editor.{Editor}
use Rattle.bx_editor.specs.Functions.{HasRows}
use Rattle.bx_editor_laws.specs.WorkLaws.{ColumnIsKept, ErasePointLeavesBeginning, FindNextIsFindTwice, FindPreviousIsFindBack, LineMovesGoBack, PageMovesGoBack}
use Rattle.bx_editor_laws.specs.WorkLaws.{IsEntered, KeptMovesGoBack, keeps_column, own_row}
use Rattle.bx_editor.proofs.Computed.{tables, start, after}

-- ---- a point erased

-- behind alef with an acute, before bet
abbrev behind_a_point : Editor
behind_a_point = after (start (0x5d0 ∷ 0x301 ∷ 0x5d1 ∷ []) 2 20) (Forward ∷ [])

pub the_letter_and_the_rest_stay : ErasePointLeavesBeginning
    → (after behind_a_point (ErasePoint ∷ [])).content.text ≡ 0xd7 ∷ 0x90 ∷ 0xd7 ∷ 0x91 ∷ []
unfolding unicode_segmentation unicode_width digits
the_letter_and_the_rest_stay law =
    (law tables behind_a_point (record { text = (0x5d0 ∷ 0x301 ∷ 0x5d1 ∷ [], (refl, refl)); columns = refl }) refl refl refl refl refl refl (1, omega arith, refl)).text_is

-- ---- the next match

-- behind a search for b in abab that has ended at its first match; and at its second
abbrev at_the_first_b : Editor
at_the_first_b = after (start (codes "abab") 2 40) (Find ∷ Insert 0x62 ∷ Insert 0xA ∷ [])

abbrev at_the_second_b : Editor
at_the_second_b = after at_the_first_b (FindNext ∷ [])

pub the_next_b_is_at_three : FindNextIsFindTwice → (after at_the_first_b (FindNext ∷ [])).place ≡ 3
unfolding unicode_segmentation unicode_width digits unicode_normalization ucd_case
the_next_b_is_at_three law = ap (λ (e : Editor). e.place) (law tables at_the_first_b refl (λ e. cc e) (λ over. cc over))

pub from_the_last_the_first_is_next : FindNextIsFindTwice
    → let e = after at_the_second_b (FindNext ∷ []) in (e.place ≡ 1) × (e.message ≡ Some FromStart)
unfolding unicode_segmentation unicode_width digits unicode_normalization ucd_case
from_the_last_the_first_is_next law =
    let twice = law tables at_the_second_b refl (λ e. cc e) (λ over. cc over) in (ap (λ (e : Editor). e.place) twice, ap (λ (e : Editor). e.message) twice)

pub from_the_second_b_to_the_first : FindPreviousIsFindBack → (after at_the_second_b (FindPrevious ∷ [])).place ≡ 1
unfolding unicode_segmentation unicode_width digits unicode_normalization ucd_case
from_the_second_b_to_the_first law = ap (λ (e : Editor). e.place) (law tables at_the_second_b refl (λ e. cc e) (λ over. cc over))

-- ---- moves from row to row and back

-- at the end of the first of three rows, of which the second is short
abbrev at_a_rows_end : Editor
at_a_rows_end = after (start (codes "abcdef\nab\nabcdef") 4 20) (replicate 6 Forward)

pub two_down_and_up : LineMovesGoBack → (after at_a_rows_end (LineDown ∷ LineDown ∷ LineUp ∷ LineUp ∷ [])).place ≡ 6
unfolding unicode_segmentation unicode_width digits
two_down_and_up law =
    ((law tables at_a_rows_end 2 (record {
      rows_fit = record { text = (codes "abcdef\nab\nabcdef", (refl, refl)); columns = refl };
      unsought = refl;
      settled = refl;
      unasked = refl;
      place = (6, omega arith, refl);
    }) refl).below
    (omega arith)).to_place (λ end. cc end.full)

-- at the end of the third
abbrev at_the_last_end : Editor
at_the_last_end = after (start (codes "abcdef\nab\nabcdef") 4 20) (TextEnd ∷ [])

pub two_up_and_down : LineMovesGoBack → (after at_the_last_end (LineUp ∷ LineUp ∷ LineDown ∷ LineDown ∷ [])).place ≡ 16
unfolding unicode_segmentation unicode_width digits
two_up_and_down law =
    ((law tables at_the_last_end 2 (record {
      rows_fit = record { text = (codes "abcdef\nab\nabcdef", (refl, refl)); columns = refl };
      unsought = refl;
      settled = refl;
      unasked = refl;
      place = (16, omega arith, refl);
    }) refl).above
    (omega arith)).to_place (λ end. cc end.full)

-- in two columns the end of ab has the column of b
abbrev at_a_full_end : Editor
at_a_full_end = after (start (codes "ab\nab") 3 2) (Forward ∷ Forward ∷ [])

the_slot_of_b : (i : ℕ) (s : Slot) → i < 3 → get_or (row_slots 2 (own_row tables at_a_full_end).row) i s ≡ s → covers 2 s ≡ true
    → (own_row tables at_a_full_end).start + s.offset ≡ 1
unfolding unicode_segmentation unicode_width digits
the_slot_of_b zero s inside is covered = absurd (cc (subst (λ (t : Slot). covers 2 t ≡ true) (sym is) covered))
the_slot_of_b (suc zero) s inside is covered = sym (ap (λ (t : Slot). (own_row tables at_a_full_end).start + t.offset) is)
the_slot_of_b (suc (suc zero)) s inside is covered = absurd (cc (subst (λ (t : Slot). covers 2 t ≡ true) (sym is) covered))
the_slot_of_b (suc (suc (suc i))) s inside is covered = absurd (omega (arith, inside))

pub from_a_full_end_to_the_unit_at_the_edge : LineMovesGoBack → (after at_a_full_end (LineDown ∷ LineUp ∷ [])).place ≡ 1
unfolding unicode_segmentation unicode_width digits
from_a_full_end_to_the_unit_at_the_edge law =
    let back = (law tables at_a_full_end 1 (record {
      rows_fit = record { text = (codes "ab\nab", (refl, refl)); columns = refl };
      unsought = refl;
      settled = refl;
      unasked = refl;
      place = (2, omega arith, refl);
    }) refl).below (omega arith) in
    let edge = back.to_edge (record { last = refl; at_end = refl; full = refl }) (omega arith) in
    edge.place_is ∙ the_slot_of_b edge.is_slot.0 edge.slot edge.is_slot.1 edge.is_slot.2 edge.covered

-- at the end of the first of three lines with an empty one between each two; a page has two rows
abbrev before_pages : Editor
before_pages = after (start (codes "abcd\n\nabcd\n\nabcd") 3 20) (replicate 4 Forward)

pub two_pages_on_and_back : PageMovesGoBack → (after before_pages (PageOn ∷ PageOn ∷ PageBack ∷ PageBack ∷ [])).place ≡ 4
unfolding unicode_segmentation unicode_width digits
two_pages_on_and_back law =
    let text = codes "abcd\n\nabcd\n\nabcd" in
    let more : 2 < 5 = omega arith in
    let has : HasRows before_pages = record { text = (text, (refl, refl)); columns = refl } in
    ((law tables before_pages 2 (record { rows_fit = has; unsought = refl; settled = refl; unasked = refl; place = (4, omega arith, refl) }) refl).below more).to_place (λ end. cc end.full)

-- one row below, on the empty line, where the fifth column is kept
abbrev on_an_empty_line : Editor
on_an_empty_line = after before_pages (LineDown ∷ [])

entered_there : IsEntered tables on_an_empty_line (Column 5)
unfolding unicode_segmentation unicode_width digits
entered_there = record { kept = refl; entered = refl }

pub a_page_on_and_back_to_the_empty_line : KeptMovesGoBack → (after on_an_empty_line (PageOn ∷ PageBack ∷ [])).place ≡ 5
unfolding unicode_segmentation unicode_width digits
a_page_on_and_back_to_the_empty_line law =
    let more : 2 < 5 = omega arith in
    let has : HasRows on_an_empty_line = record { text = (codes "abcd\n\nabcd\n\nabcd", (refl, refl)); columns = refl } in
    (law tables on_an_empty_line 1 (Column 5) (record { rows_fit = has; unsought = refl; settled = refl; unasked = refl; place = (5, omega arith, refl) })
    entered_there).pages_below more

pub the_fifth_column_is_kept_over_empty_lines : ColumnIsKept
    → (after before_pages (LineDown ∷ PageOn ∷ PageOn ∷ PageOn ∷ PageBack ∷ [])).goal ≡ Some (Column 5)
unfolding unicode_segmentation unicode_width digits
the_fifth_column_is_kept_over_empty_lines law =
    let Keeps = λ (key : Key). keeps_column key ≡ true in
    law tables before_pages LineDown (PageOn ∷ PageOn ∷ PageOn ∷ PageBack ∷ []) refl refl refl refl refl
    (All-cons Keeps PageOn (PageOn ∷ PageOn ∷ PageBack ∷ []) refl
    (All-cons Keeps PageOn (PageOn ∷ PageBack ∷ []) refl
    (All-cons Keeps PageOn (PageBack ∷ []) refl (All-cons Keeps PageBack [] refl (All-nil Keeps)))))
