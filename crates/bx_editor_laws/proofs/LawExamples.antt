-- Worked examples, each from a law alone.
use Rattle.std.proofs.Common.{◌≡◌, ℕ, ◌≤◌, ◌<◌, [], ◌∷◌, refl, ap, subst, ◌∙◌, arith, ⊎_elim}
use Rattle.std.specs.Prelude.{codes, length, IsCharBoundary, List, Some, None}
use Rattle.std.proofs.lemmas.Bool.{cases_lt}
use Rattle.std.specs.Fmt.{digits}
use Rattle.ucd_case.proofs.Computing.{ucd_case}
use Rattle.unicode_normalization.proofs.Computing.{unicode_normalization}
use Rattle.unicode_segmentation.proofs.Computing.{unicode_segmentation}
use Rattle.unicode_width.proofs.Computing.{unicode_width}
use Rattle.bx_common.specs.declared.base.Base.TheVariants.{Auto}
use Rattle.bx_keys.specs.declared.key.Key.TheVariants.{Insert, Erase, Delete, Down, Forward, Find, FindBack, Mark, Save, TextEnd, UndoEdit, RedoEdit}
use Rattle.bx_text.specs.Edits.{Edit, Edited, edit_of}
use Rattle.bx_find.specs.Nearest.{MatchesAt}
use Rattle.bx_find.specs.declared.letters.Reading.TheVariants.{Wide}
use Rattle.bx_view.specs.Moves.{place_at}
use Rattle.bx_editor.specs.Editor.{Editor, rows}
use Rattle.bx_editor_laws.specs.Laws.{FindBackGoesToPrevious, FindGoesToNext, RedoMirrorsUndo, TopStays, UndoGivesBack}
use Rattle.bx_editor.specs.Picture.{next_top}
use Rattle.bx_editor.proofs.Computed.{tables, start, after}

-- the cursor is in the third of three lines; two are shown
abbrev at_the_third : Editor
at_the_third = after (start (codes "1\n2\n3") 3 4) (Down ∷ Down ∷ [])

-- the second line, at offset 2, is the top, and stays
pub the_top_stays : TopStays → next_top tables at_the_third 2 ≡ 2
unfolding unicode_segmentation unicode_width digits
the_top_stays law = law tables at_the_third 0 (record { text = (codes "1\n2\n3", (refl, refl)); columns = refl })

-- an insertion and a removal with a save between them
pub two_undos_give_the_text : UndoGivesBack
    → (after (start (codes "xy") 2 10) (Insert 0x61 ∷ Save ∷ Delete ∷ UndoEdit ∷ UndoEdit ∷ [])).content.text ≡ codes "xy"
unfolding unicode_segmentation unicode_width digits
two_undos_give_the_text law = (law tables (codes "xy") 2 10 Auto ((Insert 0x61, None) ∷ (Save, None) ∷ (Delete, None) ∷ []) refl (λ over. cc over)).text_is

-- the cursor is where it was before the insertion, at 1, and no mark is set
pub two_undos_give_the_place : UndoGivesBack
    → let e = after (start (codes "xy") 2 10) (Forward ∷ Insert 0x61 ∷ TextEnd ∷ Mark ∷ Erase ∷ UndoEdit ∷ UndoEdit ∷ []) in (e.place ≡ 1) × (e.mark ≡ None)
unfolding unicode_segmentation unicode_width digits
two_undos_give_the_place law =
    let back = law tables (codes "xy") 2 10 Auto ((Forward, None) ∷ (Insert 0x61, None) ∷ (TextEnd, None) ∷ (Mark, None) ∷ (Erase, None) ∷ []) refl (λ over. cc over) in
    (back.place_is, back.mark_is)

-- with nothing to undo, place and mark stay
pub no_undo_keeps_the_place : UndoGivesBack
    → let e = after (start (codes "xy") 2 10) (Forward ∷ Mark ∷ []) in (e.place ≡ 1) × (e.mark ≡ Some 1)
unfolding unicode_segmentation unicode_width digits
no_undo_keeps_the_place law =
    let back = law tables (codes "xy") 2 10 Auto ((Forward, None) ∷ (Mark, None) ∷ []) refl (λ over. cc over) in (back.place_is, back.mark_is)

pub redo_gives_the_letter : RedoMirrorsUndo → (after (start (codes "x") 2 10) (Insert 0x61 ∷ UndoEdit ∷ RedoEdit ∷ [])).content.text ≡ codes "ax"
unfolding unicode_segmentation unicode_width digits
redo_gives_the_letter law =
    ap (λ (t : Edited). t.text) ((law tables (codes "x") 2 10 Auto ((Insert 0x61, None) ∷ []) refl (λ over. cc over)).redo (λ none. cc none))

pub undo_takes_it_again : RedoMirrorsUndo → (after (start (codes "x") 2 10) (Insert 0x61 ∷ UndoEdit ∷ RedoEdit ∷ UndoEdit ∷ [])).content.text ≡ codes "x"
unfolding unicode_segmentation unicode_width digits
undo_takes_it_again law =
    ap (λ (t : Edited). t.text) ((law tables (codes "x") 2 10 Auto ((Insert 0x61, None) ∷ (UndoEdit, None) ∷ []) refl (λ over. cc over)).undo
    (λ none. let count : 1 ≡ 0 = ap (λ (edits : List Edit). length edits) none in cc count))

-- UndoEdit and RedoEdit lead behind the letter, from the text's end and with a mark
abbrev letter_then_end : Editor
letter_then_end = after (start (codes "xy") 2 10) (Insert 0x61 ∷ TextEnd ∷ Mark ∷ [])

pub redo_leads_behind_the_letter : RedoMirrorsUndo
    → let e = after letter_then_end (UndoEdit ∷ RedoEdit ∷ []) in (e.place ≡ 1) × (e.mark ≡ None)
unfolding unicode_segmentation unicode_width digits
redo_leads_behind_the_letter law =
    let mirrored = law tables (codes "xy") 2 10 Auto ((Insert 0x61, None) ∷ (TextEnd, None) ∷ (Mark, None) ∷ []) refl (λ over. cc over) in
    let there = mirrored.redo_place (edit_of (codes "xy") 0 0 (codes "a") 0 1) [] refl in
    (there.place_is, there.mark_is)

-- RedoEdit and UndoEdit lead before it
pub undo_leads_before_the_letter : RedoMirrorsUndo
    → let e = after letter_then_end (UndoEdit ∷ TextEnd ∷ Mark ∷ RedoEdit ∷ UndoEdit ∷ []) in (e.place ≡ 0) × (e.mark ≡ None)
unfolding unicode_segmentation unicode_width digits
undo_leads_before_the_letter law =
    let mirrored = law tables (codes "xy") 2 10 Auto
    ((Insert 0x61, None) ∷ (TextEnd, None) ∷ (Mark, None) ∷ (UndoEdit, None) ∷ (TextEnd, None) ∷ (Mark, None) ∷ []) refl (λ over. cc over) in
    let there = mirrored.undo_place (edit_of (codes "xy") 0 0 (codes "a") 0 1) [] refl in
    (there.place_is, there.mark_is)

-- ---- a search

-- abcabc, after Find and c: the place is 2
abbrev at_the_first_c : Editor
at_the_first_c = after (start (codes "abcabc") 2 20) (Find ∷ Insert 0x63 ∷ [])

abbrev matches_at : ℕ → Type 0
matches_at at = MatchesAt tables Wide (codes "c") (codes "abcabc") at

-- c is found at 5, and from 3 on at no other offset before
at_five : (at : ℕ) → 3 ≤ at → at ≤ 5 → matches_at at → at ≡ 5
unfolding unicode_segmentation unicode_width digits unicode_normalization ucd_case
at_five at low high here =
    ⊎_elim (λ less. (let three : at ≡ 3 = omega (arith, low, less) in absurd (cc (subst matches_at three here).1)))
    (λ more. ⊎_elim (λ less. (let four : at ≡ 4 = omega (arith, more, less) in absurd (cc (subst matches_at four here).1)))
    (λ much. omega (arith, high, much)) (cases_lt at 5))
    (cases_lt at 4)

pub find_goes_to_five : FindGoesToNext → (after at_the_first_c (Find ∷ [])).place ≡ 5
unfolding unicode_segmentation unicode_width digits unicode_normalization ucd_case
find_goes_to_five law =
    let bounds : IsCharBoundary (codes "abcabc") 5 = (omega arith, λ inside high. absurd (omega (arith, high))) in
    let five : matches_at 5 = (bounds, refl) in
    ⊎_elim (λ next. next.2.0 ∙ ap (place_at (rows tables at_the_first_c)) (at_five next.0 next.1.not_before (next.1.least 5 (omega arith) five) next.1.is_match))
    (λ round. ⊎_elim (λ first. absurd (first.0 5 (omega arith) five)) (λ none. absurd (none.0 5 (omega arith) five)) round)
    (law tables at_the_first_c (record { text = (codes "abcabc", (refl, refl)); unasked = refl; settled = refl; on = refl; letters = λ e. cc e }))

-- after another Find the place is 5
abbrev at_the_last_c : Editor
at_the_last_c = after (start (codes "abcabc") 2 20) (Find ∷ Insert 0x63 ∷ Find ∷ [])

-- c is found at 2, and from there to 5 at no other offset before
at_two : (at : ℕ) → 2 ≤ at → at < 5 → matches_at at → at ≡ 2
unfolding unicode_segmentation unicode_width digits unicode_normalization ucd_case
at_two at low high here =
    ⊎_elim (λ less. omega (arith, low, less))
    (λ more. ⊎_elim (λ less. (let three : at ≡ 3 = omega (arith, more, less) in absurd (cc (subst matches_at three here).1)))
    (λ much. (let four : at ≡ 4 = omega (arith, high, much) in absurd (cc (subst matches_at four here).1)))
    (cases_lt at 4))
    (cases_lt at 3)

pub find_back_goes_to_two : FindBackGoesToPrevious → (after at_the_last_c (FindBack ∷ [])).place ≡ 2
unfolding unicode_segmentation unicode_width digits unicode_normalization ucd_case
find_back_goes_to_two law =
    let bounds : IsCharBoundary (codes "abcabc") 2 = (omega arith, λ inside high. absurd (omega (arith, high))) in
    let two : matches_at 2 = (bounds, refl) in
    ⊎_elim (λ last. last.2.0 ∙ ap (place_at (rows tables at_the_last_c)) (at_two last.0 (last.1.greatest 2 (omega arith) two) last.1.before last.1.is_match))
    (λ round. ⊎_elim (λ first. absurd (first.0 2 (omega arith) two)) (λ none. absurd (none.0 2 (omega arith) two)) round)
    (law tables at_the_last_c (record { text = (codes "abcabc", (refl, refl)); unasked = refl; settled = refl; on = refl; letters = λ e. cc e }))
