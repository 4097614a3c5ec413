-- Worked examples of the laws of words, line ends, Cancel, and the text that was stored, each from a law alone.
use Rattle.std.proofs.Common.{◌≡◌, ℕ, zero, suc, ◌<◌, ◌≤◌, true, false, List, [], ◌∷◌, ◌++◌, length, map, get_or, take, drop, refl, sym}
use Rattle.std.proofs.Common.{ap, subst, ◌∙◌}
use Rattle.std.proofs.Common.{arith, inl}
use Rattle.std.specs.Prelude.{codes, Option, Some, None}
use Rattle.std.specs.Fmt.{digits}
use Rattle.unicode_segmentation.proofs.Computing.{unicode_segmentation}
use Rattle.unicode_width.proofs.Computing.{unicode_width}
use Rattle.bx_common.specs.Characters.{largest_text}
use Rattle.bx_common.specs.declared.base.Base.TheVariants.{Auto}
use Rattle.bx_keys.specs.declared.key.Key.{Key}
use Rattle.bx_keys.specs.declared.key.Key.TheVariants.{Cancel, DeleteWord, EraseWord, Forward, GoTo, Mark, NewLine, Redo, Save, Select}
use Rattle.bx_keys.specs.declared.key.Key.TheVariants.{TextEnd, Undo}
use Rattle.bx_store.specs.declared.store.StoreFault.{StoreFault}
use Rattle.bx_view.specs.declared.moves.Logical.TheVariants as ways
use Rattle.bx_view.specs.Laws.{IsGreatestBefore, IsLeastBehind}
use Rattle.bx_view.specs.Words.{text_stops}
use Rattle.bx_editor.specs.Editor.{Editor}
use Rattle.bx_editor_laws.specs.LineLaws.{NewLinePutsSeparator}
use Rattle.bx_editor_laws.specs.SelectionLaws.{CancelUnmarks}
use Rattle.bx_editor_laws.specs.StoredLaws.{StaysInReach, StoredIsUnchanged}
use Rattle.bx_editor_laws.specs.WordLaws.{IsPlain, WordKeysErase}
use Rattle.bx_editor.proofs.Computed.{tables, start, after, letters}

-- ---- words

abbrev two_words : List ℕ
two_words = codes "ab cd"

abbrev at_the_start : Editor
at_the_start = start two_words 2 20

abbrev at_the_end : Editor
at_the_end = after at_the_start (TextEnd ∷ [])

plain_at_the_start : IsPlain at_the_start
unfolding unicode_segmentation unicode_width digits
plain_at_the_start = record { text = (two_words, (refl, refl)); unasked = refl; unsought = refl; settled = refl; writes = refl; unselected = refl }

plain_at_the_end : IsPlain at_the_end
unfolding unicode_segmentation unicode_width digits
plain_at_the_end = record { text = (two_words, (refl, refl)); unasked = refl; unsought = refl; settled = refl; writes = refl; unselected = refl }

forward_stops : text_stops tables ways.Forward two_words ≡ 0 ∷ 3 ∷ 5 ∷ []
unfolding unicode_segmentation unicode_width
forward_stops = refl

back_stops : text_stops tables ways.Back two_words ≡ 0 ∷ 0 ∷ 3 ∷ []
unfolding unicode_segmentation unicode_width
back_stops = refl

least_is_3 : (stop k : ℕ) → k < 3 → get_or (0 ∷ 3 ∷ 5 ∷ []) k stop ≡ stop → 0 < stop → stop ≤ 3 → stop ≡ 3
least_is_3 stop zero h e past upto = absurd (omega (arith, e, past))
least_is_3 stop (suc zero) h e past upto = sym e
least_is_3 stop (suc (suc zero)) h e past upto = absurd (omega (arith, e, upto))
least_is_3 stop (suc (suc (suc k))) h e past upto = absurd (omega (arith, h))

greatest_is_3 : (stop k : ℕ) → k < 3 → get_or (0 ∷ 0 ∷ 3 ∷ []) k stop ≡ stop → 3 ≤ stop → stop ≡ 3
greatest_is_3 stop zero h e from = absurd (omega (arith, e, from))
greatest_is_3 stop (suc zero) h e from = absurd (omega (arith, e, from))
greatest_is_3 stop (suc (suc zero)) h e from = sym e
greatest_is_3 stop (suc (suc (suc k))) h e from = absurd (omega (arith, h))

next_stop : (stop : ℕ) → IsLeastBehind (text_stops tables ways.Forward two_words) 0 stop → stop ≡ 3
next_stop stop is =
    let next = subst (λ os. IsLeastBehind os 0 stop) forward_stops is in
    least_is_3 stop next.is_stop.0 next.is_stop.1 next.is_stop.2 next.behind (next.least 3 (1, omega arith, refl) (omega arith))

last_stop : (stop : ℕ) → IsGreatestBefore (text_stops tables ways.Back two_words) 5 stop → stop ≡ 3
last_stop stop is =
    let last = subst (λ os. IsGreatestBefore os 5 stop) back_stops is in
    greatest_is_3 stop last.is_stop.0 last.is_stop.1 last.is_stop.2 (last.greatest 3 (2, omega arith, refl) (omega arith))

pub the_last_word_is_erased : WordKeysErase → (after at_the_end (EraseWord ∷ [])).content.text ≡ codes "ab "
unfolding unicode_segmentation unicode_width digits
the_last_word_is_erased law =
    let some : 0 < 5 = omega arith in
    let erased = (law.before tables at_the_end plain_at_the_end).word some in
    erased.2.text_is ∙ ap (λ n. take n two_words ++ drop 5 two_words) (last_stop erased.0 erased.1)

pub the_first_word_and_its_blank_are_erased : WordKeysErase → (after at_the_start (DeleteWord ∷ [])).content.text ≡ codes "cd"
unfolding unicode_segmentation unicode_width digits
the_first_word_and_its_blank_are_erased law =
    let more : 0 < 5 = omega arith in
    let erased = (law.behind tables at_the_start plain_at_the_start).word more in
    erased.2.text_is ∙ ap (λ n. drop n two_words) (next_stop erased.0 erased.1)

pub an_erased_word_comes_back : WordKeysErase → (after at_the_end (EraseWord ∷ Undo ∷ [])).content.text ≡ two_words
unfolding unicode_segmentation unicode_width digits
an_erased_word_comes_back law =
    let some : 0 < 5 = omega arith in
    ((law.before tables at_the_end plain_at_the_end).word some).2.comes_back.text_is

pub nothing_is_erased_before_the_text : WordKeysErase → (after at_the_start (EraseWord ∷ [])).content.text ≡ two_words
unfolding unicode_segmentation unicode_width digits
nothing_is_erased_before_the_text law = ap (λ t. t.text) ((law.before tables at_the_start plain_at_the_start).at_start refl).content_is

-- ---- line ends

-- b and c in two lines, with CR LF or LF between them
abbrev crlf_text : List ℕ
crlf_text = 0x62 ∷ 0xD ∷ 0xA ∷ 0x63 ∷ []

abbrev lf_text : List ℕ
lf_text = 0x62 ∷ 0xA ∷ 0x63 ∷ []

abbrev crlf_start : Editor
crlf_start = start crlf_text 4 20

abbrev lf_start : Editor
lf_start = start lf_text 4 20

plain_crlf : IsPlain crlf_start
unfolding unicode_segmentation unicode_width digits
plain_crlf = record { text = (crlf_text, (refl, refl)); unasked = refl; unsought = refl; settled = refl; writes = refl; unselected = refl }

plain_lf : IsPlain lf_start
unfolding unicode_segmentation unicode_width digits
plain_lf = record { text = (lf_text, (refl, refl)); unasked = refl; unsought = refl; settled = refl; writes = refl; unselected = refl }

pub cr_lf_goes_before_cr_lf : NewLinePutsSeparator → (after crlf_start (NewLine ∷ [])).content.text ≡ 0xD ∷ 0xA ∷ crlf_text
unfolding unicode_segmentation unicode_width digits
cr_lf_goes_before_cr_lf law =
    let few : 6 ≤ largest_text = omega arith in (((law tables crlf_start plain_crlf).crlf refl).fits few).text_is

pub lf_goes_before_lf : NewLinePutsSeparator → (after lf_start (NewLine ∷ [])).content.text ≡ 0xA ∷ lf_text
unfolding unicode_segmentation unicode_width digits
lf_goes_before_lf law =
    let few : 4 ≤ largest_text = omega arith in (((law tables lf_start plain_lf).other (λ is. cc is)).fits few).text_is

-- ---- Cancel

pub cancel_takes_a_selection_off : CancelUnmarks → (after (start (codes "abcd") 4 40) (Select ∷ Forward ∷ Cancel ∷ [])).mark ≡ None
unfolding unicode_segmentation unicode_width digits
cancel_takes_a_selection_off law =
    ap (λ (e : Editor). e.mark) ((law tables (after (start (codes "abcd") 4 40) (Select ∷ Forward ∷ [])) refl refl).unmarked refl)

pub in_a_question_the_mark_stays : CancelUnmarks → (after (start (codes "abcd") 4 40) (Mark ∷ GoTo ∷ Cancel ∷ [])).mark ≡ Some 0
unfolding unicode_segmentation unicode_width digits
in_a_question_the_mark_stays law =
    ap (λ (e : Editor). e.mark) ((law tables (after (start (codes "abcd") 4 40) (Mark ∷ GoTo ∷ [])) refl refl).unasked (λ is. cc is))

-- ---- the text that was stored

abbrev typed : List Key → List (Key × Option StoreFault)
typed keys = map (λ key. (key, None)) keys

-- behind ab, to be saved
abbrev behind_ab : Editor
behind_ab = after (start [] 5 40) (letters (codes "ab"))

-- once it is saved
abbrev saved_ab : Editor
saved_ab = after behind_ab (Save ∷ [])

-- the blank is an undo group, and cd another
abbrev one_run_undone : List Key
one_run_undone = letters (codes " cd") ++ Undo ∷ []

letters_in_reach : StaysInReach tables 2 saved_ab (typed (letters (codes " cd")))
unfolding unicode_segmentation unicode_width digits
letters_in_reach =
    let two : 2 ≤ 2 = omega arith in
    let three : 2 ≤ 3 = omega arith in
    let four : 2 ≤ 4 = omega arith in
    (inl two, (refl, (inl three, (refl, (inl four, (refl, tt))))))

one_run_in_reach : StaysInReach tables 2 saved_ab (typed one_run_undone)
unfolding unicode_segmentation unicode_width digits
one_run_in_reach =
    let two : 2 ≤ 2 = omega arith in
    let three : 2 ≤ 3 = omega arith in
    let four : 2 ≤ 4 = omega arith in
    let five : 2 ≤ 5 = omega arith in
    (inl two, (refl, (inl three, (refl, (inl four, (refl, (inl five, (refl, tt))))))))

pub undone_to_the_saved_text_it_is_unchanged : StoredIsUnchanged → (after behind_ab (Save ∷ one_run_undone ++ Undo ∷ [])).changed ≡ false
unfolding unicode_segmentation unicode_width digits
undone_to_the_saved_text_it_is_unchanged law =
    ((law.saved tables behind_ab Save (typed one_run_undone) refl one_run_in_reach refl (λ over. cc over) refl).0.stored
    (λ none. let three : 3 ≡ 0 = ap length none in cc three)) refl

pub before_that_it_is_changed : StoredIsUnchanged → (after behind_ab (Save ∷ one_run_undone)).changed ≡ true
unfolding unicode_segmentation unicode_width digits
before_that_it_is_changed law =
    ((law.saved tables behind_ab Save (typed (letters (codes " cd"))) refl letters_in_reach refl (λ over. cc over) refl).0.other
    (λ none. let five : 5 ≡ 0 = ap length none in cc five)) (λ is. let apart : 3 ≡ 2 = is in cc apart)

undone_in_reach : StaysInReach tables 2 saved_ab (typed (Undo ∷ []))
unfolding unicode_segmentation unicode_width digits
undone_in_reach = let two : 2 ≤ 2 = omega arith in (inl two, (refl, tt))

pub redone_to_the_saved_text_it_is_unchanged : StoredIsUnchanged → (after behind_ab (Save ∷ Undo ∷ Redo ∷ [])).changed ≡ false
unfolding unicode_segmentation unicode_width digits
redone_to_the_saved_text_it_is_unchanged law =
    ((law.saved tables behind_ab Save (typed (Undo ∷ [])) refl undone_in_reach refl (λ over. cc over) refl).1.stored
    (λ none. let two : 2 ≡ 0 = ap length none in cc two)) refl

typed_in_reach : StaysInReach tables 0 (start (codes "ab") 5 40) (typed (letters (codes "xy")))
unfolding unicode_segmentation unicode_width digits
typed_in_reach =
    let none : 0 ≤ 0 = omega arith in
    let one : 0 ≤ 1 = omega arith in
    (inl none, (refl, (inl one, (refl, tt))))

pub undone_to_the_opened_text_it_is_unchanged : StoredIsUnchanged
    → (after (start (codes "ab") 5 40) (letters (codes "xy") ++ Undo ∷ [])).changed ≡ false
unfolding unicode_segmentation unicode_width digits
undone_to_the_opened_text_it_is_unchanged law =
    ((law.opened tables (codes "ab") 5 40 Auto (typed (letters (codes "xy"))) typed_in_reach refl (λ over. cc over) refl).0.stored
    (λ none. let two : 2 ≡ 0 = ap length none in cc two)) refl
