-- Worked examples, each from a law alone: what is copied and cut, the mark, the text's ends, and a search that is given up.
use Rattle.std.proofs.Common.{true, ◌≡◌, ℕ, List, [], ◌∷◌, length, ◌<◌, ◌≤◌, refl, ap, ◌∙◌, arith, inl, inr}
use Rattle.std.specs.Prelude.{codes, Option, Some, None}
use Rattle.std.specs.Fmt.{digits}
use Rattle.ucd_case.proofs.Computing.{ucd_case}
use Rattle.unicode_normalization.proofs.Computing.{unicode_normalization}
use Rattle.unicode_segmentation.proofs.Computing.{unicode_segmentation}
use Rattle.unicode_width.proofs.Computing.{unicode_width}
use Rattle.bx_ucd.specs.Data.{Data}
use Rattle.bx_common.specs.Characters.{largest_text}
use Rattle.bx_keys.specs.declared.key.Key.{Key}
use Rattle.bx_keys.specs.declared.key.Key.TheVariants.{Insert, Erase, Forward, Size, Quit, Mark, Copy, Cut, Put, Find, FindBack, TextStart, TextEnd}
use Rattle.bx_store.specs.declared.store.StoreFault.{StoreFault}
use Rattle.bx_text.specs.Edits.{Edited}
use Rattle.bx_editor.specs.declared.cursor.Soft.TheVariants as softness
use Rattle.bx_editor.specs.Region.{mark_left}
use Rattle.bx_editor.specs.Editor.{Editor}
use Rattle.bx_editor.specs.Keys.{after_key}
use Rattle.bx_editor.specs.Functions.{after_keys}
use Rattle.bx_editor.specs.PasteLaws.{cuts_in}
use Rattle.bx_editor_laws.specs.Laws.{hard_mark, after_typing, CopyPutsTwice, GivingUpGoesBack, GoesToBothEnds, IsGivenUp, MarkTwiceIsNothing, PutRestoresCut, StaysOn}
use Rattle.bx_editor.proofs.Computed.{tables, start, after}

-- text, place and mark
abbrev triple : List ℕ → ℕ → Option ℕ → List ℕ × ℕ × Option ℕ
triple text place mark = (text, place, mark)

abbrev now : Editor → List ℕ × ℕ × Option ℕ
now e = triple e.content.text e.place e.mark

same_now : (e : Editor) (text : List ℕ) (place : ℕ) (mark : Option ℕ) → e.content.text ≡ text → e.place ≡ place → e.mark ≡ mark
    → now e ≡ triple text place mark
same_now e text place mark a b c =
    ap (λ t. triple t e.place e.mark) a ∙ ap (λ p. triple text p e.mark) b ∙ ap (λ m. triple text place m) c

-- ---- Copy, Cut and Put

-- the mark at 0, the cursor at 2
abbrev two_of_three : Editor
two_of_three = after (start (codes "abc") 2 30) (Mark ∷ Forward ∷ Forward ∷ [])

-- the region stands twice, and the cursor behind the second one
pub copy_puts_two_letters : CopyPutsTwice → now (after two_of_three (Copy ∷ Put ∷ [])) ≡ (codes "ababc", 4, None)
unfolding unicode_segmentation unicode_width digits
copy_puts_two_letters law =
    let less : 0 < 2 = omega arith in
    let within : 2 ≤ 3 = omega arith in
    let fit : 5 ≤ largest_text = omega arith in
    let done = law tables two_of_three refl refl refl refl refl (record { some = less; inside = within }) fit in
    same_now (after two_of_three (Copy ∷ Put ∷ [])) (codes "ababc") 4 None done.text_is done.place_is done.mark_is

-- the mark at 2, the cursor at 0: the cursor is behind the first one
abbrev from_behind : Editor
from_behind = after (start (codes "abc") 2 30) (Forward ∷ Forward ∷ Mark ∷ TextStart ∷ [])

pub copy_puts_before : CopyPutsTwice → now (after from_behind (Copy ∷ Put ∷ [])) ≡ (codes "ababc", 2, None)
unfolding unicode_segmentation unicode_width digits
copy_puts_before law =
    let less : 0 < 2 = omega arith in
    let within : 2 ≤ 3 = omega arith in
    let fit : 5 ≤ largest_text = omega arith in
    let done = law tables from_behind refl refl refl refl refl (record { some = less; inside = within }) fit in
    same_now (after from_behind (Copy ∷ Put ∷ [])) (codes "ababc") 2 None done.text_is done.place_is done.mark_is

-- the text is as before, and the cursor at the end of what was cut, whichever end it was at
pub put_restores_two_letters : PutRestoresCut → now (after from_behind (Cut ∷ Put ∷ [])) ≡ (codes "abc", 2, None)
unfolding unicode_segmentation unicode_width digits
put_restores_two_letters law =
    let less : 0 < 2 = omega arith in
    let within : 2 ≤ 3 = omega arith in
    let fit : 3 ≤ largest_text = omega arith in
    let done = law tables from_behind refl refl (record { some = less; inside = within }) fit refl in
    same_now (after from_behind (Cut ∷ Put ∷ [])) (codes "abc") 2 None done.text_is done.place_is done.mark_is

-- ---- Mark

module _ (law : MarkTwiceIsNothing) (d : Data) (e : Editor) (settled : e.pasted ≡ None) (out : cuts_in e.prompt e.search_state ≡ true) where
  -- whatever the editor and the tables
  no_mark_is_left : e.mark ≡ None → (after_keys d None e (Mark ∷ Mark ∷ [])).mark ≡ None
  no_mark_is_left none = ap (λ (x : Editor). x.mark) ((law d e settled out).here (inl none)) ∙ none

  the_mark_is_there_again : e.mark ≡ Some e.place → (after_keys d None e (Mark ∷ Mark ∷ [])).mark ≡ Some e.place
  the_mark_is_there_again there = ap (λ (x : Editor). x.mark) ((law d e settled out).here (inr there)) ∙ there

  the_place_is_the_same : e.mark ≡ None → (after_keys d None e (Mark ∷ Mark ∷ [])).place ≡ e.place
  the_place_is_the_same none = ap (λ (x : Editor). x.place) ((law d e settled out).here (inl none))

-- a mark at 0 is gone after Mark twice at 2
pub a_mark_elsewhere_is_gone : MarkTwiceIsNothing → now (after two_of_three (Mark ∷ Mark ∷ [])) ≡ (codes "abc", 2, None)
unfolding unicode_segmentation unicode_width digits
a_mark_elsewhere_is_gone law = ap now ((law tables two_of_three refl refl).elsewhere 0 refl (λ same. absurd (omega (arith, same))))

-- ---- the text's ends

module _ (law : GoesToBothEnds) (d : Data) (e : Editor) (settled : e.pasted ≡ None) where
  -- whatever the editor and the tables
  back_at_0 : (after_keys d None e (TextEnd ∷ TextStart ∷ [])).place ≡ 0
  back_at_0 = ap (λ (x : Editor). x.place) (law d e settled).start

  at_the_end : (after_keys d None e (TextStart ∷ TextEnd ∷ [])).place ≡ length e.content.text
  at_the_end = ap (λ (x : Editor). x.place) (law d e settled).end

  a_hard_mark_stays : e.soft ≡ softness.Off → (after_keys d None e (TextEnd ∷ TextStart ∷ [])).mark ≡ e.mark
  a_hard_mark_stays hard = ap (λ (x : Editor). x.mark) (law d e settled).start ∙ ap (λ s. hard_mark s e.mark) hard

-- ---- a search that is given up

-- the mark and the cursor at 1
abbrev marked_at_1 : Editor
marked_at_1 = after (start (codes "abcc") 2 30) (Forward ∷ Mark ∷ [])

-- c is found at 2 and at 3, the window is resized, an Erase leads back to 1, and c is found at 2 again
abbrev in_search : List (Key × Option StoreFault)
in_search = (Insert 0x63, None) ∷ (Find, None) ∷ (Size 3 20, None) ∷ (Erase, None) ∷ (Insert 0x63, None) ∷ []

abbrev given_up_by : Key → Key → Editor
given_up_by begin give = after_key tables None (after_typing tables (after_key tables None marked_at_1 begin) in_search) give

stays_on_after_find : StaysOn tables (after_key tables None marked_at_1 Find) in_search
unfolding unicode_segmentation unicode_width digits unicode_normalization ucd_case
stays_on_after_find = (refl, (refl, (refl, (refl, (refl, (refl, (refl, (refl, (refl, (refl, refl))))))))))

stays_on_after_find_back : StaysOn tables (after_key tables None marked_at_1 FindBack) in_search
unfolding unicode_segmentation unicode_width digits unicode_normalization ucd_case
stays_on_after_find_back = (refl, (refl, (refl, (refl, (refl, (refl, (refl, (refl, (refl, (refl, refl))))))))))

-- text, place and mark of an editor that gave a search up are those of another
given_up_now : (e new : Editor) → e.soft ≡ softness.Off → IsGivenUp e new → now new ≡ now e
given_up_now e new hard is =
    same_now new e.content.text e.place e.mark (ap (λ (t : Edited). t.text) is.content_is) is.place_is
    (is.mark_is ∙ ap (λ s. mark_left s e.mark) hard)

pub quit_goes_back : GivingUpGoesBack → now (given_up_by Find Quit) ≡ (codes "abcc", 1, Some 1)
unfolding unicode_segmentation unicode_width digits unicode_normalization ucd_case
quit_goes_back law =
    given_up_now marked_at_1 (given_up_by Find Quit) refl
    (law tables marked_at_1 Find Quit in_search refl refl (inl refl) (inl refl) stays_on_after_find)

pub copy_goes_back : GivingUpGoesBack → now (given_up_by FindBack Copy) ≡ (codes "abcc", 1, Some 1)
unfolding unicode_segmentation unicode_width digits unicode_normalization ucd_case
copy_goes_back law =
    given_up_now marked_at_1 (given_up_by FindBack Copy) refl
    (law tables marked_at_1 FindBack Copy in_search refl refl (inr (inl refl)) (inr (inl refl)) stays_on_after_find_back)
