-- Worked examples, each from a law alone: questions, wrapped regions, and what is told.
use Rattle.std.proofs.Common.{◌≡◌, ℕ, List, [], ◌∷◌, ◌++◌, map, refl, ap, inl, arith}
use Rattle.std.specs.Prelude.{codes, All, Option, Some, None}
use Rattle.std.specs.Fmt.{digits}
use Rattle.std.specs.Str.{chars}
use Rattle.unicode_segmentation.proofs.Computing.{unicode_segmentation}
use Rattle.unicode_width.proofs.Computing.{unicode_width}
use Rattle.bx_common.specs.declared.base.Base.TheVariants.{Auto}
use Rattle.bx_keys.specs.declared.key.Key.{Key}
use Rattle.bx_keys.specs.declared.key.Key.TheVariants.{Insert, NewLine, Erase, Forward, TextEnd, Back, Mark, Undo, GoTo, Name, Tell}
use Rattle.bx_levels.specs.resolve.Laws.{level_at}
use Rattle.bx_rows.specs.RowPicture.{letter_glyphs}
use Rattle.bx_text.specs.Changes.{IsRange}
use Rattle.bx_view.specs.Numbers.{body_at}
use Rattle.bx_store.specs.declared.store.StoreFault.{StoreFault}
use Rattle.bx_editor_laws.specs.AskingLaws.{AnswerIsARun, CodePutsIn, IsAbove, IsShown, PromptsAreShown, IsolatesRaise, LetterIsolates, LetterPutsIn}
use Rattle.bx_editor_laws.specs.AskingLaws.{LetterWraps, QuestionsChangeThemselves, TellShows, TellsWhatStands, ToldNumbersLeadBack}
use Rattle.bx_editor.specs.Editor.{Editor}
use Rattle.bx_editor.specs.Status.{row_text, status_text, told_at_place, typed_glyphs}
use Rattle.bx_editor.proofs.Computed.{tables, start, after, letters}

abbrev typed : List Key → List (Key × Option StoreFault)
typed keys = map (λ key. (key, None)) keys

-- ---- questions

-- at the third unit of the second line
abbrev at_the_end : Editor
at_the_end = after (start (codes "ab\ncde") 4 40) (TextEnd ∷ Back ∷ [])

abbrev a_line_asked : Editor
a_line_asked = after at_the_end (GoTo ∷ [])

pub digits_go_nowhere : QuestionsChangeThemselves
    → let e = after a_line_asked (Insert 0x31 ∷ Erase ∷ Insert 0x39 ∷ []) in (e.content.text ≡ codes "ab\ncde") × (e.place ≡ 5)
unfolding unicode_segmentation unicode_width digits
digits_go_nowhere law =
    let kept = (law tables a_line_asked (λ e. cc e) refl).keys (typed (Insert 0x31 ∷ Erase ∷ Insert 0x39 ∷ [])) ((λ e. cc e), ((λ e. cc e), ((λ e. cc e), (λ e. cc e)))) in
    (ap (λ t. t.text) kept.content_is, kept.place_is)

pub two_three_is_here : ToldNumbersLeadBack → (after at_the_end (GoTo ∷ (letters (codes "2:3") ++ NewLine ∷ []))).place ≡ 5
unfolding unicode_segmentation unicode_width digits
two_three_is_here law =
    ((law tables at_the_end (record { text = (codes "ab\ncde", (refl, refl)); size = omega arith; place = (5, omega arith, refl) })).typed refl (λ over. cc over) NewLine refl).0.place_is

-- ---- what is put in

-- between a and b
abbrev between : Editor
between = after (start (codes "ab") 4 40) (Forward ∷ [])

pub a_code_is_taken_back : AnswerIsARun
    → let e = after between (Name ∷ (letters (codes "u5d0") ++ Insert 0xA ∷ Undo ∷ [])) in (e.content.text ≡ codes "ab") × (e.place ≡ 1)
unfolding unicode_segmentation unicode_width digits
a_code_is_taken_back law =
    let back = law tables between (typed (letters (codes "u5d0"))) (Insert 0xA) refl
    ((λ e. cc e), ((λ e. cc e), ((λ e. cc e), ((λ e. cc e), (λ e. cc e))))) refl (omega arith) in
    (back.text_is, back.unmarked.place_is)

-- l names a left-to-right mark
pub a_mark_is_put_in : LetterPutsIn → (after between (Name ∷ Insert 0x6C ∷ [])).content.text ≡ codes "a" ++ 0xE2 ∷ 0x80 ∷ 0x8E ∷ codes "b"
unfolding unicode_segmentation unicode_width digits
a_mark_is_put_in law = (law tables between 0x6C 0x200E (record { settled = refl; undecided = (λ over. cc over); writes = refl }) refl (inl refl) (omega arith)).text_is

-- 5d0 is alef's code
pub alef_is_put_in : CodePutsIn
    → (after between (Name ∷ Insert 0x2B ∷ (letters (codes "5d0") ++ NewLine ∷ []))).content.text ≡ codes "a" ++ 0xD7 ∷ 0x90 ∷ codes "b"
unfolding unicode_segmentation unicode_width digits
alef_is_put_in law = (law tables between 0x2B (codes "5d0") 0x5D0 NewLine (record { settled = refl; undecided = (λ over. cc over); writes = refl }) refl refl (omega arith) refl (omega arith)).text_is

-- b is marked in abc
abbrev b_marked : Editor
b_marked = after (start (codes "abc") 4 40) (Forward ∷ Mark ∷ Forward ∷ [])

-- i names an isolate from left to right
pub b_is_isolated : LetterWraps
    → (after b_marked (Name ∷ Insert 0x69 ∷ [])).content.text ≡ codes "a" ++ 0xE2 ∷ 0x81 ∷ 0xA6 ∷ 0x62 ∷ 0xE2 ∷ 0x81 ∷ 0xA9 ∷ codes "c"
unfolding unicode_segmentation unicode_width digits
b_is_isolated law =
    ((law tables b_marked 0x69 0x2066 0x2069 (record { settled = refl; undecided = (λ over. cc over); writes = refl }) refl refl
    (record { some = omega arith; inside = omega arith })).fits refl (omega arith)).text_is

-- in its paragraph
pub b_stands_in_an_isolate : LetterIsolates
    → (number : ℕ) × (front : List ℕ) × (back : List ℕ)
    × (chars (body_at tables (after b_marked (Name ∷ Insert 0x69 ∷ [])).content.text number) ≡ front ++ 0x2066 ∷ 0x62 ∷ 0x2069 ∷ back)
unfolding unicode_segmentation unicode_width digits chars
b_stands_in_an_isolate law =
    let range : IsRange (codes "abc") 1 2 = record {
      start_bounds = (omega arith, λ inside high. absurd (omega (arith, high)));
      stop_bounds = (omega arith, λ inside high. absurd (omega (arith, high)));
      in_order = omega arith;
    } in
    let isolated = law tables b_marked 0x69 0x2066 0x2069 (record {
      can = record { settled = refl; undecided = (λ over. cc over); writes = refl };
      opener_is = refl;
      closer_is = refl;
      begins = refl;
      ends = refl;
      text = (codes "abc", (refl, refl));
      range = range;
      some = omega arith;
      one_line = refl;
      room = omega arith;
    }) in
    (isolated.number, isolated.front, isolated.back, isolated.now)

-- a, an isolate from right to left with b in it, c
pub b_is_above : IsolatesRaise → IsAbove 0 (level_at tables Auto (0x61 ∷ 0x2067 ∷ 0x62 ∷ 0x2069 ∷ 0x63 ∷ []) 2)
b_is_above law = law tables Auto (0x61 ∷ []) (0x62 ∷ []) (0x2069 ∷ 0x63 ∷ []) 0x2067 refl (omega arith) 0 (omega arith) refl

-- ---- a prompt

-- a digit that no ASCII has
abbrev a_digit_typed : Editor
a_digit_typed = after (start (codes "ab") 4 40) (GoTo ∷ Insert 0x661 ∷ [])

pub an_arabic_digit_is_shown : PromptsAreShown
    → All IsShown (letter_glyphs (codes " line: ") ++ typed_glyphs tables a_digit_typed (row_text tables a_digit_typed) (Some (0xD9 ∷ 0xA1 ∷ [])))
unfolding unicode_segmentation unicode_width digits
an_arabic_digit_is_shown law = (law tables (codes "ab") 4 40 Auto (typed (GoTo ∷ Insert 0x661 ∷ [])) (tt, (refl, tt))).glyphs (λ e. cc e)

-- ---- what is told

-- alef with an acute
abbrev at_alef : Editor
at_alef = start (0x5d0 ∷ 0x301 ∷ 0x5d1 ∷ []) 4 60

pub alef_is_told : TellsWhatStands → told_at_place tables at_alef ≡ codes "U+05D0 R U+0301 NSM level 1"
unfolding unicode_segmentation unicode_width digits
alef_is_told law =
    (law tables at_alef (record { text = (0x5d0 ∷ 0x301 ∷ 0x5d1 ∷ [], (refl, refl)); columns = refl })).unit 0 [] (0xd7 ∷ 0x90 ∷ 0xcc ∷ 0x81 ∷ []) ((0xd7 ∷ 0x91 ∷ []) ∷ [])
    (record { there = omega arith; units = refl; place_is = refl }) 0x5d0 (0x301 ∷ []) refl 0 1 (omega arith) (record { none_before = λ j h. absurd (omega (arith, h)); level_is = refl })

pub it_is_shown : TellShows → status_text tables (after at_alef (Tell ∷ [])) ≡ codes "- 1:1 U+05D0 R U+0301 NSM level 1"
unfolding unicode_segmentation unicode_width digits
it_is_shown law = (law tables at_alef refl (λ over. cc over)).0
