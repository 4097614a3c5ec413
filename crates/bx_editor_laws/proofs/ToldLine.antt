-- The numbers that the status row tells, typed as an answer, lead to the place where the cursor is.
use Rattle.std.proofs.Common.{◌≡◌, ℕ, ◌+◌, ◌^◌, ◌<◌, ◌≤◌, Bool, true, false, nat_lt, List, [], ◌∷◌, ◌++◌, length, map, append_assoc, append-nil}
use Rattle.std.proofs.Common.{length-append, refl, sym, ap, ap₂, subst, ◌∙◌, arith, if◌then◌else◌}
use Rattle.std.specs.Prelude.{◌≢◌, ◌==◌, chars, codes, decimal, IsUtf8, None}
use Rattle.std.proofs.lemmas.Bool.Decides.{nat_tests}
use Rattle.bx_common.specs.Characters.{largest_text}
use Rattle.bx_common.specs.declared.base.Base.TheVariants.{Auto}
use Rattle.bx_editor.specs.declared.questions.answers.Prompt.TheVariants.{Off, Line, Overwrite}
use Rattle.bx_editor.specs.questions.Answers.{asked, is_line_letter}
use Rattle.bx_editor.specs.Before.{before}
use Rattle.bx_editor.specs.InputLines.{after_taking, line_at_end, line_lengthened, line_with}
use Rattle.bx_keys.specs.declared.key.Key.{Key}
use Rattle.bx_keys.specs.declared.key.Key.TheVariants as keys
use Rattle.bx_editor.specs.declared.undo_groups.typing.Typing.TheVariants as typings
use Rattle.bx_text.specs.Edits.{Edited}
use Rattle.bx_ucd.specs.Data.{Data}
use Rattle.bx_view.specs.Numbers.{place_of, paragraph_number, unit_number}
use Rattle.bx_view.specs.Places.{IsTextPlace}
use Rattle.bx_paragraph.specs.declared.moves.Visual.TheVariants.{Left}
use Rattle.bx_paragraph.specs.Slots.{reads_on}
use Rattle.bx_view.specs.TextRows.{cell_of, row_at, row_of, text_rows}
use Rattle.bx_view.specs.declared.position.Position.{Position}
use Rattle.bx_view.proofs.Numbered.{lead-back}
use Rattle.bx_editor.specs.Asking.{after_answer_letter, after_going, answer_lengthened, gone_to, longest_line, with_answer, without_prompt}
use Rattle.bx_editor_laws.specs.AskingLaws.{HasTextPlace, IsUntouched, ToldNumbersLeadBack, is_enter, told_numbers}
use Rattle.bx_editor.specs.Editor.{Editor, cleared, with_place}
use Rattle.bx_editor.specs.Keys.{after_asking, after_key, as_left}
use Rattle.bx_editor.specs.Functions.{after_keys}
use Rattle.bx_editor.specs.Region.{aged, mark_left, soft_left}
use Rattle.bx_editor.specs.Status.{message_part, told_at_place}
use Rattle.bx_editor_laws.proofs.AskingKeys.{line-is}
use Rattle.bx_editor_laws.proofs.FewNumbers.{few-numbers}
use Rattle.bx_editor_laws.proofs.LineEnd.{typed-at-end}
use Rattle.bx_editor_laws.proofs.QuestionKeys.{Leaves, leaves-trans, left-leaves, untouched}
use Rattle.bx_editor_laws.proofs.QuestionAnswers.{asked-key}
use Rattle.bx_editor_laws.proofs.ToldNumbers.{AreLetters, IsLetter, letters-append, letters-ascii, letters-chars, told-asked, told-letters, told-short}

-- ---- the answer

-- both numbers together
few : (d : Data) (e : Editor) → HasTextPlace d e → (paragraph_number d e.content.text e.place + 1) + unit_number d e.content.text e.place ≤ 16777218
few d e has = omega (arith, few-numbers d e.content.text e.place has.text, has.size)

module _ (d : Data) (e : Editor) (has : HasTextPlace d e) where
  abbrev p : ℕ
  p = paragraph_number d e.content.text e.place + 1

  abbrev u : ℕ
  u = unit_number d e.content.text e.place

  small-p : p < 2 ^ 64
  small-p = omega (arith, few d e has)

  small-u : u < 2 ^ 64
  small-u = omega (arith, few d e has)

  some-u : 0 < u
  some-u = omega arith

  pub letters-told : AreLetters (told_numbers d e)
  letters-told = told-letters p u small-p small-u

  pub short-told : length (told_numbers d e) ≤ 16
  short-told = told-short p u (omega arith) some-u (few d e has)

  place-told : place_of d e.content.text p u ≡ e.place
  place-told =
      let rows = text_rows d Auto 1 e.content.text in
      let is_rtl = reads_on Left (row_at rows (row_of rows e.place)).row in
      let at : Position = record { column = cell_of 1 rows e.place; paragraph = p; unit = u; is_rtl = is_rtl } in
      lead-back d Auto 1 e.content.text has.text e.place at has.place (record { column = refl; paragraph = refl; unit = refl; direction = refl })

  -- an editor with this answer goes nowhere
  pub stays-there : e.answer ≡ told_numbers d e → after_going d e ≡ without_prompt e
  stays-there is =
      ap (λ a. gone_to d (without_prompt e) (asked (chars a))) is
      ∙ ap (λ cs. gone_to d (without_prompt e) (asked cs)) (letters-chars (told_numbers d e) letters-told)
      ∙ ap (gone_to d (without_prompt e)) (told-asked p u (omega arith) some-u small-p small-u)
      ∙ ap (with_place (without_prompt e)) place-told

-- ---- it is typed

-- a part of it is typed
record IsTyping (first e : Editor) (answer : List ℕ) : Type 0 where
  pub prompt : e.prompt ≡ Line
  pub typing : e.typing ≡ typings.Off
  pub answer_is : e.answer ≡ answer
  pub cursor_is : e.input_cursor ≡ length answer
  pub settled : e.pasted ≡ None
  pub leaves : Leaves first e

no-end-by : (c : ℕ) (b : Bool) → (c == 0xA) ≡ b → is_line_letter c ≡ true → b ≡ false
no-end-by c false e letter = refl
no-end-by c true e letter =
    let end : c ≡ 0xA = grind (arith, nat_tests, e) in
    let wrong : is_line_letter 0xA ≡ true = ap is_line_letter (sym end) ∙ letter in
    absurd (cc wrong)

on-line : (e : Editor) → e.prompt ≡ Line → e.prompt ≢ Off
on-line e is none = let wrong : Line ≡ Off = sym is ∙ none in cc wrong

longer : (d : Data) (answer : List ℕ) (c : ℕ) → AreLetters answer → IsLetter c → length answer < 16
    → line_lengthened d longest_line (line_at_end answer) c ≡ line_at_end (answer ++ c ∷ [])
longer d answer c all letter room =
    let less : nat_lt (length answer) 16 ≡ true = grind (arith, nat_tests, room) in
    typed-at-end d longest_line answer c (letters-ascii answer all) (letters-ascii (answer ++ c ∷ []) (letters-append answer (c ∷ []) all (letter, tt)))
    letter.low less

type-on : (d : Data) (first e : Editor) (answer : List ℕ) (c : ℕ) → IsTyping first e answer → AreLetters answer → IsLetter c → length answer < 16
    → IsTyping first (after_key d None e (keys.Insert c)) (answer ++ c ∷ [])
type-on d first e answer c h all letter room =
    let was = cleared e in
    let typed = answer_lengthened d longest_line was c in
    let is : after_key d None e (keys.Insert c) ≡ as_left (keys.Insert c) (with_answer was (line_at_end (answer ++ c ∷ []))) =
    asked-key d None e (keys.Insert c) h.settled (on-line e h.prompt) refl refl
    ∙ ap (λ p. as_left (keys.Insert c) (after_asking d None (before e) p was (keys.Insert c))) h.prompt
    ∙ ap₂ (λ t a. as_left (keys.Insert c) (after_taking d t c was (after_answer_letter d None a was c))) h.typing h.prompt
    ∙ ap (λ b. as_left (keys.Insert c) (if b then after_going d was else (if is_line_letter c then typed else was))) (no-end-by c (c == 0xA) refl letter.line)
    ∙ ap (λ b. as_left (keys.Insert c) (if b then typed else was)) letter.line
    ∙ ap₂ (λ a n. as_left (keys.Insert c) (with_answer was (line_lengthened d longest_line (line_with a n) c))) h.answer_is h.cursor_is
    ∙ ap (λ l. as_left (keys.Insert c) (with_answer was l)) (longer d answer c all letter room) in
    subst (λ (x : Editor). IsTyping first x (answer ++ c ∷ [])) (sym is)
    (record {
      prompt = h.prompt;
      typing = refl;
      answer_is = refl;
      cursor_is = refl;
      settled = h.settled;
      leaves = record {
        content = h.leaves.content;
        pasted = h.leaves.pasted;
        place = h.leaves.place;
        held = h.leaves.held;
        looked = h.leaves.looked;
        hard = λ s. let still = h.leaves.hard s in (still.0, ap aged still.1);
      };
    })

-- the answer is typed, and other keys follow
record Reaches (d : Data) (first e : Editor) (answer rest : List ℕ) (more : List Key) : Type 0 where
  pub there : Editor
  pub typing : IsTyping first there (answer ++ rest)
  pub keys : after_keys d None e (map keys.Insert rest ++ more) ≡ after_keys d None there more

all-typed : (d : Data) (first e : Editor) (answer rest : List ℕ) (more : List Key) → IsTyping first e answer → AreLetters answer → AreLetters rest
    → length answer + length rest ≤ 16 → Reaches d first e answer rest more
all-typed d first e answer [] more h all left room =
    record { there = e; typing = subst (IsTyping first e) (sym (append-nil answer)) h; keys = refl }
all-typed d first e answer (c ∷ rest) more h all left room =
    let longer-answer = answer ++ c ∷ [] in
    let next = all-typed d first (after_key d None e (keys.Insert c)) longer-answer rest more
    (type-on d first e answer c h all left.0 (omega (arith, room))) (letters-append answer (c ∷ []) all (left.0, tt)) left.1
    (omega (arith, room, length-append answer (c ∷ []))) in
    record { there = next.there; typing = subst (IsTyping first next.there) (append_assoc answer (c ∷ []) rest) next.typing; keys = next.keys }

-- ---- its end

has-still : (d : Data) (first e : Editor) → Leaves first e → HasTextPlace d first → HasTextPlace d e
has-still d first e left has = record {
  text = subst (λ (t : Edited). IsUtf8 t.text) (sym left.content) has.text;
  size = subst (λ (t : Edited). length t.text ≤ largest_text) (sym left.content) has.size;
  place = subst (λ (t : Edited). IsTextPlace d t.text e.place) (sym left.content) (subst (IsTextPlace d first.content.text) (sym left.place) has.place);
}

told-still : (d : Data) (first e : Editor) → Leaves first e → told_numbers d first ≡ told_numbers d e
told-still d first e left =
    ap₂ (λ (t : Edited) place. decimal (paragraph_number d t.text place + 1) ++ (codes ":" ++ decimal (unit_number d t.text place))) (sym left.content) (sym left.place)

ended : (d : Data) (first e : Editor) (key : Key) → after_key d None e key ≡ as_left key (after_taking d e.typing 0xA (cleared e) (after_answer_letter d None e.prompt (cleared e) 0xA))
    → IsTyping first e (told_numbers d first) → HasTextPlace d first → IsUntouched first (after_key d None e key) × ((after_key d None e key).prompt ≡ Off)
ended d first e key is h has =
    let was = cleared e in
    let left : Leaves first was = record { content = h.leaves.content; pasted = h.leaves.pasted; place = h.leaves.place; held = h.leaves.held; looked = h.leaves.looked; hard = h.leaves.hard } in
    let there = stays-there d was (has-still d first was left has) (h.answer_is ∙ told-still d first was left) in
    let new = without_prompt was in
    let whole : after_key d None e key ≡ as_left key new =
    is ∙ ap₂ (λ t a. as_left key (after_taking d t 0xA was (after_answer_letter d None a was 0xA))) h.typing h.prompt ∙ ap (as_left key) there in
    let stays : Leaves was new = record { content = refl; pasted = refl; place = refl; held = refl; looked = refl; hard = λ s. (refl, s) } in
    subst (λ (x : Editor). IsUntouched first x × (x.prompt ≡ Off)) (sym whole)
    (untouched first (as_left key new) (leaves-trans first e (as_left key new) h.leaves (left-leaves e new key stays)), refl)

entered : (d : Data) (first e : Editor) (enter : Key) → is_enter enter ≡ true → IsTyping first e (told_numbers d first) → HasTextPlace d first
    → IsUntouched first (after_key d None e enter) × ((after_key d None e enter).prompt ≡ Off)
entered d first e (keys.Insert c) end h has =
    let same : c ≡ 0xA = grind (arith, nat_tests, end) in
    ended d first e (keys.Insert c)
    (asked-key d None e (keys.Insert c) h.settled (on-line e h.prompt) refl refl
    ∙ ap (λ p. as_left (keys.Insert c) (after_asking d None (before e) p (cleared e) (keys.Insert c))) h.prompt
    ∙ ap (λ x. as_left (keys.Insert c) (after_taking d e.typing x (cleared e) (after_answer_letter d None e.prompt (cleared e) x))) same) h has
entered d first e keys.NewLine end h has =
    ended d first e keys.NewLine
    (asked-key d None e keys.NewLine h.settled (on-line e h.prompt) refl refl
    ∙ ap (λ p. as_left keys.NewLine (after_asking d None (before e) p (cleared e) keys.NewLine)) h.prompt) h has
entered d first e _ end h has = absurd (cc end)

-- ---- the law

begun : (d : Data) (e : Editor) → e.pasted ≡ None → (e.prompt ≡ Overwrite → ⊥) → IsTyping e (after_key d None e keys.GoTo) []
begun d e settled other =
    subst (λ (x : Editor). IsTyping e x []) (sym (line-is d e settled other))
    (record {
      prompt = refl;
      typing = refl;
      answer_is = refl;
      cursor_is = refl;
      settled = settled;
      leaves = record { content = refl; pasted = refl; place = refl; held = refl; looked = refl; hard = λ h. (ap (λ s. mark_left s e.mark) h, ap (λ s. aged (soft_left s)) h) };
    })

asked-with : (d : Data) (e : Editor) → HasTextPlace d e → HasTextPlace d (with_answer e (line_at_end (told_numbers d e)))
asked-with d e has = record { text = has.text; size = has.size; place = has.place }

pub told-numbers-lead-back : ToldNumbersLeadBack
told-numbers-lead-back d e has = record {
  told = append_assoc (if e.changed then codes "* " else codes "- ") (told_numbers d e) (message_part (told_at_place d e) e.message);
  answered = stays-there d (with_answer e (line_at_end (told_numbers d e))) (asked-with d e has) refl;
  typed = λ settled other enter end.
      let told = told_numbers d e in
      let all = all-typed d e (after_key d None e keys.GoTo) [] told (enter ∷ []) (begun d e settled other) tt (letters-told d e has) (omega (arith, short-told d e has)) in
      subst (λ (x : Editor). IsUntouched e x × (x.prompt ≡ Off)) (sym all.keys) (entered d e all.there enter end all.typing has);
}
