-- One Undo takes back what an answer put in.
use Rattle.std.proofs.Common.{◌≡◌, ℕ, suc, ◌+◌, ◌<◌, Bool, true, false, List, length, refl, sym, ap, subst, ◌∙◌, arith, inl, inr, if◌then◌else◌}
use Rattle.std.specs.Prelude.{◌≢◌, ◌⊎◌, ◌==◌, chars, encode_utf8, Option, Some, None}
use Rattle.bx_editor.specs.declared.questions.line.Target.{Target}
use Rattle.bx_editor.specs.declared.questions.answers.Prompt.{Prompt}
use Rattle.bx_editor.specs.declared.questions.answers.Prompt.TheVariants.{Off, Line, Name, Code, File, Overwrite}
use Rattle.bx_editor.specs.declared.answer.Answer.TheVariants.{Letter}
use Rattle.bx_editor.specs.questions.Answers.{asked, is_line_letter}
use Rattle.bx_editor.specs.questions.KeyLetters.{code_letter, name_letter}
use Rattle.bx_editor.specs.questions.Names.{coded, is_code_letter, asks_code, closing, named}
use Rattle.bx_keys.specs.declared.key.Key.{Key}
use Rattle.bx_keys.specs.declared.key.Key.TheVariants as keys
use Rattle.bx_text.specs.Edits.{fits, fits_both}
use Rattle.bx_editor.specs.undo_groups.Groups.{edited, run_start, after_insertion, kind_of}
use Rattle.bx_editor.specs.declared.undo_groups.typing.Typing.{Typing}
use Rattle.bx_editor.proofs.undo_groups_lemmas.RunLaws.{edit-is-of-its-run}
use Rattle.bx_ucd.specs.Data.{Data}
use Rattle.bx_editor.specs.declared.message.Message.TheVariants as messages
use Rattle.bx_editor.specs.Answering.{answer_of, without_line}
use Rattle.bx_editor.specs.Asking.{after_answer_letter, after_code, after_code_letter, after_file_letter, after_going, after_line_letter, after_name_key}
use Rattle.bx_editor.specs.Asking.{after_name_letter, after_named, answer_lengthened, asking, gone_to, longest_code, longest_line, with_character}
use Rattle.bx_editor.specs.Asking.{without_prompt, after_wrapping, spans_lines, with_wrap}
use Rattle.bx_editor_laws.specs.AskingLaws.{AnswerIsARun, types}
use Rattle.bx_editor.specs.Before.{Before, before}
use Rattle.bx_editor.specs.Editor.{Editor, cleared, with_insertion, with_typing}
use Rattle.bx_editor.specs.Effects.{AsksName, Refuses, by}
use Rattle.bx_editor.specs.InputLines.{after_taking, is_no_letter, is_taken, paste_behind, with_paste_behind}
use Rattle.bx_editor.specs.Keys.{after_asking, after_key, answered_name, answered_overwrite, answered_question, as_left}
use Rattle.bx_editor_laws.specs.Laws.{after_typing}
use Rattle.bx_editor.specs.Putting.{is_paste}
use Rattle.bx_editor.specs.Region.{is_empty, region}
use Rattle.bx_editor.specs.Saving.{after_deciding, after_naming, longest_name}
use Rattle.bx_editor_laws.specs.RunLaws.{IsBackBefore}
use Rattle.bx_editor.proofs.QuestionSteps as answers
use Rattle.bx_editor.proofs.Saved.{IsKeptSaving, deciding-keeps, naming-keeps}
use Rattle.bx_editor_laws.proofs.AskingKeys.{name-is}
use Rattle.bx_editor_laws.proofs.KeyEnds.{DoesWork, declined-key, ended-key}
use Rattle.bx_editor_laws.proofs.OneRun.{goes-back, insertion-begins, IsOneRun}
use Rattle.bx_editor_laws.proofs.QuestionKeys.{last-asked, stays-first, typed-leaves}
use Rattle.bx_editor_laws.proofs.QuestionAnswers.{asked-key}
use Rattle.bx_editor.proofs.TwoEdits.{runs-of-two}

-- ---- two edits of one undo group

two-start : (numbers : List ℕ) (n : ℕ) → run_start (edited numbers n false) (suc (suc n)) ≡ n
two-start numbers n =
    let first : suc n ≡ n + 1 = omega arith in
    let second : suc (suc n) ≡ suc n + 1 = omega arith in
    ap (λ rs. run_start rs (suc (suc n))) (sym (runs-of-two numbers n)) ∙ ap (run_start (edited (edited numbers n false) (suc n) true)) second
    ∙ edit-is-of-its-run (edited numbers n false) (suc n) true ∙ ap (run_start (edited numbers n false)) first ∙ edit-is-of-its-run numbers n false

wrap-begins : (d : Data) (e : Editor) (opener closer : List ℕ) → IsOneRun e (with_wrap d e opener closer)
wrap-begins d e opener closer = record { more = 1; over = (refl, (refl, refl)); start = two-start e.undo_groups (length e.content.past) }

-- ---- an answer

-- text and history stay, or an undo group is put in, and nothing is asked any more
abbrev PutsRun : Editor → Editor → Type 0
PutsRun e new = (new.content ≡ e.content) ⊎ (IsOneRun e new × (new.prompt ≡ Off))

either : (e : Editor) (b : Bool) (p q : Editor) → PutsRun e p → PutsRun e q → PutsRun e (if b then p else q)
either e true p q h k = h
either e false p q h k = k

character-puts : (d : Data) (e : Editor) (c : ℕ) → e.prompt ≡ Off → PutsRun e (with_character d e c)
character-puts d e c off =
    let typing = after_insertion (kind_of (d.class c)) in
    let one = insertion-begins d e e (encode_utf8 c) (refl, (refl, refl)) in
    either e (fits e.content.text e.place e.place (encode_utf8 c)) (with_typing (with_insertion d e (encode_utf8 c) false) typing)
    (record e { message = Some messages.TextFull }) (inr (record { more = one.more; over = one.over; start = one.start }, off)) (inl refl)

wrapping-puts : (d : Data) (e : Editor) (opener closer : ℕ) → e.prompt ≡ Off → PutsRun e (after_wrapping d e opener closer)
wrapping-puts d e opener closer off =
    let wrap = with_wrap d e (encode_utf8 opener) (encode_utf8 closer) in
    let full : Editor = record e { message = Some messages.TextFull } in
    let room = fits_both e.content.text (encode_utf8 opener) (encode_utf8 closer) in
    either e (spans_lines d e) (record e { message = Some messages.MoreThanOneLine }) (if room then wrap else full) (inl refl)
    (either e room wrap full (inr (wrap-begins d e (encode_utf8 opener) (encode_utf8 closer), off)) (inl refl))

named-puts : (d : Data) (e : Editor) (c : ℕ) (closer : Option ℕ) → e.prompt ≡ Off → PutsRun e (after_named d e c closer)
named-puts d e c None off = character-puts d e c off
named-puts d e c (Some closer) off =
    either e (is_empty (region e)) (with_character d e c) (after_wrapping d e c closer) (character-puts d e c off) (wrapping-puts d e c closer off)

code-puts : (d : Data) (e : Editor) (c : Option ℕ) → e.prompt ≡ Off → PutsRun e (after_code d e c)
code-puts d e None off = inl refl
code-puts d e (Some c) off = character-puts d e c off

-- in a question that is left
freed : (e new : Editor) → PutsRun (without_prompt e) new → PutsRun e new
freed e new (inl same) = inl same
freed e new (inr h) = inr (record { more = h.0.more; over = h.0.over; start = h.0.start }, h.1)

going-same : (d : Data) (e : Editor) (target : Option Target) → (gone_to d e target).content ≡ e.content
going-same d e None = refl
going-same d e (Some target) = refl

line-puts : (d : Data) (e : Editor) (c : ℕ) → PutsRun e (after_line_letter d e c)
line-puts d e c =
    let more = answer_lengthened d longest_line e c in
    either e (c == 0xA) (after_going d e) (if is_line_letter c then more else e) (inl (going-same d (without_prompt e) (asked (chars e.answer))))
    (either e (is_line_letter c) more e (inl refl) (inl refl))

name-puts : (d : Data) (e : Editor) (letter : ℕ) (c : Option ℕ) → PutsRun e (after_name_letter d e letter c)
name-puts d e letter None =
    either e (asks_code letter) (asking e Code) (if letter == 0xA then without_prompt e else e) (inl refl)
    (either e (letter == 0xA) (without_prompt e) e (inl refl) (inl refl))
name-puts d e letter (Some c) = freed e (after_named d (without_prompt e) c (closing letter)) (named-puts d (without_prompt e) c (closing letter) refl)

code-letter-puts : (d : Data) (e : Editor) (letter : ℕ) → PutsRun e (after_code_letter d e letter)
code-letter-puts d e letter =
    let put = after_code d (without_prompt e) (coded e.answer) in
    let more = answer_lengthened d longest_code e letter in
    either e (letter == 0xA) put (if is_code_letter letter then more else e) (freed e put (code-puts d (without_prompt e) (coded e.answer) refl))
    (either e (is_code_letter letter) more e (inl refl) (inl refl))

-- a save leaves the text
abbrev SameText : Editor → Editor → Type 0
SameText e x = x.content ≡ e.content

saves-same : (e : Editor) → IsKeptSaving (SameText e)
saves-same e = record {
  stored = λ x stored changed home message h. h;
  asked = λ x prompt answer cursor h. h;
  named = λ x name answer h. h;
}

file-puts : (d : Data) (e : Editor) (c : ℕ) → PutsRun e (after_file_letter d None e c)
file-puts d e c =
    let more = answer_lengthened d longest_name e c in
    either e (c == 0xA) (after_naming None (without_prompt e)) (if is_no_letter d c then e else more)
    (inl (naming-keeps (SameText e) (saves-same e) None (without_prompt e) refl)) (either e (is_no_letter d c) e more (inl refl) (inl refl))

letter-puts : (d : Data) (prompt : Prompt) (e : Editor) (c : ℕ) → PutsRun e (after_answer_letter d None prompt e c)
letter-puts d Off e c = inl refl
letter-puts d Line e c = line-puts d e c
letter-puts d Name e c = inl refl
letter-puts d Code e c = code-letter-puts d e (code_letter c)
letter-puts d File e c = file-puts d e c
letter-puts d Overwrite e c = inl refl

pasted-puts : (e new : Editor) (typing : Option Typing) → PutsRun e new → PutsRun e (with_paste_behind typing new)
pasted-puts e new None h = h
pasted-puts e new (Some typing) (inl same) = inl same
pasted-puts e new (Some typing) (inr h) = inr (record { more = h.0.more; over = h.0.over; start = h.0.start }, h.1)

taking-puts : (d : Data) (was : Before) (prompt : Prompt) (e : Editor) (c : ℕ)
    → PutsRun e (after_taking d was.typing c e (after_answer_letter d None prompt e c))
taking-puts d was prompt e c =
    let new = after_answer_letter d None prompt e c in
    pasted-puts e (if is_taken d was.typing c then new else e) (paste_behind d was.typing c)
    (either e (is_taken d was.typing c) new e (letter-puts d prompt e c) (inl refl))

-- a character that answers
answer-puts : (d : Data) (was : Before) (prompt : Prompt) (e : Editor) (key : Key) (c : ℕ) → answer_of key ≡ Letter c → PutsRun e (after_asking d None was prompt e key)
answer-puts d was Off e key c is = subst (λ a. PutsRun e (answered_question d None was e key a)) (sym is) (taking-puts d was e.prompt e c)
answer-puts d was Line e key c is = subst (λ a. PutsRun e (answered_question d None was e key a)) (sym is) (taking-puts d was e.prompt e c)
answer-puts d was Name e key c is =
    subst (λ a. PutsRun e (answered_name d None was e key (without_line a))) (sym is)
    (either e (is_paste was.typing) (with_typing e was.typing) (after_name_key d e c) (inl refl) (name-puts d e (name_letter c) (named (name_letter c))))
answer-puts d was Code e key c is = subst (λ a. PutsRun e (answered_question d None was e key a)) (sym is) (taking-puts d was e.prompt e c)
answer-puts d was File e key c is = subst (λ a. PutsRun e (answered_question d None was e key a)) (sym is) (taking-puts d was e.prompt e c)
answer-puts d was Overwrite e key c is =
    subst (λ a. PutsRun e (answered_overwrite None was e a)) (sym is)
    (either e (is_paste was.typing) (with_typing e was.typing) (after_deciding None (without_prompt e) c) (inl refl)
    (inl (deciding-keeps (SameText e) (saves-same e) None (without_prompt e) c refl)))

-- ---- an answer begins no paste, and leaves whether the text is only looked at

abbrev IsSettled : Editor → Type 0
IsSettled e = (e.pasted ≡ None) × (e.read_only ≡ false)

settled-saving : IsKeptSaving IsSettled
settled-saving = record {
  stored = λ x stored changed home message h. h;
  asked = λ x prompt answer cursor h. h;
  named = λ x name answer h. h;
}

settled-kept : (d : Data) → answers.IsKept d IsSettled
settled-kept d = record {
  inserted = λ e new h. h;
  wrapped = λ e opener closer h. h;
  told = λ e message h. h;
  placed = λ e place h. h;
  typed = λ e typing h. h;
  asked = λ e prompt answer cursor h. h;
  unasked = λ e h. h;
  moved = λ e text m h. h;
  saved = λ fault e h. naming-keeps IsSettled settled-saving fault e h;
}

taking-settled : (d : Data) (was : Before) (prompt : Prompt) (e : Editor) (c : ℕ) → IsSettled e
    → IsSettled (after_taking d was.typing c e (after_answer_letter d None prompt e c))
taking-settled d was prompt e c h =
    answers.taking d IsSettled (settled-kept d) was.typing c e (after_answer_letter d None prompt e c) h
    (answers.letter-keeps d IsSettled (settled-kept d) None prompt e c h)

either-settled : (b : Bool) (p q : Editor) → IsSettled p → IsSettled q → IsSettled (if b then p else q)
either-settled true p q h k = h
either-settled false p q h k = k

answer-settled : (d : Data) (was : Before) (prompt : Prompt) (e : Editor) (key : Key) (c : ℕ) → answer_of key ≡ Letter c → IsSettled e
    → IsSettled (after_asking d None was prompt e key)
answer-settled d was Off e key c is h = subst (λ a. IsSettled (answered_question d None was e key a)) (sym is) (taking-settled d was e.prompt e c h)
answer-settled d was Line e key c is h = subst (λ a. IsSettled (answered_question d None was e key a)) (sym is) (taking-settled d was e.prompt e c h)
answer-settled d was Name e key c is h =
    subst (λ a. IsSettled (answered_name d None was e key (without_line a))) (sym is)
    (either-settled (is_paste was.typing) (with_typing e was.typing) (after_name_key d e c) h
    (answers.name-letter-keeps d IsSettled (settled-kept d) e (name_letter c) (named (name_letter c)) h))
answer-settled d was Code e key c is h = subst (λ a. IsSettled (answered_question d None was e key a)) (sym is) (taking-settled d was e.prompt e c h)
answer-settled d was File e key c is h = subst (λ a. IsSettled (answered_question d None was e key a)) (sym is) (taking-settled d was e.prompt e c h)
answer-settled d was Overwrite e key c is h =
    subst (λ a. IsSettled (answered_overwrite None was e a)) (sym is)
    (either-settled (is_paste was.typing) (with_typing e was.typing) (after_deciding None (without_prompt e) c) h
    (deciding-keeps IsSettled settled-saving None (without_prompt e) c h))

-- ---- the law

grown : (d : Data) (first e now new : Editor) (key : Key) → IsSettled new → PutsRun e new → e.content ≡ first.content → e.place ≡ first.place → now ≡ as_left key new
    → length first.content.past < length now.content.past → IsBackBefore first (after_key d None now keys.Undo)
grown d first e now new key settled (inl stays) same at is more =
    let few = ap (λ (x : Editor). length x.content.past) is in
    absurd (omega (arith, more, few, ap (λ t. length t.past) (stays ∙ same)))
grown d first e now new key settled (inr h) same at is more =
    let works : DoesWork (as_left key new) = record { settled = settled.0; other = λ over. let both = sym h.1 ∙ over in cc both; writes = settled.1 } in
    let back = goes-back d e (as_left key new) works (record { more = h.0.more; over = h.0.over; start = h.0.start }) in
    subst (λ x. IsBackBefore first (after_key d None x keys.Undo)) (sym is)
    (record {
      text_is = back.text_is ∙ ap (λ t. t.text) same;
      past_is = back.past_is ∙ ap (λ t. t.past) same;
      unmarked = record { place_is = back.unmarked.place_is ∙ at; mark_is = back.unmarked.mark_is };
    })

answer-back : (d : Data) (first e : Editor) (key : Key) → types key ≡ true → IsSettled e → e.prompt ≢ Off → e.content ≡ first.content → e.place ≡ first.place
    → length first.content.past < length (after_key d None e key).content.past → IsBackBefore first (after_key d None (after_key d None e key) keys.Undo)
answer-back d first e (keys.Insert c) h settled on same at more =
    grown d first (cleared e) (after_key d None e (keys.Insert c)) (after_asking d None (before e) e.prompt (cleared e) (keys.Insert c)) (keys.Insert c)
    (answer-settled d (before e) e.prompt (cleared e) (keys.Insert c) c refl settled) (answer-puts d (before e) e.prompt (cleared e) (keys.Insert c) c refl) same at
    (asked-key d None e (keys.Insert c) settled.0 on refl refl) more
answer-back d first e keys.NewLine h settled on same at more =
    grown d first (cleared e) (after_key d None e keys.NewLine) (after_asking d None (before e) e.prompt (cleared e) keys.NewLine) keys.NewLine
    (answer-settled d (before e) e.prompt (cleared e) keys.NewLine 0xA refl settled) (answer-puts d (before e) e.prompt (cleared e) keys.NewLine 0xA refl) same at
    (asked-key d None e keys.NewLine settled.0 on refl refl) more
answer-back d first e _ h settled on same at more = absurd (cc h)

-- where the text is only looked at nothing is asked
looked-at : (d : Data) (e : Editor) → e.pasted ≡ None → (e.prompt ≡ Overwrite → ⊥) → e.read_only ≡ true → (after_key d None e keys.Name).prompt ≡ Off
looked-at d e settled other looked =
    let free = without_prompt (cleared e) in
    ap (λ (x : Editor). x.prompt) (ended-key d None e keys.Name settled refl refl refl other)
    ∙ ap (λ r. (by d None (before e) free (if r then Refuses else AsksName)).prompt) looked

can-write : (d : Data) (e : Editor) (b : Bool) → e.pasted ≡ None → (e.prompt ≡ Overwrite → ⊥) → (after_key d None e keys.Name).prompt ≢ Off → e.read_only ≡ b
    → e.read_only ≡ false
can-write d e true settled other on is = absurd (on (looked-at d e settled other is))
can-write d e false settled other on is = is

pub answer-is-a-run : AnswerIsARun
answer-is-a-run d e typed key settled stays types more =
    let asked = after_key d None e keys.Name in
    let on = stays-first d asked typed stays in
    let other : e.prompt ≡ Overwrite → ⊥ =
    λ over. on (ap (λ (x : Editor). x.prompt) (declined-key d None e keys.Name settled refl refl over refl)) in
    let writes = can-write d e e.read_only settled other on refl in
    let is = name-is d e settled other writes in
    let unpasted : asked.pasted ≡ None = ap (λ (x : Editor). x.pasted) is ∙ settled in
    let unlooked : asked.read_only ≡ false = ap (λ (x : Editor). x.read_only) is ∙ writes in
    let left = typed-leaves d asked typed unpasted stays in
    answer-back d e (after_typing d asked typed) key types (left.pasted ∙ unpasted, left.looked ∙ unlooked) (last-asked d asked typed stays)
    (left.content ∙ ap (λ (x : Editor). x.content) is) (left.place ∙ ap (λ (x : Editor). x.place) is) more
