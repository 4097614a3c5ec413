-- A code that is typed puts its character in.
use Rattle.std.proofs.Common.{◌≡◌, ℕ, zero, suc, ◌+◌, ◌<◌, ◌≤◌, ◌==◌, ◌&&◌, Bool, true, false, nat_lt, List, [], ◌∷◌, ◌++◌, length, map, take, drop}
use Rattle.std.proofs.Common.{append_assoc, append-nil, length-append, encode_utf8, Some, None, refl, sym, ap, ap₂, subst, ◌∙◌, arith, inl, inr}
use Rattle.std.specs.Prelude.{◌≢◌, ◌||◌, is_some, IsAscii, if◌then◌else◌}
use Rattle.std.specs.List.{list_all}
use Rattle.std.specs.Str.Parse.{digits_value}
use Rattle.std.proofs.lemmas.Bool.{and_parts, eqb-true, or_cases}
use Rattle.std.proofs.lemmas.Bool.Decides.{nat_tests}
use Rattle.bx_common.specs.Characters.{largest_text}
use Rattle.bx_common.specs.declared.base.Base.{Base}
use Rattle.bx_editor.specs.declared.questions.answers.Prompt.TheVariants.{Off, Code}
use Rattle.bx_editor.specs.questions.Answers.{digit_of}
use Rattle.bx_editor.specs.questions.KeyLetters.{answers_name, ascii_digit, code_letter, key_letter, letter_or}
use Rattle.bx_editor.specs.questions.Names.{coded, is_code, is_code_letter, is_scalar, asks_code, named}
use Rattle.bx_keys.specs.declared.key.Key.{Key}
use Rattle.bx_keys.specs.declared.key.Key.TheVariants as keys
use Rattle.bx_editor.specs.undo_groups.Groups.{after_insertion, kind_of}
use Rattle.bx_editor.specs.declared.undo_groups.typing.Typing.TheVariants as typings
use Rattle.bx_text.specs.Edits.{Edited}
use Rattle.bx_ucd.specs.Data.{Data}
use Rattle.bx_editor.specs.Before.{before}
use Rattle.bx_editor.specs.InputLines.{after_taking, line_at_end, line_lengthened, line_with}
use Rattle.bx_editor.specs.Asking.{after_answer_letter, after_code, after_code_letter, after_name_letter, answer_lengthened, asking, longest_code, with_answer, without_prompt}
use Rattle.bx_editor_laws.specs.AskingLaws.{CanAsk, CodePutsIn, IsPutIn, is_enter}
use Rattle.bx_editor.specs.Editor.{Editor, cleared, place_after, with_insertion, with_typing}
use Rattle.bx_editor.specs.Keys.{after_asking, after_key, as_left}
use Rattle.bx_editor.specs.Functions.{after_keys}
use Rattle.bx_editor.proofs.InSearch.{any-key}
use Rattle.bx_editor_laws.proofs.AskingKeys.{asked_name, name-is}
use Rattle.bx_editor_laws.proofs.LettersPut.{character-in, is-itself}
use Rattle.bx_editor_laws.proofs.LineEnd.{typed-at-end}
use Rattle.bx_editor_laws.proofs.QuestionAnswers.{asked-key}

-- ---- the digits

abbrev AreDigits : List ℕ → Type 0
AreDigits [] = Unit {0}
AreDigits (c ∷ cs) = (is_code_letter c ≡ true) × AreDigits cs

all-digits : (cs : List ℕ) → list_all is_code_letter cs ≡ true → AreDigits cs
all-digits [] h = tt
all-digits (c ∷ cs) h = let both = and_parts (is_code_letter c) (list_all is_code_letter cs) h in (both.0, all-digits cs both.1)

tested : (b : Bool) (x c : ℕ) → (if b then Some x else None) ≡ Some c → b ≡ true
tested true x c h = refl
tested false x c h = absurd (cc h)

code-digits : (code : List ℕ) (c : ℕ) → coded code ≡ Some c → AreDigits code
code-digits code c h =
    let test = tested (is_code code && is_scalar (digits_value 16 code)) (digits_value 16 code) c h in
    let both = and_parts (is_code code) (is_scalar (digits_value 16 code)) test in
    all-digits code ((and_parts (nat_lt 0 (length code)) (list_all is_code_letter code) both.0).1)

digit-low : (c : ℕ) → is_code_letter c ≡ true → c < 128
digit-low c h = grind (arith, nat_tests, h)

digits-ascii : (cs : List ℕ) → AreDigits cs → IsAscii cs
digits-ascii [] h i = omega arith
digits-ascii (c ∷ cs) h zero = digit-low c h.0
digits-ascii (c ∷ cs) h (suc i) = digits-ascii cs h.1 i

digits-append : (cs rest : List ℕ) → AreDigits cs → AreDigits rest → AreDigits (cs ++ rest)
digits-append [] rest h more = more
digits-append (c ∷ cs) rest h more = (h.0, digits-append cs rest h.1 more)

no-end-by : (c : ℕ) (b : Bool) → (c == 0xA) ≡ b → is_code_letter c ≡ true → b ≡ false
no-end-by c false e digit = refl
no-end-by c true e digit =
    let wrong : is_code_letter 0xA ≡ true = ap is_code_letter (sym (eqb-true c 0xA e)) ∙ digit in
    absurd (cc wrong)

longer : (d : Data) (answer : List ℕ) (c : ℕ) → AreDigits answer → is_code_letter c ≡ true → length answer < 6
    → line_lengthened d longest_code (line_at_end answer) c ≡ line_at_end (answer ++ c ∷ [])
longer d answer c all digit room =
    let less : nat_lt (length answer) 6 ≡ true = grind (arith, nat_tests, room) in
    typed-at-end d longest_code answer c (digits-ascii answer all) (digits-ascii (answer ++ c ∷ []) (digits-append answer (c ∷ []) all (digit, tt)))
    (digit-low c digit) less

-- ---- they are typed

-- a part of the code is typed, and nothing else has changed that a character put in depends on
record IsCoding (first e : Editor) (answer : List ℕ) : Type 0 where
  pub prompt : e.prompt ≡ Code
  pub typing : e.typing ≡ typings.Off
  pub answer_is : e.answer ≡ answer
  pub cursor_is : e.input_cursor ≡ length answer
  pub settled : e.pasted ≡ None
  pub content : e.content ≡ first.content
  pub place : e.place ≡ first.place
  pub base : e.base ≡ first.base
  pub width : e.width ≡ first.width

on-code : (e : Editor) → e.prompt ≡ Code → e.prompt ≢ Off
on-code e is none = let wrong : Code ≡ Off = sym is ∙ none in cc wrong

digit-itself : (c : ℕ) → is_code_letter c ≡ true → code_letter c ≡ c
digit-itself c digit = ap (λ b. if b then c else ascii_digit (letter_or is_code_letter c (key_letter c)) (digit_of c)) digit

type-on : (d : Data) (first e : Editor) (answer : List ℕ) (c : ℕ) → IsCoding first e answer → AreDigits answer → is_code_letter c ≡ true → length answer < 6
    → IsCoding first (after_key d None e (keys.Insert c)) (answer ++ c ∷ [])
type-on d first e answer c h all digit room =
    let was = cleared e in
    let ended = after_code d (without_prompt was) (coded e.answer) in
    let typed = answer_lengthened d longest_code was c in
    let is : after_key d None e (keys.Insert c) ≡ as_left (keys.Insert c) (with_answer was (line_at_end (answer ++ c ∷ []))) =
    asked-key d None e (keys.Insert c) h.settled (on-code e h.prompt) refl refl
    ∙ ap (λ p. as_left (keys.Insert c) (after_asking d None (before e) p was (keys.Insert c))) h.prompt
    ∙ ap₂ (λ t a. as_left (keys.Insert c) (after_taking d t c was (after_answer_letter d None a was c))) h.typing h.prompt
    ∙ ap (λ k. as_left (keys.Insert c) (after_code_letter d was k)) (digit-itself c digit)
    ∙ ap (λ b. as_left (keys.Insert c) (if b then ended else (if is_code_letter c then typed else was))) (no-end-by c (c == 0xA) refl digit)
    ∙ ap (λ b. as_left (keys.Insert c) (if b then typed else was)) digit
    ∙ ap₂ (λ a n. as_left (keys.Insert c) (with_answer was (line_lengthened d longest_code (line_with a n) c))) h.answer_is h.cursor_is
    ∙ ap (λ l. as_left (keys.Insert c) (with_answer was l)) (longer d answer c all digit room) in
    subst (λ (x : Editor). IsCoding first x (answer ++ c ∷ [])) (sym is)
    (record {
      prompt = h.prompt;
      typing = refl;
      answer_is = refl;
      cursor_is = refl;
      settled = h.settled;
      content = h.content;
      place = h.place;
      base = h.base;
      width = h.width;
    })

record Reaches (d : Data) (first e : Editor) (answer rest : List ℕ) (more : List Key) : Type 0 where
  pub there : Editor
  pub coding : IsCoding first there (answer ++ rest)
  pub keys : after_keys d None e (map keys.Insert rest ++ more) ≡ after_keys d None there more

all-typed : (d : Data) (first e : Editor) (answer rest : List ℕ) (more : List Key) → IsCoding first e answer → AreDigits answer → AreDigits rest
    → length answer + length rest ≤ 6 → Reaches d first e answer rest more
all-typed d first e answer [] more h all left room =
    record { there = e; coding = subst (IsCoding first e) (sym (append-nil answer)) h; keys = refl }
all-typed d first e answer (c ∷ rest) more h all left room =
    let next = all-typed d first (after_key d None e (keys.Insert c)) (answer ++ c ∷ []) rest more
    (type-on d first e answer c h all left.0 (omega (arith, room))) (digits-append answer (c ∷ []) all (left.0, tt)) left.1
    (omega (arith, room, length-append answer (c ∷ []))) in
    record { there = next.there; coding = subst (IsCoding first next.there) (append_assoc answer (c ∷ []) rest) next.coding; keys = next.keys }

-- ---- the end of a line

put-in-for : (d : Data) (first e new : Editor) (bytes : List ℕ) → e.content ≡ first.content → e.place ≡ first.place → e.base ≡ first.base → e.width ≡ first.width
    → IsPutIn d e bytes new → IsPutIn d first bytes new
put-in-for d first e new bytes content place base width h = record {
  text_is = h.text_is ∙ ap₂ (λ (t : Edited) p. take p t.text ++ bytes ++ drop p t.text) content place;
  place_is = h.place_is ∙ ap (λ (b : Base). place_after d (record e { base = b }) new.content.text (e.place + length bytes)) base
      ∙ ap₂ (λ w p. place_after d (record first { width = w }) new.content.text (p + length bytes)) width place;
  prompt_is = h.prompt_is;
}

ended : (d : Data) (first e : Editor) (code : List ℕ) (c : ℕ) (key : Key)
    → after_key d None e key ≡ as_left key (after_taking d e.typing 0xA (cleared e) (after_answer_letter d None e.prompt (cleared e) 0xA))
    → IsCoding first e code → coded code ≡ Some c → length first.content.text + length (encode_utf8 c) ≤ largest_text
    → IsPutIn d first (encode_utf8 c) (after_key d None e key)
ended d first e code c key is h read few =
    let free = without_prompt (cleared e) in
    let bytes = encode_utf8 c in
    let room : length e.content.text + length bytes ≤ largest_text = subst (λ (t : Edited). length t.text + length bytes ≤ largest_text) (sym h.content) few in
    let put = with_typing (with_insertion d free bytes false) (after_insertion (kind_of (d.class c))) in
    let whole : after_key d None e key ≡ as_left key put =
    is ∙ ap₂ (λ t a. as_left key (after_taking d t 0xA (cleared e) (after_answer_letter d None a (cleared e) 0xA))) h.typing h.prompt
    ∙ ap (λ a. as_left key (after_code d free (coded a))) h.answer_is ∙ ap (λ x. as_left key (after_code d free x)) read
    ∙ ap (as_left key) (character-in d free c room) in
    subst (IsPutIn d first bytes) (sym whole)
    (put-in-for d first free (as_left key put) bytes h.content h.place h.base h.width (record { text_is = refl; place_is = refl; prompt_is = refl }))

entered : (d : Data) (first e : Editor) (code : List ℕ) (c : ℕ) (enter : Key) → is_enter enter ≡ true → IsCoding first e code → coded code ≡ Some c
    → length first.content.text + length (encode_utf8 c) ≤ largest_text → IsPutIn d first (encode_utf8 c) (after_key d None e enter)
entered d first e code c (keys.Insert x) end h read few =
    ended d first e code c (keys.Insert x)
    (asked-key d None e (keys.Insert x) h.settled (on-code e h.prompt) refl refl
    ∙ ap (λ p. as_left (keys.Insert x) (after_asking d None (before e) p (cleared e) (keys.Insert x))) h.prompt
    ∙ ap (λ y. as_left (keys.Insert x) (after_taking d e.typing y (cleared e) (after_answer_letter d None e.prompt (cleared e) y))) (eqb-true x 0xA end))
    h read few
entered d first e code c keys.NewLine end h read few =
    ended d first e code c keys.NewLine
    (asked-key d None e keys.NewLine h.settled (on-code e h.prompt) refl refl
    ∙ ap (λ p. as_left keys.NewLine (after_asking d None (before e) p (cleared e) keys.NewLine)) h.prompt) h read few
entered d first e code c _ end h read few = absurd (cc end)

-- ---- the law

-- what a letter leaves that asks for a code
abbrev asked_code : Editor → ℕ → Editor
asked_code e letter = as_left (keys.Insert letter) (asking (cleared (asked_name e)) Code)

no-name : (letter : ℕ) → asks_code letter ≡ true → named letter ≡ None
no-name letter prompts = elim (or_cases (letter == 0x75) (letter == 0x2B) prompts) as (λ _. named letter ≡ None) [
  | inl u ↦ ap named (eqb-true letter 0x75 u)
  | inr plus ↦ ap named (eqb-true letter 0x2B plus)
]

begun : (d : Data) (e : Editor) (letter : ℕ) → CanAsk e → asks_code letter ≡ true
    → after_keys d None e (keys.Name ∷ keys.Insert letter ∷ []) ≡ asked_code e letter
begun d e letter can prompts =
    let was = cleared (asked_name e) in
    let none = no-name letter prompts in
    let answers : answers_name letter ≡ true = ap₂ (λ o b. is_some o || b) none prompts in
    ap (λ x. after_key d None x (keys.Insert letter)) (name-is d e can.settled can.undecided can.writes)
    ∙ any-key d None (asked_name e) (keys.Insert letter) can.settled refl
    ∙ ap (λ n. as_left (keys.Insert letter) (after_name_letter d was n (named n))) (is-itself letter answers)
    ∙ ap (λ n. as_left (keys.Insert letter) (after_name_letter d was letter n)) none
    ∙ ap (λ b. as_left (keys.Insert letter) (if b then asking was Code else (if letter == 0xA then without_prompt was else was))) prompts

pub code-puts-in : CodePutsIn
code-puts-in d e letter code c enter can prompts read short end few =
    let first : IsCoding e (asked_code e letter) [] =
    record { prompt = refl; typing = refl; answer_is = refl; cursor_is = refl; settled = can.settled; content = refl; place = refl; base = refl; width = refl } in
    let all = all-typed d e (asked_code e letter) [] code (enter ∷ []) first tt (code-digits code c read) (omega (arith, short)) in
    subst (IsPutIn d e (encode_utf8 c)) (sym (ap (λ x. after_keys d None x (map keys.Insert code ++ enter ∷ [])) (begun d e letter can prompts) ∙ all.keys))
    (entered d e all.there code c enter end all.coding read few)
