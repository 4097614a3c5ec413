-- What characters that are typed in an input line leave as it is, and in what order they are typed.
use Rattle.std.proofs.Common.{◌≡◌, ◌∙◌, ◌+◌, ◌&&◌, ℕ, Bool, true, false, not, List, [], ◌∷◌, length, Option, Some, None, if◌then◌else◌, refl, ap, sym, subst, arith, inl, inr}
use Rattle.std.specs.Prelude.{◌==◌, fold}
use Rattle.std.specs.List.{list_all}
use Rattle.std.proofs.lemmas.Bool.{and_parts}
use Rattle.std.proofs.lemmas.Bool.Decides.{eqb_tells}
use Rattle.bx_ucd.specs.Data.{Data}
use Rattle.bx_editor.specs.declared.message.Message.TheVariants.{NothingToPut}
use Rattle.bx_editor.specs.declared.questions.answers.Prompt.{Prompt}
use Rattle.bx_editor.specs.declared.questions.answers.Prompt.TheVariants as prompts
use Rattle.bx_editor.specs.declared.search_state.SearchState.{SearchState}
use Rattle.bx_editor.specs.declared.search_state.SearchState.TheVariants.{Off, Begun, Typed, WithBegun, WithTyped, Replacing}
use Rattle.bx_editor.specs.Asking.{after_answer_letter, after_code, after_going, answer_lengthened, longest_code, longest_line, without_prompt}
use Rattle.bx_editor.specs.Editor.{Editor, cleared, with_place}
use Rattle.bx_editor.specs.InputLines.{first_line, is_at_end, is_no_letter, line_lengthened}
use Rattle.bx_editor.specs.LinePuts.{after_line_put, is_in_line, typed_alone, typed_in, typed_in_search, typed_one_by_one, with_typed_of}
use Rattle.bx_editor.specs.Replacing.{replacement_line, with_replacement}
use Rattle.bx_editor.specs.Saving.{after_naming, longest_name}
use Rattle.bx_editor.specs.Search.{kept, longest_query, query_line, search_from, search_on, with_query}
use Rattle.bx_editor.specs.questions.Answers.{digit_of, is_line_letter}
use Rattle.bx_editor.specs.questions.KeyLetters.{ascii_digit, code_letter, key_letter, letter_or}
use Rattle.bx_editor.specs.questions.Names.{coded, is_code_letter}

-- ---- a digit of a code is no line end

in-line-letter : (letter : ℕ) → is_code_letter letter ≡ true → is_in_line letter ≡ true
in-line-letter letter h = elim (eqb_tells letter 0xA) as (λ _. is_in_line letter ≡ true) [
  | inl same ↦ let never : false ≡ true = subst (λ x. is_code_letter x ≡ true) same.1 h in absurd (cc never)
  | inr other ↦ ap not other.0
]

letter-by : (c letter : ℕ) (b : Bool) → is_code_letter letter ≡ b → is_in_line c ≡ true → is_in_line (if b then letter else c) ≡ true
letter-by c letter true is h = in-line-letter letter is
letter-by c letter false is h = h

letter-kept : (c : ℕ) (letter : Option ℕ) → is_in_line c ≡ true → is_in_line (letter_or is_code_letter c letter) ≡ true
letter-kept c None h = h
letter-kept c (Some letter) h = letter-by c letter (is_code_letter letter) refl h

digit-kept : (c : ℕ) (digit : Option ℕ) → is_in_line c ≡ true → is_in_line (ascii_digit c digit) ≡ true
digit-kept c None h = h
digit-kept c (Some digit) h = elim (eqb_tells (0x30 + digit) 0xA) as (λ _. is_in_line (0x30 + digit) ≡ true) [
  | inl same ↦ absurd (omega (arith, same.1))
  | inr other ↦ ap not other.0
]

either-in-line : (b : Bool) (c other : ℕ) → is_in_line c ≡ true → is_in_line other ≡ true → is_in_line (if b then c else other) ≡ true
either-in-line true c other h k = h
either-in-line false c other h k = k

pub code-letter-kept : (c : ℕ) → is_in_line c ≡ true → is_in_line (code_letter c) ≡ true
code-letter-kept c h =
    let other = letter_or is_code_letter c (key_letter c) in
    either-in-line (is_code_letter c) c (ascii_digit other (digit_of c)) h
    (digit-kept other (digit_of c) (letter-kept c (key_letter c) h))

-- ---- one character

-- but for what is typed all is as before
abbrev pub Leaves : Editor → Editor → Type 0
Leaves was e = with_typed_of was e ≡ was

either : (was : Editor) (b : Bool) (p q : Editor) → Leaves was p → Leaves was q → Leaves was (if b then p else q)
either was true p q h k = h
either was false p q h k = k

-- a character is no line end
other-by : (was : Editor) (b : Bool) (p q : Editor) → not b ≡ true → Leaves was q → Leaves was (if b then p else q)
other-by was true p q h k = absurd (cc h)
other-by was false p q h k = k

letter : (d : Data) (was e : Editor) (c : ℕ) → Leaves was e → Leaves was (typed_in_search d Begun e c)
letter d was e c h =
    let l = kept e.search_state (query_line e) in
    let typed = with_query e (line_lengthened d longest_query l c) in
    either was (is_no_letter d c) e (search_on d (is_at_end l) typed) h
    (either was (is_at_end l) (search_from d typed.place typed) (search_from d typed.origin (with_place typed typed.origin)) h h)

replacement : (d : Data) (was e : Editor) (c : ℕ) → Leaves was e → Leaves was (typed_in_search d WithBegun e c)
replacement d was e c h =
    either was (is_no_letter d c) e (with_replacement e (line_lengthened d longest_query (kept e.search_state (replacement_line e)) c)) h h

in-search : (d : Data) (was : Editor) (search_state : SearchState) (e : Editor) (c : ℕ) → Leaves was e
    → Leaves was (typed_in_search d search_state e c)
in-search d was Off e c h = h
in-search d was Begun e c h = letter d was e c h
in-search d was Typed e c h = letter d was e c h
in-search d was WithBegun e c h = replacement d was e c h
in-search d was WithTyped e c h = replacement d was e c h
in-search d was Replacing e c h = h

line-letter : (d : Data) (was e : Editor) (c : ℕ) → is_in_line c ≡ true → Leaves was e → Leaves was (after_answer_letter d None prompts.Line e c)
line-letter d was e c inside h =
    let more = answer_lengthened d longest_line e c in
    other-by was (c == 0xA) (after_going d e) (if is_line_letter c then more else e) inside (either was (is_line_letter c) more e h h)

code-letter : (d : Data) (was e : Editor) (c : ℕ) → is_in_line c ≡ true → Leaves was e → Leaves was (after_answer_letter d None prompts.Code e c)
code-letter d was e c inside h =
    let digit = code_letter c in
    let more = answer_lengthened d longest_code e digit in
    other-by was (digit == 0xA) (after_code d (without_prompt e) (coded e.answer)) (if is_code_letter digit then more else e)
    (code-letter-kept c inside) (either was (is_code_letter digit) more e h h)

file-letter : (d : Data) (was e : Editor) (c : ℕ) → is_in_line c ≡ true → Leaves was e → Leaves was (after_answer_letter d None prompts.File e c)
file-letter d was e c inside h =
    let more = answer_lengthened d longest_name e c in
    other-by was (c == 0xA) (after_naming None (without_prompt e)) (if is_no_letter d c then e else more) inside
    (either was (is_no_letter d c) e more h h)

in-line : (d : Data) (was : Editor) (prompt : Prompt) (search_state : SearchState) (e : Editor) (c : ℕ) → is_in_line c ≡ true → Leaves was e
    → Leaves was (typed_in d prompt search_state e c)
in-line d was prompts.Off search_state e c inside h = in-search d was search_state e c h
in-line d was prompts.Line search_state e c inside h = line-letter d was e c inside h
in-line d was prompts.Name search_state e c inside h = h
in-line d was prompts.Code search_state e c inside h = code-letter d was e c inside h
in-line d was prompts.File search_state e c inside h = file-letter d was e c inside h
in-line d was prompts.Overwrite search_state e c inside h = h

pub alone-leaves : (d : Data) (was e : Editor) (c : ℕ) → is_in_line c ≡ true → Leaves was e → Leaves was (typed_alone d e c)
alone-leaves d was e c inside h = in-line d was e.prompt e.search_state (cleared e) c inside h

-- ---- all of them

pub first-of : (c : ℕ) (cs : List ℕ) → list_all is_in_line (c ∷ cs) ≡ true → is_in_line c ≡ true
first-of c cs h = (and_parts (is_in_line c) (list_all is_in_line cs) h).0

pub others-of : (c : ℕ) (cs : List ℕ) → list_all is_in_line (c ∷ cs) ≡ true → list_all is_in_line cs ≡ true
others-of c cs h = (and_parts (is_in_line c) (list_all is_in_line cs) h).1

-- what is put in is typed, if there is anything
put-by : (d : Data) (e : Editor) (cs : List ℕ) → (cs ≡ [] → ⊥) → typed_one_by_one d (cleared e) cs ≡ fold (typed_alone d) e cs
put-by d e [] some = absurd (some refl)
put-by d e (c ∷ cs) some = refl

pub put-is : (d : Data) (e : Editor) (cs : List ℕ) → cs ≡ first_line d e.held → (cs ≡ [] → ⊥)
    → fold (typed_alone d) e cs ≡ after_line_put d (cleared e)
put-is d e cs is some = sym (put-by d e cs some) ∙ ap (typed_one_by_one d (cleared e)) is

pub nothing-put : (d : Data) (e : Editor) → first_line d e.held ≡ [] → after_line_put d (cleared e) ≡ (record (cleared e) { message = Some NothingToPut })
nothing-put d e none = ap (typed_one_by_one d (cleared e)) none
