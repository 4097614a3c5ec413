-- What an answer to a question leaves: the question, or none.
use Rattle.std.proofs.Common.{◌≡◌, ℕ, Bool, true, false, length, refl, sym, ap, subst, ◌∙◌, inl, inr, ⊎_elim, if◌then◌else◌}
use Rattle.std.specs.Prelude.{◌≢◌, ◌⊎◌, ◌||◌, ◌&&◌, ◌==◌, chars, encode_utf8, Option, Some, None}
use Rattle.bx_editor.specs.declared.questions.answers.Prompt.{Prompt}
use Rattle.bx_editor.specs.declared.questions.answers.Prompt.TheVariants.{Off, Line, Name, Code, File, Overwrite}
use Rattle.bx_editor.specs.questions.Answers.{asked, is_line_letter}
use Rattle.bx_editor.specs.questions.KeyLetters.{code_letter, name_letter}
use Rattle.bx_editor.specs.questions.Names.{coded, is_code_letter, asks_code, closing, named}
use Rattle.bx_editor.specs.declared.questions.line.Target.{Target}
use Rattle.bx_keys.specs.declared.key.Key.{Key}
use Rattle.bx_keys.specs.declared.key.Key.TheVariants as keys
use Rattle.bx_store.specs.declared.store.StoreFault.{StoreFault}
use Rattle.bx_editor.specs.declared.undo_groups.typing.Typing.{Typing}
use Rattle.bx_editor.specs.undo_groups.Groups.{after_insertion, kind_of}
use Rattle.bx_text.specs.Edits.{fits, fits_both}
use Rattle.bx_ucd.specs.Data.{Data}
use Rattle.bx_editor.specs.declared.answer.Answer.TheVariants.{Letter, Erases}
use Rattle.bx_editor.specs.declared.input_line.Erasure.{Erasure}
use Rattle.bx_editor.specs.declared.input_line.Erasure.TheVariants.{LastCharacter, Unit}
use Rattle.bx_editor.specs.declared.message.Message.TheVariants as messages
use Rattle.bx_editor.specs.declared.search_state.SearchState.{SearchState}
use Rattle.bx_editor.specs.Answering.{answer_of, without_line}
use Rattle.bx_editor.specs.Asking.{after_answer_letter, after_code, after_code_letter, after_erasing_answer, after_file_letter, after_going, after_line_letter}
use Rattle.bx_editor.specs.Asking.{after_name_key, after_name_letter, after_named, answer_lengthened, answer_line, asking, gone_to, is_code_prompt, is_of_last}
use Rattle.bx_editor.specs.Asking.{longest_code, longest_line, with_answer, with_character, without_prompt, after_wrapping, spans_lines, with_wrap}
use Rattle.bx_editor_laws.specs.AskingLaws.{erases, types}
use Rattle.bx_editor.specs.Editor.{Editor, cleared, with_insertion, with_typing}
use Rattle.bx_editor.specs.Before.{Before, before}
use Rattle.bx_editor.specs.InputLines.{after_taking, erases_nothing, is_no_letter, is_taken, line_shortened, paste_behind, with_paste_behind}
use Rattle.bx_editor.specs.Keys.{after_any, after_asking, after_key, answered_name, answered_question}
use Rattle.bx_editor.specs.Keys.{as_left, refuses_replacing}
use Rattle.bx_editor.specs.Functions.{is_told_key}
use Rattle.bx_editor.specs.Putting.{is_paste}
use Rattle.bx_editor.specs.Region.{is_empty, region, aged}
use Rattle.bx_editor.specs.Saving.{after_naming, after_save, is_changed, longest_name, takes_name, with_answered_name, without_answer}
use Rattle.bx_editor_laws.proofs.KeyEnds.{behind, user-key}

-- ---- a question takes the keys

pub asked-any : (d : Data) (fault : Option StoreFault) (was : Before) (prompt : Prompt) (search_state : SearchState) (e : Editor) (key : Key) → prompt ≢ Off
    → after_any d fault was prompt search_state e key ≡ after_asking d fault was prompt e key
asked-any d fault was Off search_state e key on = absurd (on refl)
asked-any d fault was Line search_state e key on = refl
asked-any d fault was Name search_state e key on = refl
asked-any d fault was Code search_state e key on = refl
asked-any d fault was File search_state e key on = refl
asked-any d fault was Overwrite search_state e key on = refl

-- ---- no question is on behind what an answer puts in

pub either-off : (b : Bool) (p q : Editor) → p.prompt ≡ Off → q.prompt ≡ Off → (if b then p else q).prompt ≡ Off
either-off true p q h k = h
either-off false p q h k = k

character-off : (d : Data) (e : Editor) (c : ℕ) → e.prompt ≡ Off → (with_character d e c).prompt ≡ Off
character-off d e c h =
    either-off (fits e.content.text e.place e.place (encode_utf8 c))
    (with_typing (with_insertion d e (encode_utf8 c) false) (after_insertion (kind_of (d.class c))))
    (record e { message = Some messages.TextFull }) h h

wrapping-off : (d : Data) (e : Editor) (opener closer : ℕ) → e.prompt ≡ Off → (after_wrapping d e opener closer).prompt ≡ Off
wrapping-off d e opener closer h =
    let wrap = with_wrap d e (encode_utf8 opener) (encode_utf8 closer) in
    let full : Editor = record e { message = Some messages.TextFull } in
    let room = fits_both e.content.text (encode_utf8 opener) (encode_utf8 closer) in
    either-off (spans_lines d e) (record e { message = Some messages.MoreThanOneLine }) (if room then wrap else full) h
    (either-off room wrap full h h)

pub named-off : (d : Data) (e : Editor) (c : ℕ) (closer : Option ℕ) → e.prompt ≡ Off → (after_named d e c closer).prompt ≡ Off
named-off d e c None h = character-off d e c h
named-off d e c (Some closer) h =
    either-off (is_empty (region e)) (with_character d e c) (after_wrapping d e c closer) (character-off d e c h) (wrapping-off d e c closer h)

pub code-off : (d : Data) (e : Editor) (c : Option ℕ) → e.prompt ≡ Off → (after_code d e c).prompt ≡ Off
code-off d e None h = h
code-off d e (Some c) h = character-off d e c h

-- ---- a letter and an erasure that leave the question on

-- question, answer and what goes on alone differ
abbrev pub IsKept : Editor → Editor → Type 0
IsKept e new = new ≡ record e { prompt = new.prompt; answer = new.answer; input_cursor = new.input_cursor; typing = new.typing }

-- if a question is on, and not the one whether to overwrite, they alone differ
abbrev pub IsKeptIfOn : Editor → Editor → Type 0
IsKeptIfOn e new = new.prompt ≢ Off → new.prompt ≢ Overwrite → IsKept e new

either-on : (e : Editor) (b : Bool) (p q : Editor) → IsKeptIfOn e p → IsKeptIfOn e q → IsKeptIfOn e (if b then p else q)
either-on e true p q h k = h
either-on e false p q h k = k

typed-on : (e new : Editor) (typing : Typing) → IsKeptIfOn e new → IsKeptIfOn e (with_typing new typing)
typed-on e new typing h on over = ap (λ x. with_typing x typing) (h on over)

pub going-off : (d : Data) (e : Editor) (target : Option Target) → e.prompt ≡ Off → (gone_to d e target).prompt ≡ Off
going-off d e None h = h
going-off d e (Some target) h = h

off-on : (e new : Editor) → new.prompt ≡ Off → IsKeptIfOn e new
off-on e new off on over = absurd (on off)

line-on : (d : Data) (e : Editor) (c : ℕ) → IsKeptIfOn e (after_line_letter d e c)
line-on d e c =
    let more = answer_lengthened d longest_line e c in
    either-on e (c == 0xA) (after_going d e) (if is_line_letter c then more else e)
    (off-on e (after_going d e) (going-off d (without_prompt e) (asked (chars e.answer)) refl))
    (either-on e (is_line_letter c) more e (λ on over. refl) (λ on over. refl))

name-on : (d : Data) (e : Editor) (letter : ℕ) (c : Option ℕ) → IsKeptIfOn e (after_name_letter d e letter c)
name-on d e letter None =
    let ended = if letter == 0xA then without_prompt e else e in
    either-on e (asks_code letter) (asking e Code) ended (λ on over. refl)
    (either-on e (letter == 0xA) (without_prompt e) e (off-on e (without_prompt e) refl) (λ on over. refl))
name-on d e letter (Some c) = off-on e (after_named d (without_prompt e) c (closing letter)) (named-off d (without_prompt e) c (closing letter) refl)

code-on : (d : Data) (e : Editor) (letter : ℕ) → IsKeptIfOn e (after_code_letter d e letter)
code-on d e letter =
    let put = after_code d (without_prompt e) (coded e.answer) in
    let more = answer_lengthened d longest_code e letter in
    either-on e (letter == 0xA) put (if is_code_letter letter then more else e)
    (off-on e put (code-off d (without_prompt e) (coded e.answer) refl))
    (either-on e (is_code_letter letter) more e (λ on over. refl) (λ on over. refl))

-- a save leaves no question, or the one whether to overwrite
abbrev IsOut : Editor → Type 0
IsOut e = (e.prompt ≡ Off) ⊎ (e.prompt ≡ Overwrite)

either-out : (b : Bool) (p q : Editor) → IsOut p → IsOut q → IsOut (if b then p else q)
either-out true p q h k = h
either-out false p q h k = k

save-out : (e : Editor) (fault : Option StoreFault) → e.prompt ≡ Off → IsOut (after_save e fault)
save-out e None off = inl off
save-out e (Some fault) off = either-out (is_changed fault.cause) (record e { prompt = Overwrite }) e (inr refl) (inl off)

naming-out : (fault : Option StoreFault) (e : Editor) → e.prompt ≡ Off → IsOut (after_naming fault e)
naming-out fault e off =
    let b = takes_name e fault in
    let named = if b then with_answered_name e else without_answer e in
    either-out (length e.answer == 0) e (after_save named fault) (inl off)
    (save-out named fault (either-off b (with_answered_name e) (without_answer e) off off))

out-on : (e new : Editor) → IsOut new → IsKeptIfOn e new
out-on e new out on over = absurd (⊎_elim on over out)

file-on : (d : Data) (fault : Option StoreFault) (e : Editor) (c : ℕ) → IsKeptIfOn e (after_file_letter d fault e c)
file-on d fault e c =
    let more = answer_lengthened d longest_name e c in
    either-on e (c == 0xA) (after_naming fault (without_prompt e)) (if is_no_letter d c then e else more)
    (out-on e (after_naming fault (without_prompt e)) (naming-out fault (without_prompt e) refl))
    (either-on e (is_no_letter d c) e more (λ on over. refl) (λ on over. refl))

letter-on : (d : Data) (fault : Option StoreFault) (prompt : Prompt) (e : Editor) (c : ℕ) → IsKeptIfOn e (after_answer_letter d fault prompt e c)
letter-on d fault Off e c = λ on over. refl
letter-on d fault Line e c = line-on d e c
letter-on d fault Name e c = λ on over. refl
letter-on d fault Code e c = code-on d e (code_letter c)
letter-on d fault File e c = file-on d fault e c
letter-on d fault Overwrite e c = λ on over. refl

pasted-on : (e new : Editor) (typing : Option Typing) → IsKeptIfOn e new → IsKeptIfOn e (with_paste_behind typing new)
pasted-on e new None h = h
pasted-on e new (Some typing) h = typed-on e new typing h

taking-on : (d : Data) (typing : Typing) (c : ℕ) (e new : Editor) → IsKeptIfOn e new → IsKeptIfOn e (after_taking d typing c e new)
taking-on d typing c e new h =
    pasted-on e (if is_taken d typing c then new else e) (paste_behind d typing c) (either-on e (is_taken d typing c) new e h (λ on over. refl))

-- a character that answers, in any question but that whether to overwrite
answer-on : (d : Data) (fault : Option StoreFault) (was : Before) (prompt : Prompt) (e : Editor) (key : Key) (c : ℕ) → answer_of key ≡ Letter c → prompt ≢ Overwrite
    → IsKeptIfOn e (after_asking d fault was prompt e key)
answer-on d fault was Off e key c is other =
    subst (λ a. IsKeptIfOn e (answered_question d fault was e key a)) (sym is)
    (taking-on d was.typing c e (after_answer_letter d fault e.prompt e c) (letter-on d fault e.prompt e c))
answer-on d fault was Line e key c is other =
    subst (λ a. IsKeptIfOn e (answered_question d fault was e key a)) (sym is)
    (taking-on d was.typing c e (after_answer_letter d fault e.prompt e c) (letter-on d fault e.prompt e c))
answer-on d fault was Name e key c is other =
    subst (λ a. IsKeptIfOn e (answered_name d fault was e key (without_line a))) (sym is)
    (either-on e (is_paste was.typing) (with_typing e was.typing) (after_name_key d e c) (λ on over. refl) (name-on d e (name_letter c) (named (name_letter c))))
answer-on d fault was Code e key c is other =
    subst (λ a. IsKeptIfOn e (answered_question d fault was e key a)) (sym is)
    (taking-on d was.typing c e (after_answer_letter d fault e.prompt e c) (letter-on d fault e.prompt e c))
answer-on d fault was File e key c is other =
    subst (λ a. IsKeptIfOn e (answered_question d fault was e key a)) (sym is)
    (taking-on d was.typing c e (after_answer_letter d fault e.prompt e c) (letter-on d fault e.prompt e c))
answer-on d fault was Overwrite e key c is other = absurd (other refl)

either-kept : (e : Editor) (b : Bool) (p q : Editor) → IsKept e p → IsKept e q → IsKept e (if b then p else q)
either-kept e true p q h k = h
either-kept e false p q h k = k

pub shorter-on : (d : Data) (prompt : Prompt) (e : Editor) (how : Erasure) → IsKept e (after_erasing_answer d prompt e how)
shorter-on d prompt e how =
    let naming : Editor = record e { prompt = Name } in
    let shorter = with_answer e (line_shortened d how (answer_line e)) in
    either-kept e (is_code_prompt prompt && is_of_last how && (length e.answer == 0)) naming (if erases_nothing d how (answer_line e) then e else shorter) refl
    (either-kept e (erases_nothing d how (answer_line e)) e shorter refl refl)

-- an erasure that is one without an input line too
erase-on : (d : Data) (fault : Option StoreFault) (was : Before) (prompt : Prompt) (e : Editor) (key : Key) (how : Erasure) → answer_of key ≡ Erases how
    → without_line (Erases how) ≡ Erases how → prompt ≢ Overwrite → IsKeptIfOn e (after_asking d fault was prompt e key)
erase-on d fault was Off e key how is still other =
    subst (λ a. IsKeptIfOn e (answered_question d fault was e key a)) (sym is) (λ on over. shorter-on d e.prompt e how)
erase-on d fault was Line e key how is still other =
    subst (λ a. IsKeptIfOn e (answered_question d fault was e key a)) (sym is) (λ on over. shorter-on d e.prompt e how)
erase-on d fault was Name e key how is still other =
    subst (λ a. IsKeptIfOn e (answered_name d fault was e key a)) (sym (ap without_line is ∙ still)) (λ on over. refl)
erase-on d fault was Code e key how is still other =
    subst (λ a. IsKeptIfOn e (answered_question d fault was e key a)) (sym is) (λ on over. shorter-on d e.prompt e how)
erase-on d fault was File e key how is still other =
    subst (λ a. IsKeptIfOn e (answered_question d fault was e key a)) (sym is) (λ on over. shorter-on d e.prompt e how)
erase-on d fault was Overwrite e key how is still other = absurd (other refl)

-- ---- any answer

abbrev IsAlone : Editor → Editor → Type 0
IsAlone e new = new ≡ record e {
  prompt = new.prompt;
  answer = new.answer;
  input_cursor = new.input_cursor;
  message = None;
  quit_before = false;
  typing = new.typing;
  goal = None;
  soft = aged e.soft;
  clicks = None;
  pressed = None;
}

-- the answered key, while a question is on
pub asked-key : (d : Data) (fault : Option StoreFault) (e : Editor) (key : Key) → e.pasted ≡ None → e.prompt ≢ Off → is_told_key key ≡ false
    → refuses_replacing e key ≡ false → after_key d fault e key ≡ as_left key (after_asking d fault (before e) e.prompt (cleared e) key)
asked-key d fault e key settled on told accepted =
    user-key d fault e key settled told accepted ∙ ap (as_left key) (asked-any d fault (before e) e.prompt e.search_state (cleared e) key on)

-- a key that types or erases, whose new state is known
alone : (d : Data) (fault : Option StoreFault) (e : Editor) (key : Key) (new : Editor) → ((x : Editor) → as_left key x ≡ behind x)
    → after_key d fault e key ≡ as_left key new → IsKeptIfOn (cleared e) new → (after_key d fault e key).prompt ≢ Off → (after_key d fault e key).prompt ≢ Overwrite
    → IsAlone e (after_key d fault e key)
alone d fault e key new alike is kept on over =
    let same : (after_key d fault e key).prompt ≡ new.prompt = ap (λ (x : Editor). x.prompt) is in
    subst (IsAlone e) (sym (is ∙ alike new)) (ap behind (kept (λ off. on (same ∙ off)) (λ it. over (same ∙ it))))

pub answer-alone : (d : Data) (fault : Option StoreFault) (e : Editor) (key : Key) → e.pasted ≡ None → e.prompt ≢ Off → e.prompt ≢ Overwrite
    → (types key || erases key) ≡ true → (after_key d fault e key).prompt ≢ Off → (after_key d fault e key).prompt ≢ Overwrite
    → IsAlone e (after_key d fault e key)
answer-alone d fault e (keys.Insert c) settled on other h =
    alone d fault e (keys.Insert c) (after_asking d fault (before e) e.prompt (cleared e) (keys.Insert c)) (λ x. refl)
    (asked-key d fault e (keys.Insert c) settled on refl refl) (answer-on d fault (before e) e.prompt (cleared e) (keys.Insert c) c refl other)
answer-alone d fault e keys.NewLine settled on other h =
    alone d fault e keys.NewLine (after_asking d fault (before e) e.prompt (cleared e) keys.NewLine) (λ x. refl)
    (asked-key d fault e keys.NewLine settled on refl refl) (answer-on d fault (before e) e.prompt (cleared e) keys.NewLine 0xA refl other)
answer-alone d fault e keys.Erase settled on other h =
    alone d fault e keys.Erase (after_asking d fault (before e) e.prompt (cleared e) keys.Erase) (λ x. refl)
    (asked-key d fault e keys.Erase settled on refl refl) (erase-on d fault (before e) e.prompt (cleared e) keys.Erase LastCharacter refl refl other)
answer-alone d fault e keys.ErasePoint settled on other h =
    alone d fault e keys.ErasePoint (after_asking d fault (before e) e.prompt (cleared e) keys.ErasePoint) (λ x. refl)
    (asked-key d fault e keys.ErasePoint settled on refl refl) (erase-on d fault (before e) e.prompt (cleared e) keys.ErasePoint LastCharacter refl refl other)
answer-alone d fault e keys.Delete settled on other h =
    alone d fault e keys.Delete (after_asking d fault (before e) e.prompt (cleared e) keys.Delete) (λ x. refl)
    (asked-key d fault e keys.Delete settled on refl refl) (erase-on d fault (before e) e.prompt (cleared e) keys.Delete Unit refl refl other)
answer-alone d fault e _ settled on other h = absurd (cc h)
