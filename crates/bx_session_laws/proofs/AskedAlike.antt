-- A key in a question does the same to two editors of which the same lasts.
use Rattle.std.proofs.Common.{◌≡◌, ℕ, Bool, true, false, List, [], ◌∷◌, ◌+◌, length, Option, Some, None, refl, sym, ap₂, inl, inr, if◌then◌else◌}
use Rattle.std.specs.Prelude.{◌==◌, ◌⊎◌, ◌&&◌, ◌||◌, not, chars, encode_utf8}
use Rattle.bx_keys.specs.declared.key.Key.{Key}
use Rattle.bx_store.specs.declared.store.StoreFault.{StoreFault}
use Rattle.bx_text.specs.Edits.{fits, fits_both, splice}
use Rattle.bx_ucd.specs.Data.{Data}
use Rattle.bx_view.specs.declared.moves.Vertical.{Vertical}
use Rattle.bx_editor.specs.declared.answer.Answer.{Answer}
use Rattle.bx_editor.specs.declared.answer.Answer.TheVariants.{Letter, Erases, Moves, PutsIn, Passes, GoesBack, Next, Previous, Replaces, Scrolls, Stays, Ends}
use Rattle.bx_editor.specs.declared.input_line.Erasure.{Erasure}
use Rattle.bx_editor.specs.declared.questions.line.Target.{Target}
use Rattle.bx_editor.specs.declared.questions.answers.Prompt.{Prompt}
use Rattle.bx_editor.specs.declared.questions.answers.Prompt.TheVariants as prompts
use Rattle.bx_editor.specs.questions.KeyLetters.{code_letter, name_letter}
use Rattle.bx_editor.specs.questions.Names.{coded, is_code_letter, asks_code, closing, named}
use Rattle.bx_editor.specs.questions.Answers.{asked, is_line_letter}
use Rattle.bx_editor.specs.declared.undo_groups.typing.Typing.{Typing}
use Rattle.bx_editor.specs.undo_groups.Groups.{after_insertion, kind_of}
use Rattle.bx_editor.specs.declared.message.Message.TheVariants.{TextFull, MoreThanOneLine, ViewOnly}
use Rattle.bx_editor.specs.Asking.{after_answer_letter, after_code, after_code_letter, after_erasing_answer, after_file_letter, after_going, after_line_letter}
use Rattle.bx_editor.specs.Asking.{after_name_key, after_name_letter, after_named, after_wrapping, answer_lengthened, answer_line, asking, gone_to, is_code_prompt}
use Rattle.bx_editor.specs.Asking.{is_of_last, longest_code, longest_line, spans_lines, with_answer, with_character, with_wrap, without_prompt}
use Rattle.bx_editor.specs.Before.{Before}
use Rattle.bx_editor.specs.Editor.{Editor, place_after, with_insertion, with_typing}
use Rattle.bx_editor.specs.InputLines.{after_taking, erases_nothing, is_no_letter, is_taken, line_shortened, paste_behind, with_paste_behind}
use Rattle.bx_editor.specs.Keys.{after_pressing, answered_name, answered_overwrite, answered_question}
use Rattle.bx_editor.specs.LinePuts.{after_line_put}
use Rattle.bx_editor.specs.Putting.{is_paste}
use Rattle.bx_editor.specs.Region.{is_empty, region}
use Rattle.bx_editor.specs.RowMoves.{after_wheel}
use Rattle.bx_editor.specs.Saving.{after_confirming, after_deciding, after_save, after_saving_under, asking_name, can_save, confirms, is_nameless, longest_name}
use Rattle.bx_editor.proofs.TwoEdits.{runs-of-two, stored-of-two}
use Rattle.bx_session_laws.proofs.Lasting.{Presses, lasting, having, scrolls}
use Rattle.bx_session_laws.proofs.Alike.{Alike, either_alike, idle, going_on, insertion_alike}
use Rattle.bx_session_laws.proofs.PressedAlike.{naming_alike, pressed_alike, wheel_alike, with_same_top}
use Rattle.bx_session_laws.proofs.Alike.{Edits, work}

-- nothing is asked any more
unasked_alike : (e new f new' : Editor) → Alike (without_prompt e) new (without_prompt f) new' → Alike e new f new'
unasked_alike e new f new' h = record { lasts = h.lasts; deeds = h.deeds; first = h.first; other = h.other }

-- ---- what is typed or pasted in an input line

given_alike : (b : Bool) (e p q f p' q' : Editor) → (b ≡ true → Alike e p f p') → Alike e q f q' → Alike e (if b then p else q) f (if b then p' else q')
given_alike true e p q f p' q' h k = h refl
given_alike false e p q f p' q' h k = k

behind_alike : (typing : Option Typing) (e new f new' : Editor) → Alike e new f new' → Alike e (with_paste_behind typing new) f (with_paste_behind typing new')
behind_alike None e new f new' h = h
behind_alike (Some typing) e new f new' h = going_on typing e new f new' h

pub taking_alike : (d : Data) (typing : Typing) (c : ℕ) (e new f new' : Editor) → lasting e ≡ lasting f → (is_taken d typing c ≡ true → Alike e new f new')
    → Alike e (after_taking d typing c e new) f (after_taking d typing c f new')
taking_alike d typing c e new f new' same h =
    let taken = is_taken d typing c in
    behind_alike (paste_behind d typing c) e (if taken then new else e) f (if taken then new' else f)
    (given_alike taken e new e f new' f h (idle e e f f same refl refl))

-- the wheel, in pictures with the same row first
pub scrolled_alike : (d : Data) (was was' : Before) (e f : Editor) (way : Vertical) → (scrolls (Scrolls way) ≡ false) ⊎ (f.top ≡ e.top)
    → Alike e (after_wheel d was e way) (having (lasting e) f) (after_wheel d was' (having (lasting e) f) way)
scrolled_alike d was was' e f way (inl none) = absurd (cc none)
scrolled_alike d was was' e f way (inr same) = with_same_top e (after_wheel d was e way) f (λ x. after_wheel d was' x way) same (wheel_alike d was was' e f way)

-- ---- a line

going_alike : (d : Data) (e f : Editor) (target : Option Target)
    → Alike e (gone_to d e target) (having (lasting e) f) (gone_to d (having (lasting e) f) target)
going_alike d e f None = record { lasts = refl; deeds = []; first = refl; other = refl }
going_alike d e f (Some target) = record { lasts = refl; deeds = []; first = refl; other = refl }

line_letter_alike : (d : Data) (e f : Editor) (c : ℕ)
    → Alike e (after_line_letter d e c) (having (lasting e) f) (after_line_letter d (having (lasting e) f) c)
line_letter_alike d e f c =
    let g = having (lasting e) f in
    let longer : Editor → Editor = λ x. answer_lengthened d longest_line x c in
    let went = after_going d in
    either_alike (c == 0xA) e (went e) (if is_line_letter c then longer e else e) g (went g) (if is_line_letter c then longer g else g)
    (unasked_alike e (went e) g (went g) (going_alike d (without_prompt e) f (asked (chars e.answer))))
    (either_alike (is_line_letter c) e (longer e) e g (longer g) g (idle e (longer e) g (longer g) refl refl refl) (idle e e g g refl refl refl))

-- ---- a character

coded_alike : (d : Data) (e f : Editor) (c : ℕ) → Alike e (with_character d e c) (having (lasting e) f) (with_character d (having (lasting e) f) c)
coded_alike d e f c =
    let g = having (lasting e) f in
    let new = encode_utf8 c in
    let typing = after_insertion (kind_of (d.class c)) in
    let full : Editor → Editor = λ x. record x { message = Some TextFull } in
    let one : Editor → Editor = λ x. with_insertion d x new false in
    either_alike (fits e.content.text e.place e.place new) e (with_typing (one e) typing) (full e) g (with_typing (one g) typing) (full g)
    (going_on typing e (one e) g (one g) (insertion_alike d e f new false)) (idle e (full e) g (full g) refl refl refl)

wrap_alike : (d : Data) (e f : Editor) (opener closer : List ℕ)
    → Alike e (with_wrap d e opener closer) (having (lasting e) f) (with_wrap d (having (lasting e) f) opener closer)
wrap_alike d e f opener closer =
    let g = having (lasting e) f in
    let t = e.content in
    let n = length t.past in
    let start = (region e).0 in
    let stop = (region e).1 in
    let between = place_after d e (splice t.text stop stop closer) (stop + length closer) in
    let after = (with_wrap d e opener closer).place in
    let runs = sym (runs-of-two e.undo_groups n) in
    record {
      lasts = refl;
      deeds = Edits stop stop closer e.place between false ∷ Edits start start opener between after true ∷ [];
      first = ap₂ (λ rs stored. record (work (with_wrap d e opener closer)) { undo_groups = rs; stored = stored }) runs (sym (stored-of-two n e.stored));
      other = ap₂ (λ rs stored. record (work (with_wrap d g opener closer)) { undo_groups = rs; stored = stored }) runs (sym (stored-of-two n f.stored));
    }

wrapping_alike : (d : Data) (e f : Editor) (opener closer : ℕ)
    → Alike e (after_wrapping d e opener closer) (having (lasting e) f) (after_wrapping d (having (lasting e) f) opener closer)
wrapping_alike d e f opener closer =
    let g = having (lasting e) f in
    let front = encode_utf8 opener in
    let back = encode_utf8 closer in
    let many : Editor → Editor = λ x. record x { message = Some MoreThanOneLine } in
    let full : Editor → Editor = λ x. record x { message = Some TextFull } in
    let fit = fits_both e.content.text front back in
    either_alike (spans_lines d e) e (many e) (if fit then with_wrap d e front back else full e) g (many g) (if fit then with_wrap d g front back else full g)
    (idle e (many e) g (many g) refl refl refl)
    (either_alike fit e (with_wrap d e front back) (full e) g (with_wrap d g front back) (full g) (wrap_alike d e f front back)
    (idle e (full e) g (full g) refl refl refl))

named_alike : (d : Data) (e f : Editor) (c : ℕ) (closer : Option ℕ)
    → Alike e (after_named d e c closer) (having (lasting e) f) (after_named d (having (lasting e) f) c closer)
named_alike d e f c None = coded_alike d e f c
named_alike d e f c (Some closer) =
    let g = having (lasting e) f in
    either_alike (is_empty (region e)) e (with_character d e c) (after_wrapping d e c closer) g (with_character d g c) (after_wrapping d g c closer)
    (coded_alike d e f c) (wrapping_alike d e f c closer)

name_letter_alike : (d : Data) (e f : Editor) (letter : ℕ) (c : Option ℕ)
    → Alike e (after_name_letter d e letter c) (having (lasting e) f) (after_name_letter d (having (lasting e) f) letter c)
name_letter_alike d e f letter (Some c) =
    let g = having (lasting e) f in
    unasked_alike e (after_name_letter d e letter (Some c)) g (after_name_letter d g letter (Some c)) (named_alike d (without_prompt e) f c (closing letter))
name_letter_alike d e f letter None =
    let g = having (lasting e) f in
    let code : Editor → Editor = λ x. asking x prompts.Code in
    either_alike (asks_code letter) e (code e) (if letter == 0xA then without_prompt e else e) g (code g) (if letter == 0xA then without_prompt g else g)
    (idle e (code e) g (code g) refl refl refl)
    (either_alike (letter == 0xA) e (without_prompt e) e g (without_prompt g) g (idle e (without_prompt e) g (without_prompt g) refl refl refl)
    (idle e e g g refl refl refl))

code_alike : (d : Data) (e f : Editor) (c : Option ℕ) → Alike e (after_code d e c) (having (lasting e) f) (after_code d (having (lasting e) f) c)
code_alike d e f None = record { lasts = refl; deeds = []; first = refl; other = refl }
code_alike d e f (Some c) = coded_alike d e f c

code_letter_alike : (d : Data) (e f : Editor) (letter : ℕ)
    → Alike e (after_code_letter d e letter) (having (lasting e) f) (after_code_letter d (having (lasting e) f) letter)
code_letter_alike d e f letter =
    let g = having (lasting e) f in
    let c = coded e.answer in
    let longer : Editor → Editor = λ x. answer_lengthened d longest_code x letter in
    let given : Editor → Editor = λ x. after_code d (without_prompt x) c in
    either_alike (letter == 0xA) e (given e) (if is_code_letter letter then longer e else e) g (given g) (if is_code_letter letter then longer g else g)
    (unasked_alike e (given e) g (given g) (code_alike d (without_prompt e) f c))
    (either_alike (is_code_letter letter) e (longer e) e g (longer g) g (idle e (longer e) g (longer g) refl refl refl) (idle e e g g refl refl refl))

-- ---- a name to save under, which is not complete

unless_saved : (ends empty : Bool) (e left saved other f left' saved' other' : Editor) → (ends && not empty) ≡ false → Alike e left f left' → Alike e other f other'
    → Alike e (if ends then (if empty then left else saved) else other) f (if ends then (if empty then left' else saved') else other')
unless_saved true true e left saved other f left' saved' other' h k l = k
unless_saved true false e left saved other f left' saved' other' h k l = absurd (cc h)
unless_saved false empty e left saved other f left' saved' other' h k l = l

file_letter_alike : (d : Data) (fault : Option StoreFault) (e f : Editor) (c : ℕ) → ((c == 0xA) && not (length e.answer == 0)) ≡ false
    → Alike e (after_file_letter d fault e c) (having (lasting e) f) (after_file_letter d None (having (lasting e) f) c)
file_letter_alike d fault e f c unsaved =
    let g = having (lasting e) f in
    let left : Editor → Editor = λ x. without_prompt x in
    let longer : Editor → Editor = λ x. answer_lengthened d longest_name x c in
    unless_saved (c == 0xA) (length e.answer == 0) e (left e) (after_saving_under fault (left e)) (if is_no_letter d c then e else longer e) g (left g)
    (after_saving_under None (left g)) (if is_no_letter d c then g else longer g) unsaved (idle e (left e) g (left g) refl refl refl)
    (either_alike (is_no_letter d c) e e (longer e) g g (longer g) (idle e e g g refl refl refl) (idle e (longer e) g (longer g) refl refl refl))

-- ---- any question with an input line

-- a letter that completes no name
abbrev pub Unsaved : Prompt → Editor → ℕ → Type 0
Unsaved prompt e c = prompt ≡ prompts.File → ((c == 0xA) && not (length e.answer == 0)) ≡ false

pub answer_letter_alike : (d : Data) (fault : Option StoreFault) (prompt : Prompt) (e f : Editor) (c : ℕ) → Unsaved prompt e c
    → Alike e (after_answer_letter d fault prompt e c) (having (lasting e) f) (after_answer_letter d None prompt (having (lasting e) f) c)
answer_letter_alike d fault prompts.Off e f c unsaved = record { lasts = refl; deeds = []; first = refl; other = refl }
answer_letter_alike d fault prompts.Line e f c unsaved = line_letter_alike d e f c
answer_letter_alike d fault prompts.Name e f c unsaved = record { lasts = refl; deeds = []; first = refl; other = refl }
answer_letter_alike d fault prompts.Code e f c unsaved = code_letter_alike d e f (code_letter c)
answer_letter_alike d fault prompts.File e f c unsaved = file_letter_alike d fault e f c (unsaved refl)
answer_letter_alike d fault prompts.Overwrite e f c unsaved = record { lasts = refl; deeds = []; first = refl; other = refl }

erasing_answer_alike : (d : Data) (prompt : Prompt) (e f : Editor) (how : Erasure)
    → Alike e (after_erasing_answer d prompt e how) (having (lasting e) f) (after_erasing_answer d prompt (having (lasting e) f) how)
erasing_answer_alike d prompt e f how =
    let g = having (lasting e) f in
    let name : Editor → Editor = λ x. record x { prompt = prompts.Name } in
    let shorter : Editor → Editor = λ x. with_answer x (line_shortened d how (answer_line e)) in
    let none = erases_nothing d how (answer_line e) in
    either_alike (is_code_prompt prompt && is_of_last how && (length e.answer == 0)) e (name e) (if none then e else shorter e) g (name g)
    (if none then g else shorter g) (idle e (name e) g (name g) refl refl refl)
    (either_alike none e e (shorter e) g g (shorter g) (idle e e g g refl refl refl) (idle e (shorter e) g (shorter g) refl refl refl))

ends_alike : (d : Data) (fault : Option StoreFault) (was was' : Before) (e f : Editor) (key : Key) → Presses e f key
    → let g = having (lasting e) f in
    Alike e (after_pressing d fault was (without_prompt e) key) g (after_pressing d None (record was' { typing = was.typing }) (without_prompt g) key)
ends_alike d fault was was' e f key h =
    let g = having (lasting e) f in
    unasked_alike e (after_pressing d fault was (without_prompt e) key) g (after_pressing d None (record was' { typing = was.typing }) (without_prompt g) key)
    (pressed_alike d fault was was' (without_prompt e) f key
    (record { goes_on = h.goes_on; saves_nothing = h.saves_nothing; rests = h.rests; names = h.names }))

-- by the answer; `unsaved`: it completes no name
pub question_alike : (d : Data) (fault : Option StoreFault) (was was' : Before) (e f : Editor) (key : Key) (answer : Answer) → Presses e f key
    → (scrolls answer ≡ false) ⊎ (f.top ≡ e.top) → ((c : ℕ) → answer ≡ Letter c → is_taken d was.typing c ≡ true → Unsaved e.prompt e c)
    → Alike e (after_line_put d e) (having (lasting e) f) (after_line_put d (having (lasting e) f))
    → Alike e (answered_question d fault was e key answer) (having (lasting e) f)
    (answered_question d None (record was' { typing = was.typing }) (having (lasting e) f) key answer)
question_alike d fault was was' e f key (Letter c) h r unsaved put =
    let g = having (lasting e) f in
    taking_alike d was.typing c e (after_answer_letter d fault e.prompt e c) g (after_answer_letter d None e.prompt g c) refl
    (λ taken. answer_letter_alike d fault e.prompt e f c (unsaved c refl taken))
question_alike d fault was was' e f key (Erases how) h r unsaved put = erasing_answer_alike d e.prompt e f how
question_alike d fault was was' e f key (Moves m) h r unsaved put = record { lasts = refl; deeds = []; first = refl; other = refl }
question_alike d fault was was' e f key PutsIn h r unsaved put = put
question_alike d fault was was' e f key Passes h r unsaved put = record { lasts = refl; deeds = []; first = refl; other = refl }
question_alike d fault was was' e f key GoesBack h r unsaved put = record { lasts = refl; deeds = []; first = refl; other = refl }
question_alike d fault was was' e f key Next h r unsaved put = ends_alike d fault was was' e f key h
question_alike d fault was was' e f key Previous h r unsaved put = ends_alike d fault was was' e f key h
question_alike d fault was was' e f key Replaces h r unsaved put = ends_alike d fault was was' e f key h
question_alike d fault was was' e f key (Scrolls way) h r unsaved put = scrolled_alike d was (record was' { typing = was.typing }) e f way r
question_alike d fault was was' e f key Stays h r unsaved put = record { lasts = refl; deeds = []; first = refl; other = refl }
question_alike d fault was was' e f key Ends h r unsaved put = ends_alike d fault was was' e f key h

-- ---- the question for a character's name

pub name_alike : (d : Data) (fault : Option StoreFault) (was was' : Before) (e f : Editor) (key : Key) (answer : Answer) → Presses e f key
    → (scrolls answer ≡ false) ⊎ (f.top ≡ e.top)
    → Alike e (answered_name d fault was e key answer) (having (lasting e) f)
    (answered_name d None (record was' { typing = was.typing }) (having (lasting e) f) key answer)
name_alike d fault was was' e f key (Letter c) h r =
    let g = having (lasting e) f in
    let letter = name_letter c in
    either_alike (is_paste was.typing) e (with_typing e was.typing) (after_name_key d e c) g (with_typing g was.typing) (after_name_key d g c)
    (idle e (with_typing e was.typing) g (with_typing g was.typing) refl refl refl) (name_letter_alike d e f letter (named letter))
name_alike d fault was was' e f key (Erases how) h r = record { lasts = refl; deeds = []; first = refl; other = refl }
name_alike d fault was was' e f key (Moves m) h r = ends_alike d fault was was' e f key h
name_alike d fault was was' e f key PutsIn h r = ends_alike d fault was was' e f key h
name_alike d fault was was' e f key Passes h r = ends_alike d fault was was' e f key h
name_alike d fault was was' e f key GoesBack h r = record { lasts = refl; deeds = []; first = refl; other = refl }
name_alike d fault was was' e f key Next h r = ends_alike d fault was was' e f key h
name_alike d fault was was' e f key Previous h r = ends_alike d fault was was' e f key h
name_alike d fault was was' e f key Replaces h r = ends_alike d fault was was' e f key h
name_alike d fault was was' e f key (Scrolls way) h r = scrolled_alike d was (record was' { typing = was.typing }) e f way r
name_alike d fault was was' e f key Stays h r = record { lasts = refl; deeds = []; first = refl; other = refl }
name_alike d fault was was' e f key Ends h r = ends_alike d fault was was' e f key h

-- ---- the question whether to overwrite

-- a letter that confirms stores the text, if it can be stored; else that it is only looked at is told, or a name is asked for
confirmed_alike : (fault : Option StoreFault) (e f : Editor) (reads nameless nameless' : Bool) → not (reads || nameless) ≡ false → nameless' ≡ nameless
    → let g = having (lasting e) f in
    Alike e (if reads then record e { message = Some ViewOnly } else if nameless then asking_name e else after_save e fault) g
    (if reads then record g { message = Some ViewOnly } else if nameless' then asking_name g else after_save g None)
confirmed_alike fault e f true nameless nameless' h same = record { lasts = refl; deeds = []; first = refl; other = refl }
confirmed_alike fault e f false true nameless' h same = naming_alike fault e f true nameless' refl same
confirmed_alike fault e f false false nameless' h same = absurd (cc h)

undecided : (confirmed pasted can : Bool) → (confirmed && not pasted && can) ≡ false → confirmed ≡ true → pasted ≡ false → can ≡ false
undecided true true can h one other = absurd (cc other)
undecided true false can h one other = h
undecided false pasted can h one other = absurd (cc one)

given_false : (b : Bool) (e p q f p' q' : Editor) → Alike e p f p' → (b ≡ false → Alike e q f q') → Alike e (if b then p else q) f (if b then p' else q')
given_false true e p q f p' q' h k = h
given_false false e p q f p' q' h k = k refl

pub overwrite_alike : (fault : Option StoreFault) (was was' : Before) (e f : Editor) (answer : Answer) → is_nameless f ≡ is_nameless e
    → ((c : ℕ) → answer ≡ Letter c → (confirms c && not (is_paste was.typing) && can_save e) ≡ false)
    → Alike e (answered_overwrite fault was e answer) (having (lasting e) f)
    (answered_overwrite None (record was' { typing = was.typing }) (having (lasting e) f) answer)
overwrite_alike fault was was' e f (Letter c) names unsaved =
    let g = having (lasting e) f in
    let left : Editor → Editor = λ x. without_prompt x in
    let can : confirms c ≡ true → is_paste was.typing ≡ false → can_save e ≡ false =
    undecided (confirms c) (is_paste was.typing) (can_save e) (unsaved c refl) in
    given_false (is_paste was.typing) e (with_typing e was.typing) (after_deciding fault (left e) c) g (with_typing g was.typing) (after_deciding None (left g) c)
    (idle e (with_typing e was.typing) g (with_typing g was.typing) refl refl refl)
    (λ typed. given_alike (confirms c) e (after_confirming fault (left e)) (left e) g (after_confirming None (left g)) (left g)
    (λ sure. unasked_alike e (after_confirming fault (left e)) g (after_confirming None (left g))
    (confirmed_alike fault (left e) f e.read_only (is_nameless e) (is_nameless f) (can sure typed) names))
    (idle e (left e) g (left g) refl refl refl))
overwrite_alike fault was was' e f Stays names unsaved = record { lasts = refl; deeds = []; first = refl; other = refl }
overwrite_alike fault was was' e f (Erases how) names unsaved = record { lasts = refl; deeds = []; first = refl; other = refl }
overwrite_alike fault was was' e f answer names unsaved = record { lasts = refl; deeds = []; first = refl; other = refl }
