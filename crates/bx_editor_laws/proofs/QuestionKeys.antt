-- Keys while a question is on.
use Rattle.std.proofs.Common.{◌≡◌, ℕ, Bool, true, false, List, [], ◌∷◌, refl, sym, ap, subst, ◌∙◌, if◌then◌else◌}
use Rattle.std.specs.Prelude.{◌≢◌, ◌==◌, not, chars, Option, Some, None}
use Rattle.bx_editor.specs.declared.questions.answers.Prompt.{Prompt}
use Rattle.bx_editor.specs.declared.questions.answers.Prompt.TheVariants.{Off, Line, Name, Code, File, Overwrite}
use Rattle.bx_editor.specs.questions.Answers.{asked, is_line_letter}
use Rattle.bx_editor.specs.questions.KeyLetters.{code_letter, name_letter}
use Rattle.bx_editor.specs.questions.Names.{coded, is_code_letter, asks_code, closing, named}
use Rattle.bx_keys.specs.declared.key.Key.{Key}
use Rattle.bx_keys.specs.declared.key.Key.TheVariants as keys
use Rattle.bx_store.specs.declared.store.StoreFault.{StoreFault}
use Rattle.bx_editor.specs.declared.undo_groups.typing.Typing.{Typing}
use Rattle.bx_editor.specs.declared.undo_groups.typing.Typing.TheVariants as typings
use Rattle.bx_ucd.specs.Data.{Data}
use Rattle.bx_view.specs.declared.moves.Vertical.{Vertical}
use Rattle.bx_view.specs.Moves.{row_home}
use Rattle.bx_editor.specs.declared.answer.Answer.{Answer}
use Rattle.bx_editor.specs.declared.answer.Answer.TheVariants.{Letter, Erases, Moves, PutsIn, Passes, GoesBack, Next, Previous, Replaces, Scrolls, Stays, Ends}
use Rattle.bx_editor.specs.declared.message.Message.TheVariants as messages
use Rattle.bx_editor.specs.declared.search_state.SearchState.{SearchState}
use Rattle.bx_editor.specs.declared.cursor.Soft.TheVariants as softness
use Rattle.bx_editor.specs.Answering.{answer_of, without_line}
use Rattle.bx_editor.specs.Asking.{after_answer_letter, after_code, after_going}
use Rattle.bx_editor.specs.Asking.{after_name_key, after_name_letter, answer_lengthened, asking}
use Rattle.bx_editor.specs.Asking.{longest_code, longest_line, without_prompt}
use Rattle.bx_editor_laws.specs.AskingLaws.{IsUntouched, QuestionsChangeThemselves, StaysAsked}
use Rattle.bx_editor.specs.Editor.{Editor, cleared, rows, unpressed, with_typing}
use Rattle.bx_editor.specs.Effects.{Effect, AsksLine, AsksName, AsksFile, AsksOverwrite, Refuses, Saves, Wheels, by}
use Rattle.bx_editor.specs.Before.{Before, before}
use Rattle.bx_editor.specs.InputLines.{is_no_letter, is_taken, paste_behind, with_paste_behind}
use Rattle.bx_editor.specs.Keys.{after_any, after_key, after_pressing, allowed_effect, answered_name, answered_overwrite, answered_question}
use Rattle.bx_editor.specs.Keys.{as_left, refuses_replacing}
use Rattle.bx_editor.specs.LinePuts.{after_line_put, is_in_line, typed_in}
use Rattle.bx_editor.specs.Functions.{is_told_key}
use Rattle.bx_editor_laws.specs.Laws.{after_typing}
use Rattle.bx_editor.specs.Putting.{is_paste, paste_begun, paste_ended, refuses_paste}
use Rattle.bx_editor.specs.Region.{mark_left, soft_behind, soft_left}
use Rattle.bx_editor.specs.RowMoves.{after_wheel, carried, shows_place, wheel_top}
use Rattle.bx_editor.specs.Saving.{after_deciding, after_naming, longest_name}
use Rattle.bx_editor.proofs.InSearch.{any-key, each-key, pressed-key}
use Rattle.bx_editor.proofs.LinePutsLeft.{code-letter-kept}
use Rattle.bx_editor.proofs.QuestionKept.{effect-keeps}
use Rattle.bx_editor.proofs.Saved.{IsKeptSaving, deciding-keeps, naming-keeps, saving-keeps}
use Rattle.bx_editor_laws.proofs.LineKept.{in-line-keeps}
use Rattle.bx_editor_laws.proofs.PasteEnded.{none-ended}
use Rattle.bx_editor_laws.proofs.QuestionAnswers.{answer-alone, code-off, either-off, going-off, named-off, shorter-on}

-- ---- whatever is typed

-- a step leaves text, place and held text, what a paste has brought, and a mark that no selection set
pub record Leaves (e new : Editor) : Type 0 where
  pub content : new.content ≡ e.content
  pub pasted : new.pasted ≡ e.pasted
  pub place : new.place ≡ e.place
  pub held : new.held ≡ e.held
  pub looked : new.read_only ≡ e.read_only
  pub hard : e.soft ≡ softness.Off → (new.mark ≡ e.mark) × (new.soft ≡ softness.Off)

same : (e : Editor) → Leaves e e
same e = record { content = refl; pasted = refl; place = refl; held = refl; looked = refl; hard = λ h. (refl, h) }

pub leaves-trans : (e mid new : Editor) → Leaves e mid → Leaves mid new → Leaves e new
leaves-trans e mid new a b = record {
  content = b.content ∙ a.content;
  pasted = b.pasted ∙ a.pasted;
  place = b.place ∙ a.place;
  held = b.held ∙ a.held;
  looked = b.looked ∙ a.looked;
  hard = λ h. let first = a.hard h in let second = b.hard first.1 in (second.0 ∙ first.0, second.1);
}

either-leaves : (e : Editor) (b : Bool) (p q : Editor) → Leaves e p → Leaves e q → Leaves e (if b then p else q)
either-leaves e true p q h k = h
either-leaves e false p q h k = k

-- as long as a question is on
abbrev LeavesIfOn : Editor → Editor → Type 0
LeavesIfOn e new = new.prompt ≢ Off → Leaves e new

either-leaving : (e : Editor) (b : Bool) (p q : Editor) → LeavesIfOn e p → LeavesIfOn e q → LeavesIfOn e (if b then p else q)
either-leaving e true p q h k = h
either-leaving e false p q h k = k

off-leaving : (e new : Editor) → new.prompt ≡ Off → LeavesIfOn e new
off-leaving e new off on = absurd (on off)

saving-leaves : (e : Editor) → IsKeptSaving (Leaves e)
saving-leaves e = record {
  stored = λ x stored changed home message h.
      leaves-trans e x (record x { stored = stored; changed = changed; home = home; message = message }) h
      (record { content = refl; pasted = refl; place = refl; held = refl; looked = refl; hard = λ h. (refl, h) });
  asked = λ x prompt answer cursor h.
      leaves-trans e x (record x { prompt = prompt; answer = answer; input_cursor = cursor }) h
      (record { content = refl; pasted = refl; place = refl; held = refl; looked = refl; hard = λ h. (refl, h) });
  named = λ x name answer h.
      leaves-trans e x (record x { name = name; answer = answer }) h
      (record { content = refl; pasted = refl; place = refl; held = refl; looked = refl; hard = λ h. (refl, h) });
}

unasked-leaves : (e : Editor) → Leaves e (without_prompt e)
unasked-leaves e = record { content = refl; pasted = refl; place = refl; held = refl; looked = refl; hard = λ h. (refl, h) }

longer-leaves : (d : Data) (limit : ℕ) (e : Editor) (c : ℕ) → Leaves e (answer_lengthened d limit e c)
longer-leaves d limit e c = record { content = refl; pasted = refl; place = refl; held = refl; looked = refl; hard = λ h. (refl, h) }

letter-leaves : (d : Data) (fault : Option StoreFault) (prompt : Prompt) (e : Editor) (c : ℕ) → LeavesIfOn e (after_answer_letter d fault prompt e c)
letter-leaves d fault Off e c on = same e
letter-leaves d fault Line e c on =
    let more = answer_lengthened d longest_line e c in
    either-leaving e (c == 0xA) (after_going d e) (if is_line_letter c then more else e)
    (off-leaving e (after_going d e) (going-off d (without_prompt e) (asked (chars e.answer)) refl))
    (λ still. either-leaves e (is_line_letter c) more e (longer-leaves d longest_line e c) (same e)) on
letter-leaves d fault Name e c on = same e
letter-leaves d fault Code e c on =
    let letter = code_letter c in
    let put = after_code d (without_prompt e) (coded e.answer) in
    let more = answer_lengthened d longest_code e letter in
    either-leaving e (letter == 0xA) put (if is_code_letter letter then more else e)
    (off-leaving e put (code-off d (without_prompt e) (coded e.answer) refl))
    (λ still. either-leaves e (is_code_letter letter) more e (longer-leaves d longest_code e letter) (same e)) on
letter-leaves d fault File e c on =
    let more = answer_lengthened d longest_name e c in
    either-leaves e (c == 0xA) (after_naming fault (without_prompt e)) (if is_no_letter d c then e else more)
    (naming-keeps (Leaves e) (saving-leaves e) fault (without_prompt e) (unasked-leaves e))
    (either-leaves e (is_no_letter d c) e more (same e) (longer-leaves d longest_name e c))
letter-leaves d fault Overwrite e c on = same e

pasted-leaving : (e new : Editor) (typing : Option Typing) → LeavesIfOn e new → LeavesIfOn e (with_paste_behind typing new)
pasted-leaving e new None h on = h on
pasted-leaving e new (Some typing) h on =
    leaves-trans e new (with_typing new typing) (h on) (record { content = refl; pasted = refl; place = refl; held = refl; looked = refl; hard = λ h. (refl, h) })

-- ---- the held text, and the wheel

abbrev IsLeftIn : Editor → Editor → Type 0
IsLeftIn e x = Leaves e x × (x.prompt ≡ e.prompt)

either-in : (e : Editor) (b : Bool) (p q : Editor) → IsLeftIn e p → IsLeftIn e q → IsLeftIn e (if b then p else q)
either-in e true p q h k = h
either-in e false p q h k = k

-- a character is no line end
other-by : (e : Editor) (b : Bool) (p q : Editor) → not b ≡ true → IsLeftIn e q → IsLeftIn e (if b then p else q)
other-by e true p q h k = absurd (cc h)
other-by e false p q h k = k

in-line-letter : (d : Data) (prompt : Prompt) (e : Editor) (c : ℕ) → prompt ≢ Off → is_in_line c ≡ true → IsLeftIn e (typed_in d prompt e.search_state e c)
in-line-letter d Off e c on inside = absurd (on refl)
in-line-letter d Line e c on inside =
    let more = answer_lengthened d longest_line e c in
    other-by e (c == 0xA) (after_going d e) (if is_line_letter c then more else e) inside
    (either-in e (is_line_letter c) more e (longer-leaves d longest_line e c, refl) (same e, refl))
in-line-letter d Name e c on inside = (same e, refl)
in-line-letter d Code e c on inside =
    let letter = code_letter c in
    let more = answer_lengthened d longest_code e letter in
    other-by e (letter == 0xA) (after_code d (without_prompt e) (coded e.answer)) (if is_code_letter letter then more else e) (code-letter-kept c inside)
    (either-in e (is_code_letter letter) more e (longer-leaves d longest_code e letter, refl) (same e, refl))
in-line-letter d File e c on inside =
    let more = answer_lengthened d longest_name e c in
    other-by e (c == 0xA) (after_naming None (without_prompt e)) (if is_no_letter d c then e else more) inside
    (either-in e (is_no_letter d c) e more (same e, refl) (longer-leaves d longest_name e c, refl))
in-line-letter d Overwrite e c on inside = (same e, refl)

put-leaves : (d : Data) (e : Editor) → e.prompt ≢ Off → Leaves e (after_line_put d e)
put-leaves d e on =
    (in-line-keeps d (IsLeftIn e) (record {
      cleared = λ x h.
          (leaves-trans e x (cleared x) h.0 (record { content = refl; pasted = refl; place = refl; held = refl; looked = refl; hard = λ h. (refl, h) }), h.1);
      told = λ x h. (
        leaves-trans e x (record x { message = Some messages.NothingToPut }) h.0
            (record { content = refl; pasted = refl; place = refl; held = refl; looked = refl; hard = λ h. (refl, h) }),
        h.1,
      );
      typed = λ x c inside h.
          let one = in-line-letter d x.prompt x c (λ off. on (sym h.1 ∙ off)) inside in
          (leaves-trans e x (typed_in d x.prompt x.search_state x c) h.0 one.0, one.1 ∙ h.1);
    }) e (same e, refl)).0

wheel-leaves : (d : Data) (was : Before) (e : Editor) (way : Vertical) → LeavesIfOn e (after_wheel d was e way)
wheel-leaves d was e way =
    let top = wheel_top d e way in
    let still : Editor = record e { message = was.message } in
    either-leaving e (shows_place d e top) (if top == row_home (rows d e) e.top then still else e) (carried d e top)
    (λ on. either-leaves e (top == row_home (rows d e) e.top) still e
    (record { content = refl; pasted = refl; place = refl; held = refl; looked = refl; hard = λ h. (refl, h) }) (same e))
    (off-leaving e (carried d e top) refl)

wheel-off : (d : Data) (was : Before) (e : Editor) (way : Vertical) → e.prompt ≡ Off → (after_wheel d was e way).prompt ≡ Off
wheel-off d was e way off =
    let top = wheel_top d e way in
    let still : Editor = record e { message = was.message } in
    either-off (shows_place d e top) (if top == row_home (rows d e) e.top then still else e) (carried d e top)
    (either-off (top == row_home (rows d e) e.top) still e off off) refl

-- ---- a key

effect-leaves : (d : Data) (fault : Option StoreFault) (was : Before) (e : Editor) (one : Effect) → e.prompt ≡ Off → LeavesIfOn e (by d fault was e one)
effect-leaves d fault was e AsksLine none on =
    record { content = refl; pasted = refl; place = refl; held = refl; looked = refl; hard = λ h. (ap (λ s. mark_left s e.mark) h, ap soft_left h) }
effect-leaves d fault was e AsksName none on = record { content = refl; pasted = refl; place = refl; held = refl; looked = refl; hard = λ h. (refl, h) }
effect-leaves d fault was e AsksFile none on = record { content = refl; pasted = refl; place = refl; held = refl; looked = refl; hard = λ h. (refl, h) }
effect-leaves d fault was e AsksOverwrite none on = record { content = refl; pasted = refl; place = refl; held = refl; looked = refl; hard = λ h. (refl, h) }
effect-leaves d fault was e Saves none on = saving-keeps (Leaves e) (saving-leaves e) fault e (same e)
effect-leaves d fault was e (Wheels way) none on = absurd (on (wheel-off d was e way none))
effect-leaves d fault was e one none on = absurd (on ((effect-keeps d fault was e one refl).0 ∙ none))

pressed-leaves : (d : Data) (fault : Option StoreFault) (was : Before) (e : Editor) (key : Key) → LeavesIfOn e (after_pressing d fault was (without_prompt e) key)
pressed-leaves d fault was e key on =
    let free = without_prompt e in
    leaves-trans e free (after_pressing d fault was free key) (unasked-leaves e) (effect-leaves d fault was free (allowed_effect d free key) refl on)

question-leaves : (d : Data) (fault : Option StoreFault) (was : Before) (e : Editor) (key : Key) (answer : Answer) → e.prompt ≢ Off
    → LeavesIfOn e (answered_question d fault was e key answer)
question-leaves d fault was e key (Letter c) asked on =
    let new = after_answer_letter d fault e.prompt e c in
    pasted-leaving e (if is_taken d was.typing c then new else e) (paste_behind d was.typing c)
    (either-leaving e (is_taken d was.typing c) new e (letter-leaves d fault e.prompt e c) (λ still. same e)) on
question-leaves d fault was e key (Erases how) asked on =
    subst (Leaves e) (sym (shorter-on d e.prompt e how))
    (record { content = refl; pasted = refl; place = refl; held = refl; looked = refl; hard = λ h. (refl, h) })
question-leaves d fault was e key (Moves m) asked on = record { content = refl; pasted = refl; place = refl; held = refl; looked = refl; hard = λ h. (refl, h) }
question-leaves d fault was e key PutsIn asked on = put-leaves d e asked
question-leaves d fault was e key Passes asked on = same e
question-leaves d fault was e key GoesBack asked on = absurd (on refl)
question-leaves d fault was e key (Scrolls way) asked on = wheel-leaves d was e way on
question-leaves d fault was e key Stays asked on = record { content = refl; pasted = refl; place = refl; held = refl; looked = refl; hard = λ h. (refl, h) }
question-leaves d fault was e key Next asked on = pressed-leaves d fault was e key on
question-leaves d fault was e key Previous asked on = pressed-leaves d fault was e key on
question-leaves d fault was e key Replaces asked on = pressed-leaves d fault was e key on
question-leaves d fault was e key Ends asked on = pressed-leaves d fault was e key on

name-leaves : (d : Data) (e : Editor) (letter : ℕ) (c : Option ℕ) → LeavesIfOn e (after_name_letter d e letter c)
name-leaves d e letter None on =
    let ended = if letter == 0xA then without_prompt e else e in
    either-leaves e (asks_code letter) (asking e Code) ended
    (record { content = refl; pasted = refl; place = refl; held = refl; looked = refl; hard = λ h. (refl, h) })
    (either-leaves e (letter == 0xA) (without_prompt e) e (unasked-leaves e) (same e))
name-leaves d e letter (Some c) on = absurd (on (named-off d (without_prompt e) c (closing letter) refl))

named-leaves : (d : Data) (fault : Option StoreFault) (was : Before) (e : Editor) (key : Key) (answer : Answer) → LeavesIfOn e (answered_name d fault was e key answer)
named-leaves d fault was e key (Letter c) on =
    either-leaving e (is_paste was.typing) (with_typing e was.typing) (after_name_key d e c)
    (λ still. record { content = refl; pasted = refl; place = refl; held = refl; looked = refl; hard = λ h. (refl, h) })
    (name-leaves d e (name_letter c) (named (name_letter c))) on
named-leaves d fault was e key (Erases how) on = same e
named-leaves d fault was e key (Moves m) on = pressed-leaves d fault was e key on
named-leaves d fault was e key PutsIn on = pressed-leaves d fault was e key on
named-leaves d fault was e key Passes on = pressed-leaves d fault was e key on
named-leaves d fault was e key GoesBack on = absurd (on refl)
named-leaves d fault was e key (Scrolls way) on = wheel-leaves d was e way on
named-leaves d fault was e key Stays on = record { content = refl; pasted = refl; place = refl; held = refl; looked = refl; hard = λ h. (refl, h) }
named-leaves d fault was e key Next on = pressed-leaves d fault was e key on
named-leaves d fault was e key Previous on = pressed-leaves d fault was e key on
named-leaves d fault was e key Replaces on = pressed-leaves d fault was e key on
named-leaves d fault was e key Ends on = pressed-leaves d fault was e key on

overwrite-leaves : (fault : Option StoreFault) (was : Before) (e : Editor) (answer : Answer) → LeavesIfOn e (answered_overwrite fault was e answer)
overwrite-leaves fault was e (Letter c) on =
    either-leaves e (is_paste was.typing) (with_typing e was.typing) (after_deciding fault (without_prompt e) c)
    (record { content = refl; pasted = refl; place = refl; held = refl; looked = refl; hard = λ h. (refl, h) })
    (deciding-keeps (Leaves e) (saving-leaves e) fault (without_prompt e) c (unasked-leaves e))
overwrite-leaves fault was e Stays on = record { content = refl; pasted = refl; place = refl; held = refl; looked = refl; hard = λ h. (refl, h) }
overwrite-leaves fault was e (Erases how) on = absurd (on refl)
overwrite-leaves fault was e (Moves m) on = absurd (on refl)
overwrite-leaves fault was e PutsIn on = absurd (on refl)
overwrite-leaves fault was e Passes on = absurd (on refl)
overwrite-leaves fault was e GoesBack on = absurd (on refl)
overwrite-leaves fault was e (Scrolls way) on = absurd (on refl)
overwrite-leaves fault was e Next on = absurd (on refl)
overwrite-leaves fault was e Previous on = absurd (on refl)
overwrite-leaves fault was e Replaces on = absurd (on refl)
overwrite-leaves fault was e Ends on = absurd (on refl)

any-leaves : (d : Data) (fault : Option StoreFault) (was : Before) (prompt : Prompt) (search_state : SearchState) (e : Editor) (key : Key) → e.prompt ≡ prompt → prompt ≢ Off
    → LeavesIfOn e (after_any d fault was prompt search_state e key)
any-leaves d fault was Off search_state e key is asked on = absurd (asked refl)
any-leaves d fault was Line search_state e key is asked on = question-leaves d fault was e key (answer_of key) (λ off. let both = sym is ∙ off in cc both) on
any-leaves d fault was Name search_state e key is asked on = named-leaves d fault was e key (without_line (answer_of key)) on
any-leaves d fault was Code search_state e key is asked on = question-leaves d fault was e key (answer_of key) (λ off. let both = sym is ∙ off in cc both) on
any-leaves d fault was File search_state e key is asked on = question-leaves d fault was e key (answer_of key) (λ off. let both = sym is ∙ off in cc both) on
any-leaves d fault was Overwrite search_state e key is asked on = overwrite-leaves fault was e (answer_of key) on

soft-off : (key : Key) → soft_behind key softness.Off ≡ softness.Off
soft-off keys.Select = refl
soft-off keys.ScrollBack = refl
soft-off keys.ScrollOn = refl
soft-off keys.Repaint = refl
soft-off _ = refl

pub left-leaves : (e new : Editor) (key : Key) → Leaves (cleared e) new → Leaves e (as_left key new)
left-leaves e new key left = record {
  content = left.content;
  pasted = left.pasted;
  place = left.place;
  held = left.held;
  looked = left.looked;
  hard = λ h. let still = left.hard h in (still.0, ap (soft_behind key) still.1 ∙ soft-off key);
}

user-leaves : (d : Data) (fault : Option StoreFault) (e : Editor) (key : Key) → is_told_key key ≡ false → e.pasted ≡ None → e.prompt ≢ Off
    → LeavesIfOn e (after_key d fault e key)
user-leaves d fault e key told settled asked =
    let refused : Editor = by d fault (before e) (cleared e) Refuses in
    let new = after_any d fault (before e) e.prompt e.search_state (cleared e) key in
    subst (LeavesIfOn e) (sym (any-key d fault e key settled told))
    (λ on. left-leaves e (if refuses_replacing e key then refused else new) key
    (either-leaving (cleared e) (refuses_replacing e key) refused new
    (λ still. record { content = refl; pasted = refl; place = refl; held = refl; looked = refl; hard = λ h. (refl, h) })
    (any-leaves d fault (before e) e.prompt e.search_state (cleared e) key refl asked) on))

-- while a question is on PasteStart begins no paste into the text
begun-leaves : (e : Editor) (prompt : Prompt) (search_state : SearchState) (pasted : Option (List ℕ)) → prompt ≢ Off → paste_begun prompt search_state pasted e ≡ e
begun-leaves e Off search_state pasted on = absurd (on refl)
begun-leaves e Line search_state pasted on = refl
begun-leaves e Name search_state pasted on = refl
begun-leaves e Code search_state pasted on = refl
begun-leaves e File search_state pasted on = refl
begun-leaves e Overwrite search_state pasted on = refl

typing-leaves : (e new : Editor) (typing : Typing) → new ≡ e → Leaves e (unpressed (with_typing new typing))
typing-leaves e new typing is =
    subst (λ (x : Editor). Leaves e (unpressed (with_typing x typing))) (sym is)
    (record { content = refl; pasted = refl; place = refl; held = refl; looked = refl; hard = λ h. (refl, h) })

key-leaves : (d : Data) (fault : Option StoreFault) (e : Editor) (key : Key) → e.pasted ≡ None → e.prompt ≢ Off → LeavesIfOn e (after_key d fault e key)
key-leaves d fault e key settled on =
    each-key d fault e (λ k new. LeavesIfOn e new)
    (λ height width still. record { content = refl; pasted = refl; place = refl; held = refl; looked = refl; hard = λ h. (refl, h) })
    (λ notice still. record { content = refl; pasted = refl; place = refl; held = refl; looked = refl; hard = λ h. (refl, h) })
    (λ still. same e) (
      λ still.
          let begun = paste_begun e.prompt e.search_state e.pasted e in
          either-leaves e (refuses_paste e) (unpressed (record e { message = Some messages.ViewOnly })) (unpressed (with_typing begun typings.Paste))
          (record { content = refl; pasted = refl; place = refl; held = refl; looked = refl; hard = λ h. (refl, h) })
          (typing-leaves e begun typings.Paste (begun-leaves e e.prompt e.search_state e.pasted on)),
      λ still. typing-leaves e (paste_ended d e) typings.Off (none-ended d e settled),
    )
    (λ k small. subst (λ (new : Editor). LeavesIfOn e new) (pressed-key d fault e k small) (user-leaves d fault e k small settled on)) key

pub stays-first : (d : Data) (e : Editor) (typed : List (Key × Option StoreFault)) → StaysAsked d e typed → e.prompt ≢ Off
stays-first d e [] h = h
stays-first d e (key ∷ typed) h = h.0

pub typed-leaves : (d : Data) (e : Editor) (typed : List (Key × Option StoreFault)) → e.pasted ≡ None → StaysAsked d e typed
    → Leaves e (after_typing d e typed)
typed-leaves d e [] settled h = record { content = refl; pasted = refl; place = refl; held = refl; looked = refl; hard = λ h. (refl, h) }
typed-leaves d e (key ∷ typed) settled h =
    let next = after_key d key.1 e key.0 in
    let one = key-leaves d key.1 e key.0 settled h.0 (stays-first d next typed h.1) in
    leaves-trans e next (after_typing d next typed) one (typed-leaves d next typed (one.pasted ∙ settled) h.1)

pub last-asked : (d : Data) (e : Editor) (typed : List (Key × Option StoreFault)) → StaysAsked d e typed → (after_typing d e typed).prompt ≢ Off
last-asked d e [] h = h
last-asked d e (key ∷ typed) h = last-asked d (after_key d key.1 e key.0) typed h.1

pub untouched : (e new : Editor) → Leaves e new → IsUntouched e new
untouched e new left = record { content_is = left.content; place_is = left.place; held_is = left.held; mark_is = λ h. (left.hard h).0 }

pub questions-change-themselves : QuestionsChangeThemselves
questions-change-themselves d e on settled = record {
  key = λ key fault h other stays over. answer-alone d fault e key settled on other h stays over;
  keys = λ typed h. untouched e (after_typing d e typed) (typed-leaves d e typed settled h);
}
