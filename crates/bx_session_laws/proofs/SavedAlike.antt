-- A key that stores the text leaves the same of a session and of its replay, which only passes over it.
use Rattle.std.proofs.Common.{◌≡◌, ℕ, Bool, true, false, List, [], Option, Some, None, length, refl, sym, ap, subst, ◌∙◌, if◌then◌else◌}
use Rattle.std.specs.Prelude.{◌==◌, ◌&&◌, ◌||◌, not, is_some}
use Rattle.bx_keys.specs.declared.key.Key.{Key}
use Rattle.bx_keys.specs.declared.key.Key.TheVariants.{Insert, NewLine, Save}
use Rattle.bx_store.specs.declared.store.StoreFault.{StoreFault}
use Rattle.bx_ucd.specs.Data.{Data}
use Rattle.bx_view.specs.declared.moves.Goal.{Goal}
use Rattle.bx_editor.specs.Effects.{Refuses, by}
use Rattle.bx_editor.specs.declared.answer.Answer.{Answer}
use Rattle.bx_editor.specs.declared.answer.Answer.TheVariants.{Letter}
use Rattle.bx_editor.specs.declared.clicks.Clicks.{Clicks}
use Rattle.bx_editor.specs.declared.clicks.Pressed.{Pressed}
use Rattle.bx_editor.specs.declared.cursor.Soft.{Soft}
use Rattle.bx_editor.specs.declared.questions.answers.Prompt.{Prompt}
use Rattle.bx_editor.specs.declared.questions.answers.Prompt.TheVariants as prompts
use Rattle.bx_editor.specs.declared.search_state.SearchState.TheVariants.{Off}
use Rattle.bx_editor.specs.declared.undo_groups.typing.Typing.{Typing}
use Rattle.bx_editor.specs.declared.undo_groups.typing.Typing.TheVariants as typings
use Rattle.bx_editor.specs.Answering.{answer_of}
use Rattle.bx_editor.specs.Asking.{after_answer_letter, without_prompt}
use Rattle.bx_editor.specs.Before.{before}
use Rattle.bx_editor.specs.Clicks.{clicks_behind, pressed_behind}
use Rattle.bx_editor.specs.Editor.{Editor, cleared}
use Rattle.bx_editor.specs.Functions.{is_told_key}
use Rattle.bx_editor.specs.InputLines.{after_taking}
use Rattle.bx_editor.specs.Keys.{after_any, after_key, answered_overwrite, answered_question, as_left, ends_name, is_save, is_typed, overwrites}
use Rattle.bx_editor.specs.Keys.{refuses_replacing, saving_by}
use Rattle.bx_editor.specs.Putting.{is_paste, paste_ended}
use Rattle.bx_editor.specs.Region.{aged, soft_behind}
use Rattle.bx_editor.specs.Replay.{after_passed_answer, after_passed_save}
use Rattle.bx_editor.specs.RowMoves.{goal_behind}
use Rattle.bx_editor.specs.Saving.{Saving, after_confirming, after_deciding, after_save, asking_name, can_save, confirms, is_changed, is_nameless, own_saving}
use Rattle.bx_editor.specs.Saving.{saving_over, saving_under, takes_name, with_answered_name, without_answer}
use Rattle.bx_editor.specs.Search.{without_search}
use Rattle.bx_editor.proofs.InSearch.{any-key, save-ends}
use Rattle.bx_session.specs.Replaying.{after_passed}
use Rattle.bx_session.proofs.Ending.{Place, not_pasting, over, place_of, same_place, save_ahead, save_stores, saves_at, stores_alone}
use Rattle.bx_session.proofs.KeyKinds.{stores}
use Rattle.bx_session_laws.specs.Recovery.{finds_change}
use Rattle.bx_session_laws.proofs.Alike.{Work, work}
use Rattle.bx_session_laws.proofs.KeysAlike.{ended_alike}
use Rattle.bx_session_laws.proofs.Lasting.{Lasting, having, lasting}

-- ---- a key that is a letter where something is asked

pub record IsLetterKey (key : Key) (c : ℕ) : Type 0 where
  pub answer : answer_of key ≡ Letter c
  pub goal : (goal : Option Goal) → goal_behind key goal ≡ None
  pub soft : (soft : Soft) → soft_behind key soft ≡ aged soft
  pub clicks : (clicks : Option Clicks) → clicks_behind key clicks ≡ None
  pub pressed : (pressed : Option Pressed) → pressed_behind key pressed ≡ None
  pub told : is_told_key key ≡ false
  pub replaces : (e : Editor) → refuses_replacing e key ≡ false
  pub passed : (e : Editor) → after_passed prompts.File key e ≡ after_passed_answer e

inserted : (c : ℕ) → IsLetterKey (Insert c) c
inserted c = record {
  answer = refl;
  goal = λ goal. refl;
  soft = λ soft. refl;
  clicks = λ clicks. refl;
  pressed = λ pressed. refl;
  told = refl;
  replaces = λ e. refl;
  passed = λ e. refl;
}

new_line : IsLetterKey NewLine 0xA
new_line = record {
  answer = refl;
  goal = λ goal. refl;
  soft = λ soft. refl;
  clicks = λ clicks. refl;
  pressed = λ pressed. refl;
  told = refl;
  replaces = λ e. refl;
  passed = λ e. refl;
}

-- ---- the editor that a save finds, and what it leaves

-- a Save finds nothing asked or sought, once a paste has ended
abbrev pub at_save : Data → Editor → Editor
at_save d e = without_prompt (without_search (cleared (paste_ended d e)))

-- an answer that saves under a name, or overwrites
abbrev pub at_answer : Option StoreFault → Editor → Editor
at_answer fault e = let z = without_prompt (cleared e) in if takes_name z fault then with_answered_name z else without_answer z

abbrev pub at_decision : Editor → Editor
at_decision e = without_prompt (cleared e)

-- a key that stores the text, by its kind
pub data Stored (d : Data) (fault : Option StoreFault) (e : Editor) (key : Key) : Type 0 where
  BySave : key ≡ Save → can_save e ≡ true → (e.prompt ≡ prompts.Overwrite → ⊥) → after_key d fault e key ≡ as_left key (after_save (at_save d e) fault)
      → Stored d fault e key
  ByName : (c : ℕ) → IsLetterKey key c → e.pasted ≡ None → e.prompt ≡ prompts.File → ((length e.answer == 0) ≡ false)
      → after_key d fault e key ≡ as_left key (after_save (at_answer fault e) fault) → Stored d fault e key
  ByDecision : (c : ℕ) → IsLetterKey key c → e.pasted ≡ None → e.prompt ≡ prompts.Overwrite → can_save e ≡ true
      → after_key d fault e key ≡ as_left key (after_save (at_decision e) fault) → Stored d fault e key

-- ---- which it is

some_if : (b : Bool) (saving : Saving) → is_some (if b then Some saving else None) ≡ true → b ≡ true
some_if true saving h = refl
some_if false saving h = absurd (cc h)

writes : (reads nameless : Bool) → not (reads || nameless) ≡ true → (reads ≡ false) × (nameless ≡ false)
writes true nameless h = absurd (cc h)
writes false true h = absurd (cc h)
writes false false h = (refl, refl)

named : (nameless : Bool) (asks saves : Editor) → nameless ≡ false → (if nameless then asks else saves) ≡ saves
named true asks saves h = absurd (cc h)
named false asks saves h = refl

-- a Save

save_can : (e : Editor) (prompt : Prompt) → saves_at (place_of e) prompt ≡ true → (prompt ≡ prompts.Overwrite → ⊥) × (can_save e ≡ true)
save_can e prompts.Off h = (λ is. cc is, h)
save_can e prompts.Line h = (λ is. cc is, h)
save_can e prompts.Name h = (λ is. cc is, h)
save_can e prompts.Code h = (λ is. cc is, h)
save_can e prompts.File h = (λ is. cc is, h)
save_can e prompts.Overwrite h = absurd (cc h)

by_save : (d : Data) (fault : Option StoreFault) (e : Editor) → stores e Save ≡ true → Stored d fault e Save
by_save d fault e h =
    let x : Editor = paste_ended d e in
    let can = save_can e e.prompt (sym (save_stores e) ∙ h) in
    let may = writes e.read_only (is_nameless e) can.1 in
    let same : place_of x ≡ place_of e = same_place d e in
    let write : x.read_only ≡ false = ap (λ (at : Place). at.read_only) same ∙ may.0 in
    let name : is_nameless x ≡ false = ap (λ (at : Place). is_nameless (record e { name = at.name })) same ∙ may.1 in
    let asks : x.prompt ≡ prompts.Overwrite → ⊥ = λ is. can.0 (sym (ap (λ (at : Place). at.prompt) same) ∙ is) in
    BySave refl can.1 can.0
    (sym (save_ahead d fault e) ∙ save-ends d fault x (over d e) write asks
    ∙ ap (as_left Save) (named (is_nameless x) (asking_name (at_save d e)) (after_save (at_save d e) fault) name))

-- a letter

by_user : (d : Data) (fault : Option StoreFault) (e : Editor) (key : Key) (c : ℕ) (prompt : Prompt) → IsLetterKey key c → e.pasted ≡ None → e.prompt ≡ prompt
    → after_key d fault e key ≡ as_left key (after_any d fault (before e) prompt e.search_state (cleared e) key)
by_user d fault e key c prompt letter none is =
    let old = cleared e in
    any-key d fault e key none letter.told
    ∙ ap (λ b. as_left key (if b then by d fault (before e) old Refuses else after_any d fault (before e) e.prompt e.search_state old key)) (letter.replaces e)
    ∙ ap (λ p. as_left key (after_any d fault (before e) p e.search_state old key)) is

taken : (d : Data) (typing : Typing) (c : ℕ) (e new : Editor) → is_typed typing ≡ true → after_taking d typing c e new ≡ new
taken d typings.Paste c e new h = absurd (cc h)
taken d typings.Spent c e new h = absurd (cc h)
taken d typing c e new h = refl

split : (ends typed empty : Bool) → (ends && typed && not empty) ≡ true → (ends ≡ true) × (typed ≡ true) × (empty ≡ false)
split true true true h = absurd (cc h)
split true true false h = (refl, refl, refl)
split true false empty h = absurd (cc h)
split false typed empty h = absurd (cc h)

if_true : (b : Bool) (x y : Editor) → b ≡ true → (if b then x else y) ≡ x
if_true true x y h = refl
if_true false x y h = absurd (cc h)

by_name : (d : Data) (fault : Option StoreFault) (e : Editor) (key : Key) (c : ℕ) → IsLetterKey key c → e.pasted ≡ None → e.prompt ≡ prompts.File
    → ends_name e c ≡ true → Stored d fault e key
by_name d fault e key c letter none is h =
    let old = cleared e in
    let z = without_prompt old in
    let all = split (c == 0xA) (is_typed e.typing) (length e.answer == 0) h in
    let saved = after_save (at_answer fault e) fault in
    let answered : after_answer_letter d fault e.prompt old c ≡ saved =
    ap (λ p. after_answer_letter d fault p old c) is ∙ if_true (c == 0xA) _ _ all.0 ∙ named (length e.answer == 0) z saved all.2 in
    ByName c letter none is all.2
    (by_user d fault e key c prompts.File letter none is
    ∙ ap (λ one. as_left key (answered_question d fault (before e) old key one)) letter.answer
    ∙ ap (as_left key) (taken d e.typing c old (after_answer_letter d fault e.prompt old c) all.1)
    ∙ ap (as_left key) answered)

decided : (confirmed pasted can : Bool) → (confirmed && not pasted && can) ≡ true → (confirmed ≡ true) × (pasted ≡ false) × (can ≡ true)
decided true true can h = absurd (cc h)
decided true false true h = (refl, refl, refl)
decided true false false h = absurd (cc h)
decided false pasted can h = absurd (cc h)

by_decision : (d : Data) (fault : Option StoreFault) (e : Editor) (key : Key) (c : ℕ) → IsLetterKey key c → e.pasted ≡ None
    → e.prompt ≡ prompts.Overwrite → overwrites e c ≡ true → Stored d fault e key
by_decision d fault e key c letter none is h =
    let old = cleared e in
    let z = without_prompt old in
    let all = decided (confirms c) (is_paste e.typing) (can_save e) h in
    let may = writes e.read_only (is_nameless e) all.2 in
    let saved = after_save z fault in
    ByDecision c letter none is all.2
    (by_user d fault e key c prompts.Overwrite letter none is
    ∙ ap (λ one. as_left key (answered_overwrite fault (before e) old one)) letter.answer
    ∙ ap (as_left key)
    (named (is_paste e.typing) _ (after_deciding fault z c) all.1
    ∙ if_true (confirms c) (after_confirming fault z) z all.0
    ∙ named e.read_only _ _ may.0
    ∙ named (is_nameless e) (asking_name z) saved may.1))

-- a key that is no Save stores nothing where nothing is asked that it completes
unsaved : (save can : Bool) (saving : Saving) → save ≡ false → is_some (if save && can then Some saving else None) ≡ true → ⊥
unsaved true can saving other h = cc other
unsaved false can saving other h = cc h

-- by what is asked
by_prompt : (d : Data) (fault : Option StoreFault) (e : Editor) (key : Key) (c : ℕ) (prompt : Prompt) → IsLetterKey key c → is_save key ≡ false
    → e.pasted ≡ None → e.prompt ≡ prompt → is_some (saving_by e prompt key (Letter c)) ≡ true → Stored d fault e key
by_prompt d fault e key c prompts.Off letter other none is h = absurd (unsaved (is_save key) (can_save e) (own_saving e e.name) other h)
by_prompt d fault e key c prompts.Line letter other none is h = absurd (unsaved (is_save key) (can_save e) (own_saving e e.name) other h)
by_prompt d fault e key c prompts.Name letter other none is h = absurd (unsaved (is_save key) (can_save e) (own_saving e e.name) other h)
by_prompt d fault e key c prompts.Code letter other none is h = absurd (unsaved (is_save key) (can_save e) (own_saving e e.name) other h)
by_prompt d fault e key c prompts.File letter other none is h = by_name d fault e key c letter none is (some_if (ends_name e c) (saving_under e e.answer) h)
by_prompt d fault e key c prompts.Overwrite letter other none is h = by_decision d fault e key c letter none is (some_if (overwrites e c) (saving_over e) h)

-- no other key stores the text
abbrev is_letter : Answer → Bool
is_letter (Letter c) = true
is_letter one = false

file_stores : (e : Editor) (key : Key) (one : Answer) → is_letter one ≡ false → is_save key ≡ false → is_some (saving_by e prompts.File key one) ≡ true → ⊥
file_stores e key (Letter c) letter other h = cc letter
file_stores e key one letter other h = unsaved (is_save key) (can_save e) (own_saving e e.name) other h

overwrite_stores : (e : Editor) (key : Key) (one : Answer) → is_letter one ≡ false → is_some (saving_by e prompts.Overwrite key one) ≡ true → ⊥
overwrite_stores e key (Letter c) letter h = cc letter
overwrite_stores e key one letter h = cc h

other_stores : (e : Editor) (prompt : Prompt) (key : Key) (one : Answer) → is_letter one ≡ false → is_save key ≡ false
    → is_some (saving_by e prompt key one) ≡ true → ⊥
other_stores e prompts.Off key one letter other h = unsaved (is_save key) (can_save e) (own_saving e e.name) other h
other_stores e prompts.Line key one letter other h = unsaved (is_save key) (can_save e) (own_saving e e.name) other h
other_stores e prompts.Name key one letter other h = unsaved (is_save key) (can_save e) (own_saving e e.name) other h
other_stores e prompts.Code key one letter other h = unsaved (is_save key) (can_save e) (own_saving e e.name) other h
other_stores e prompts.File key one letter other h = file_stores e key one letter other h
other_stores e prompts.Overwrite key one letter other h = overwrite_stores e key one letter h

stores_here : (pasted : Bool) (saving : Option Saving) → is_some (if pasted then None else saving) ≡ true → is_some saving ≡ true
stores_here true saving h = absurd (cc h)
stores_here false saving h = h

pub stored_kind : (d : Data) (fault : Option StoreFault) (e : Editor) (key : Key) → stores e key ≡ true → Stored d fault e key
stored_kind d fault e Save h = by_save d fault e h
stored_kind d fault e (Insert c) h =
    by_prompt d fault e (Insert c) c e.prompt (inserted c) refl (stores_alone e (Insert c) refl h) refl
    (stores_here (is_some e.pasted && true) (saving_by e e.prompt (Insert c) (Letter c)) h)
stored_kind d fault e NewLine h =
    by_prompt d fault e NewLine 0xA e.prompt new_line refl (stores_alone e NewLine refl h) refl
    (stores_here (is_some e.pasted && true) (saving_by e e.prompt NewLine (Letter 0xA)) h)
stored_kind d fault e key h =
    absurd (other_stores e e.prompt key (answer_of key) refl refl
    (stores_here (is_some e.pasted && true) (saving_by e e.prompt key (answer_of key)) h))

-- ---- what lasts

-- a save that finds no change of the file leaves all that lasts
unchanged : (e : Editor) (found : Bool) → found ≡ false → lasting (if found then record e { prompt = prompts.Overwrite } else e) ≡ lasting e
unchanged e true h = absurd (cc h)
unchanged e false h = refl

save_lasts : (e : Editor) (fault : Option StoreFault) → finds_change fault ≡ false → lasting (after_save e fault) ≡ lasting e
save_lasts e None h = refl
save_lasts e (Some fault) h = unchanged e (is_changed fault.cause) h

-- what a key leaves that stored the text
abbrev pub settled : Lasting → Lasting
settled l = record l {
  typing = typings.Off;
  soft = aged l.soft;
  goal = None;
  clicks = None;
  pressed = None;
  search_state = Off;
  prompt = prompts.Off;
}

abbrev left_settled : Lasting → Lasting
left_settled l = record l { goal = None; soft = aged l.soft; clicks = None; pressed = None }

left_lasts : (key : Key) (c : ℕ) (e : Editor) → IsLetterKey key c → lasting (as_left key e) ≡ left_settled (lasting e)
left_lasts key c e letter =
    let l = lasting e in
    ap (λ (goal : Option Goal). record l { goal = goal; soft = soft_behind key e.soft; clicks = clicks_behind key e.clicks; pressed = pressed_behind key e.pressed })
    (letter.goal e.goal)
    ∙ ap (λ (soft : Soft). record l { goal = None; soft = soft; clicks = clicks_behind key e.clicks; pressed = pressed_behind key e.pressed }) (letter.soft e.soft)
    ∙ ap (λ (clicks : Option Clicks). record l { goal = None; soft = aged e.soft; clicks = clicks; pressed = pressed_behind key e.pressed }) (letter.clicks e.clicks)
    ∙ ap (λ (pressed : Option Pressed). record l { goal = None; soft = aged e.soft; clicks = None; pressed = pressed }) (letter.pressed e.pressed)

-- the name makes no difference
name_lasts : (b : Bool) (e : Editor) → lasting (if b then with_answered_name e else without_answer e) ≡ record (lasting e) { answer = [] }
name_lasts true e = refl
name_lasts false e = refl

pub passed_lasts : (e : Editor) → lasting (after_passed_save e) ≡ settled (lasting e)
passed_lasts e = refl

answer_passed : (e : Editor) → lasting (after_passed_answer e) ≡ settled (record (lasting e) { answer = [] })
answer_passed e = ap settled (name_lasts (is_some e.name && not e.home) e)

-- a session and its replay, where the same lasts once a paste has ended
pub passed_by_save : (prompt : Prompt) (e : Editor) → after_passed prompt Save e ≡ after_passed_save e
passed_by_save prompts.Off e = refl
passed_by_save prompts.Line e = refl
passed_by_save prompts.Name e = refl
passed_by_save prompts.Code e = refl
passed_by_save prompts.File e = refl
passed_by_save prompts.Overwrite e = refl

save_stored : (d : Data) (fault : Option StoreFault) (e f : Editor) → finds_change fault ≡ false
    → after_key d fault e Save ≡ as_left Save (after_save (at_save d e) fault)
    → let y : Editor = paste_ended d (having (lasting e) f) in lasting (after_key d fault e Save) ≡ lasting (after_passed y.prompt Save y)
save_stored d fault e f found is =
    let y : Editor = paste_ended d (having (lasting e) f) in
    ap lasting is
    ∙ ap left_settled (save_lasts (at_save d e) fault found)
    ∙ ap settled (ended_alike d e f).lasts
    ∙ sym (ap lasting (passed_by_save y.prompt y))

-- where no paste is under way
pub passed_here : (d : Data) (g : Editor) (key : Key) (prompt : Prompt) → g.pasted ≡ None → g.prompt ≡ prompt
    → let y : Editor = paste_ended d g in after_passed y.prompt key y ≡ after_passed prompt key g
passed_here d g key prompt none is =
    ap (λ (y : Editor). after_passed y.prompt key y) (not_pasting d g none) ∙ ap (λ p. after_passed p key g) is

pub stored_lasts : (d : Data) (fault : Option StoreFault) (e f : Editor) (key : Key) → finds_change fault ≡ false → Stored d fault e key
    → let y : Editor = paste_ended d (having (lasting e) f) in lasting (after_key d fault e key) ≡ lasting (after_passed y.prompt key y)
stored_lasts d fault e f key found (BySave saves can asks is) =
    let y : Editor = paste_ended d (having (lasting e) f) in
    subst (λ k. after_key d fault e k ≡ as_left k (after_save (at_save d e) fault) → lasting (after_key d fault e k) ≡ lasting (after_passed y.prompt k y))
    (sym saves) (save_stored d fault e f found) is
stored_lasts d fault e f key found (ByName c letter none asked answers is) =
    let g = having (lasting e) f in
    let z = without_prompt (cleared e) in
    ap lasting is
    ∙ left_lasts key c (after_save (at_answer fault e) fault) letter
    ∙ ap left_settled (save_lasts (at_answer fault e) fault found ∙ name_lasts (takes_name z fault) z)
    ∙ sym (answer_passed g)
    ∙ ap lasting (sym (letter.passed g))
    ∙ ap lasting (sym (passed_here d g key prompts.File none asked))
stored_lasts d fault e f key found (ByDecision c letter none asked can is) =
    let g = having (lasting e) f in
    ap lasting is
    ∙ left_lasts key c (after_save (at_decision e) fault) letter
    ∙ ap left_settled (save_lasts (at_decision e) fault found)
    ∙ ap lasting (sym (passed_here d g key prompts.Overwrite none asked))

-- ---- what edits and steps change, and where saves go

-- a save that succeeds stores the text, and later saves go there
abbrev pub saved_work : Option StoreFault → Work → Work
saved_work None w = record w { stored = Some (length w.content.past); changed = false; home = true }
saved_work (Some fault) w = w

unasked_work : (e : Editor) (found : Bool) → work (if found then record e { prompt = prompts.Overwrite } else e) ≡ work e
unasked_work e true = refl
unasked_work e false = refl

save_work : (e : Editor) (fault : Option StoreFault) → work (after_save e fault) ≡ saved_work fault (work e)
save_work e None = refl
save_work e (Some fault) = unasked_work e (is_changed fault.cause)

abbrev pub with_name : Option (List ℕ) → Work → Work
with_name name w = record w { name = name }

abbrev pub named_by : Bool → Editor → Option (List ℕ)
named_by takes e = if takes then Some e.answer else e.name

named_work : (takes : Bool) (e : Editor) → work (if takes then with_answered_name e else without_answer e) ≡ with_name (named_by takes e) (work e)
named_work true e = refl
named_work false e = refl

-- the name that a key leaves which stores the text
pub record LeavesName (fault : Option StoreFault) (w new : Work) : Type 0 where
  pub name : Option (List ℕ)
  pub is : new ≡ saved_work fault (with_name name w)

pub stored_work : (d : Data) (fault : Option StoreFault) (e : Editor) (key : Key) → Stored d fault e key
    → LeavesName fault (work (paste_ended d e)) (work (after_key d fault e key))
stored_work d fault e key (BySave saves can asks is) =
    record { name = (paste_ended d e).name; is = ap work is ∙ save_work (at_save d e) fault }
stored_work d fault e key (ByName c letter none asked answers is) =
    let z = without_prompt (cleared e) in
    let name = named_by (takes_name z fault) z in record {
      name = name;
      is = ap work is ∙ save_work (at_answer fault e) fault ∙ ap (saved_work fault) (named_work (takes_name z fault) z)
          ∙ ap (λ (x : Editor). saved_work fault (with_name name (work x))) (sym (not_pasting d e none));
    }
stored_work d fault e key (ByDecision c letter none asked can is) = record {
  name = (paste_ended d e).name;
  is = ap work is ∙ save_work (at_decision e) fault ∙ ap (λ (x : Editor). saved_work fault (work x)) (sym (not_pasting d e none));
}

-- a replay counts no text as stored
pub record PassesName (w new : Work) : Type 0 where
  pub name : Option (List ℕ)
  pub is : new ≡ record w { stored = None; name = name }

passed_answer : (takes : Bool) (e : Editor)
    → work (after_passed_save (if takes then with_answered_name e else without_answer e)) ≡ record (work e) { stored = None; name = named_by takes e }
passed_answer true e = refl
passed_answer false e = refl

pub passed_work : (prompt : Prompt) (key : Key) (e : Editor) → PassesName (work e) (work (after_passed prompt key e))
passed_work prompts.File Save e = record { name = e.name; is = refl }
passed_work prompts.File key e =
    let takes = is_some e.name && not e.home in record { name = named_by takes e; is = passed_answer takes e }
passed_work prompt key e = record { name = e.name; is = refl }

-- ---- a key stores the text in both, or in neither

is_by : (b : Bool) (saving : Saving) → is_some (if b then Some saving else None) ≡ b
is_by true saving = refl
is_by false saving = refl

unless_none : (b : Bool) (one other : Option Saving) → is_some one ≡ is_some other → is_some (if b then None else one) ≡ is_some (if b then None else other)
unless_none true one other h = refl
unless_none false one other h = h

module _ (e f : Editor) (names : is_nameless f ≡ is_nameless e) where
  abbrev g : Editor
  g = having (lasting e) f

  can_same : can_save g ≡ can_save e
  can_same = ap (λ b. not (e.read_only || b)) names

  save_same : (key : Key) → is_some (if is_save key && can_save g then Some (own_saving g g.name) else None)
      ≡ is_some (if is_save key && can_save e then Some (own_saving e e.name) else None)
  save_same key =
      is_by (is_save key && can_save g) (own_saving g g.name) ∙ ap (λ b. is_save key && b) can_same
      ∙ sym (is_by (is_save key && can_save e) (own_saving e e.name))

  file_same : (key : Key) (one : Answer) → is_some (saving_by g prompts.File key one) ≡ is_some (saving_by e prompts.File key one)
  file_same key (Letter c) = is_by (ends_name e c) (saving_under g e.answer) ∙ sym (is_by (ends_name e c) (saving_under e e.answer))
  file_same key one = save_same key

  overwrite_same : (key : Key) (one : Answer) → is_some (saving_by g prompts.Overwrite key one) ≡ is_some (saving_by e prompts.Overwrite key one)
  overwrite_same key (Letter c) =
      is_by (overwrites g c) (saving_over g) ∙ ap (λ b. confirms c && not (is_paste e.typing) && b) can_same ∙ sym (is_by (overwrites e c) (saving_over e))
  overwrite_same key one = refl

  same_by : (prompt : Prompt) (key : Key) (one : Answer) → is_some (saving_by g prompt key one) ≡ is_some (saving_by e prompt key one)
  same_by prompts.Off key one = save_same key
  same_by prompts.Line key one = save_same key
  same_by prompts.Name key one = save_same key
  same_by prompts.Code key one = save_same key
  same_by prompts.File key one = file_same key one
  same_by prompts.Overwrite key one = overwrite_same key one

pub stores_alike : (e f : Editor) (key : Key) → is_nameless f ≡ is_nameless e → stores (having (lasting e) f) key ≡ stores e key
stores_alike e f key names =
    let g = having (lasting e) f in
    unless_none (is_some e.pasted && not (is_save key)) (saving_by g e.prompt key (answer_of key)) (saving_by e e.prompt key (answer_of key))
    (same_by e f names e.prompt key (answer_of key))
