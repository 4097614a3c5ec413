-- A key that stores the text leaves the number of its edits.
use Rattle.std.proofs.Common.{◌≡◌, ◌∙◌, ℕ, Bool, true, false, List, length, refl, sym, ap, subst, if◌then◌else◌}
use Rattle.std.specs.Prelude.{◌&&◌, ◌||◌, ◌==◌, not, Option, Some, None, is_some}
use Rattle.bx_keys.specs.declared.key.Key.{Key}
use Rattle.bx_keys.specs.declared.key.Key.TheVariants.{Insert, NewLine, Save}
use Rattle.bx_ucd.specs.Data.{Data}
use Rattle.bx_editor.specs.declared.answer.Answer.TheVariants as answers
use Rattle.bx_editor.specs.declared.message.Message.TheVariants as messages
use Rattle.bx_editor.specs.declared.questions.answers.Prompt.{Prompt}
use Rattle.bx_editor.specs.declared.questions.answers.Prompt.TheVariants as prompts
use Rattle.bx_editor.specs.declared.search_state.SearchState.{SearchState}
use Rattle.bx_editor.specs.declared.search_state.SearchState.TheVariants.{Off, Begun, Typed, WithBegun, WithTyped, Replacing}
use Rattle.bx_editor.specs.declared.undo_groups.typing.Typing.{Typing}
use Rattle.bx_editor.specs.declared.undo_groups.typing.Typing.TheVariants as typings
use Rattle.bx_editor.specs.Answering.{answer_of}
use Rattle.bx_editor.specs.Asking.{after_answer_letter, answer_lengthened, without_prompt}
use Rattle.bx_editor.specs.Before.{Before, before}
use Rattle.bx_editor.specs.Editor.{Editor, cleared, with_typing}
use Rattle.bx_editor.specs.Effects.{Refuses, Saves, by}
use Rattle.bx_editor.specs.InputLines.{after_taking, is_no_letter}
use Rattle.bx_editor.specs.Keys.{after_any, after_key, after_press, answered_overwrite, answered_question, ends_name, ends_paste, is_save, is_typed}
use Rattle.bx_editor.specs.Keys.{overwrites, saving_by, saving_of}
use Rattle.bx_editor.specs.Putting.{is_paste, paste_ended}
use Rattle.bx_editor.specs.Saving.{Saving, after_save, asking_name, can_save, confirms, is_nameless, longest_name, own_saving, saving_over}
use Rattle.bx_editor.specs.Saving.{saving_under, takes_name, with_answered_name, without_answer}
use Rattle.bx_editor.specs.Search.{without_search}
use Rattle.bx_editor_laws.specs.RunLaws.{saving_editor}
use Rattle.bx_editor_laws.specs.StoredLaws.{stores}
use Rattle.bx_editor_laws.proofs.PasteEnded.{ends-first, over}
use Rattle.bx_editor_laws.proofs.StoredKeys.{is-some-if, saving-settled}

abbrev pub IsStored : Editor → Type 0
IsStored e = e.stored ≡ Some (length e.content.past)

-- ---- a save

saved : (e : Editor) (nameless : Bool) → not nameless ≡ true → IsStored (if nameless then asking_name e else after_save e None)
saved e true is = absurd (cc is)
saved e false is = refl

named : (e : Editor) (takes : Bool) → IsStored (after_save (if takes then with_answered_name e else without_answer e) None)
named e true = refl
named e false = refl

pressed : (d : Data) (was : Before) (e : Editor) (reads : Bool) → not (reads || is_nameless e) ≡ true → IsStored (by d None was e (if reads then Refuses else Saves))
pressed d was e true is = absurd (cc is)
pressed d was e false is = saved e (is_nameless e) is

-- ---- a name that is answered

-- by the answer's end, and by whether it is empty
abbrev file_letter : Data → Editor → ℕ → Bool → Bool → Editor
file_letter d e c end empty =
    let x = without_prompt e in
    if end
    then (if empty then x else after_save (if takes_name x None then with_answered_name x else without_answer x) None)
    else (if is_no_letter d c then e else answer_lengthened d longest_name e c)

typed-name : (d : Data) (e : Editor) (c : ℕ) (end empty : Bool) → (end && true && not empty) ≡ true → IsStored (file_letter d e c end empty)
typed-name d e c true true is = absurd (cc is)
typed-name d e c true false is = named (without_prompt e) (takes_name (without_prompt e) None)
typed-name d e c false true is = absurd (cc is)
typed-name d e c false false is = absurd (cc is)

no-name : (end empty : Bool) → (end && false && not empty) ≡ true → ⊥
no-name true true is = cc (sym is)
no-name true false is = cc (sym is)
no-name false true is = cc (sym is)
no-name false false is = cc (sym is)

file : (d : Data) (typing : Typing) (e : Editor) (c : ℕ) → ((c == 0xA) && is_typed typing && not (length e.answer == 0)) ≡ true
    → IsStored (after_taking d typing c e (after_answer_letter d None prompts.File e c))
file d typings.Off e c is = typed-name d e c (c == 0xA) (length e.answer == 0) is
file d typings.Word e c is = typed-name d e c (c == 0xA) (length e.answer == 0) is
file d typings.Blanks e c is = typed-name d e c (c == 0xA) (length e.answer == 0) is
file d typings.Erasing e c is = typed-name d e c (c == 0xA) (length e.answer == 0) is
file d typings.Deleting e c is = typed-name d e c (c == 0xA) (length e.answer == 0) is
file d typings.Paste e c is = absurd (no-name (c == 0xA) (length e.answer == 0) is)
file d typings.Spent e c is = absurd (no-name (c == 0xA) (length e.answer == 0) is)

-- ---- overwriting that is confirmed

decided : (e : Editor) (typing : Typing) (pasted confirmed reads nameless : Bool) → (confirmed && not pasted && not (reads || nameless)) ≡ true
    → let x = without_prompt e in
    IsStored (
    if pasted
    then with_typing e typing
    else (if confirmed then (if reads then record x { message = Some messages.ViewOnly } else (if nameless then asking_name x else after_save x None)) else x)
    )
decided e typing false true false false is = refl
decided e typing true true reads nameless is = absurd (cc is)
decided e typing true false reads nameless is = absurd (cc is)
decided e typing false false reads nameless is = absurd (cc is)
decided e typing false true true nameless is = absurd (cc is)
decided e typing false true false true is = absurd (cc is)

-- ---- the keys

at-some : (b : Bool) (saving : Saving) → is_some (if b then Some saving else None) ≡ true → b ≡ true
at-some b saving is = sym (is-some-if b saving) ∙ is

-- ---- keys that store nothing

own-none : (x : Editor) (key : Key) → is_save key ≡ false → is_some (if is_save key && can_save x then Some (own_saving x x.name) else None) ≡ true → ⊥
own-none x key plain is =
    let both : (is_save key && can_save x) ≡ true = at-some (is_save key && can_save x) (own_saving x x.name) is in
    let never : false ≡ true = sym (ap (λ b. b && can_save x) plain) ∙ both in
    cc never

-- neither Save nor a character
abbrev stores_none : Key → Bool
stores_none Save = false
stores_none (Insert c) = false
stores_none NewLine = false
stores_none _ = true

none-by : (x : Editor) (key : Key) (prompt : Prompt) → stores_none key ≡ true → is_some (saving_by x prompt key (answer_of key)) ≡ true → ⊥
none-by x Save prompt plain is = cc plain
none-by x (Insert c) prompt plain is = cc plain
none-by x NewLine prompt plain is = cc plain
none-by x _ prompts.Off plain is = cc is
none-by x _ prompts.Line plain is = cc is
none-by x _ prompts.Name plain is = cc is
none-by x _ prompts.Code plain is = cc is
none-by x _ prompts.File plain is = cc is
none-by x _ prompts.Overwrite plain is = cc is

-- `x` is the editor as the key finds it
module _ (d : Data) (x : Editor) where
  abbrev e : Editor
  e = cleared x

  save-by : (prompt : Prompt) (search_state : SearchState) → is_some (saving_by x prompt Save answers.Ends) ≡ true
      → IsStored (after_any d None (before x) prompt search_state e Save)
  save-by prompts.Off Off is = pressed d (before x) e e.read_only (at-some (can_save x) (own_saving x x.name) is)
  save-by prompts.Off Begun is = pressed d (before x) (without_search e) e.read_only (at-some (can_save x) (own_saving x x.name) is)
  save-by prompts.Off Typed is = pressed d (before x) (without_search e) e.read_only (at-some (can_save x) (own_saving x x.name) is)
  save-by prompts.Off WithBegun is = pressed d (before x) (without_search e) e.read_only (at-some (can_save x) (own_saving x x.name) is)
  save-by prompts.Off WithTyped is = pressed d (before x) (without_search e) e.read_only (at-some (can_save x) (own_saving x x.name) is)
  save-by prompts.Off Replacing is = pressed d (before x) (without_search e) e.read_only (at-some (can_save x) (own_saving x x.name) is)
  save-by prompts.Line search_state is = pressed d (before x) (without_prompt e) e.read_only (at-some (can_save x) (own_saving x x.name) is)
  save-by prompts.Name search_state is = pressed d (before x) (without_prompt e) e.read_only (at-some (can_save x) (own_saving x x.name) is)
  save-by prompts.Code search_state is = pressed d (before x) (without_prompt e) e.read_only (at-some (can_save x) (own_saving x x.name) is)
  save-by prompts.File search_state is = pressed d (before x) (without_prompt e) e.read_only (at-some (can_save x) (own_saving x x.name) is)
  save-by prompts.Overwrite search_state is = absurd (cc is)

  -- a character that answers
  letter-by : (key : Key) (c : ℕ) → answer_of key ≡ answers.Letter c → is_save key ≡ false → (prompt : Prompt) (search_state : SearchState) → e.prompt ≡ prompt
      → is_some (saving_by x prompt key (answers.Letter c)) ≡ true → IsStored (after_any d None (before x) prompt search_state e key)
  letter-by key c means plain prompts.File search_state asked is =
      subst (λ a. IsStored (answered_question d None (before x) e key a)) (sym means)
      (subst (λ p. IsStored (after_taking d x.typing c e (after_answer_letter d None p e c))) (sym asked)
      (file d x.typing e c (at-some (ends_name x c) (saving_under x x.answer) is)))
  letter-by key c means plain prompts.Overwrite search_state asked is =
      subst (λ a. IsStored (answered_overwrite None (before x) e a)) (sym means)
      (decided e x.typing (is_paste x.typing) (confirms c) e.read_only (is_nameless e) (at-some (overwrites x c) (saving_over x) is))
  letter-by key c means plain prompts.Off search_state asked is = absurd (own-none x key plain is)
  letter-by key c means plain prompts.Line search_state asked is = absurd (own-none x key plain is)
  letter-by key c means plain prompts.Name search_state asked is = absurd (own-none x key plain is)
  letter-by key c means plain prompts.Code search_state asked is = absurd (own-none x key plain is)

  -- a key that finds no paste under way
  settled : x.pasted ≡ None → (key : Key) → is_some (saving_by x x.prompt key (answer_of key)) ≡ true → IsStored (after_key d None x key)
  settled free Save is = subst (λ p. IsStored (after_press d None p x Save)) (sym free) (save-by x.prompt x.search_state is)
  settled free (Insert c) is =
      subst (λ p. IsStored (after_press d None p x (Insert c))) (sym free) (letter-by (Insert c) c refl refl x.prompt x.search_state refl is)
  settled free NewLine is = subst (λ p. IsStored (after_press d None p x NewLine)) (sym free) (letter-by NewLine 0xA refl refl x.prompt x.search_state refl is)
  settled free key is = absurd (none-by x key x.prompt refl is)

and-true : (b : Bool) → (b && true) ≡ true → b ≡ true
and-true true is = refl
and-true false is = absurd (cc is)

module _ (d : Data) (e : Editor) where
  finds : (x : Editor) → x.pasted ≡ None → (key : Key) → (is_some (saving_of x key) && true) ≡ true → is_some (saving_by x x.prompt key (answer_of key)) ≡ true
  finds x free key is = sym (ap is_some (saving-settled x key free)) ∙ and-true (is_some (saving_of x key)) is

  -- one that ends a paste first
  behind : (key : Key) → ends_paste key ≡ true → (is_some (saving_of (paste_ended d e) key) && true) ≡ true → IsStored (after_key d None e key)
  behind key ends is =
      subst IsStored (sym (ends-first d None e key ends))
      (settled d (paste_ended d e) (over d e) key (finds (paste_ended d e) (over d e) key is))

  typed-by : (c : ℕ) (pasted : Option (List ℕ)) → e.pasted ≡ pasted → (is_some (saving_of e (Insert c)) && true) ≡ true → IsStored (after_key d None e (Insert c))
  typed-by c None free is = settled d e free (Insert c) (finds e free (Insert c) is)
  typed-by c (Some list) under is =
      let never : false ≡ true = ap (λ p. is_some (if is_some p && true then None else saving_by e e.prompt (Insert c) (answers.Letter c)) && true) (sym under) ∙ is in
      absurd (cc never)

  other-by : (x : Editor) (key : Key) (pasted : Bool) → stores_none key ≡ true
      → (is_some (if pasted then None else saving_by x x.prompt key (answer_of key)) && true) ≡ true → ⊥
  other-by x key true plain is = cc is
  other-by x key false plain is = none-by x key x.prompt plain (and-true (is_some (saving_by x x.prompt key (answer_of key))) is)

  other : (key : Key) → stores_none key ≡ true → stores d e (key, None) ≡ true → ⊥
  other key plain is = let x = saving_editor d e key in other-by x key (is_some x.pasted && not (is_save key)) plain is

  pub key-stores : (key : Key) → stores d e (key, None) ≡ true → IsStored (after_key d None e key)
  key-stores Save is = behind Save refl is
  key-stores NewLine is = behind NewLine refl is
  key-stores (Insert c) is = typed-by c e.pasted refl is
  key-stores key is = absurd (other key refl is)
