-- The key of a letter, under another layout, answers as the letter.
use Rattle.std.proofs.Common.{◌≡◌, ◌∙◌, ℕ, Bool, true, false, List, [], ◌∷◌, Option, Some, None, refl, sym, ap, ap₂, inl, inr, if◌then◌else◌}
use Rattle.std.specs.Prelude.{◌==◌, ◌&&◌, ◌||◌, not, is_some}
use Rattle.std.specs.List.{list_all}
use Rattle.std.proofs.lemmas.Bool.{and_parts, not-true, or_parts}
use Rattle.std.proofs.lemmas.Bool.Decides.{eqb_tells}
use Rattle.bx_keys.specs.declared.key.Key.TheVariants.{Insert}
use Rattle.bx_store.specs.declared.store.StoreFault.{StoreFault}
use Rattle.bx_ucd.specs.Data.{Data}
use Rattle.bx_editor.specs.declared.questions.answers.Prompt.TheVariants as prompts
use Rattle.bx_editor.specs.declared.undo_groups.typing.Typing.{Typing}
use Rattle.bx_editor.specs.declared.undo_groups.typing.Typing.TheVariants as typings
use Rattle.bx_editor.specs.Asking.{after_answer_letter, after_code, after_code_key, after_code_letter, after_name_key, after_name_letter, answer_lengthened, asking}
use Rattle.bx_editor.specs.Asking.{longest_code, without_prompt}
use Rattle.bx_editor.specs.Before.{before}
use Rattle.bx_editor.specs.Editor.{Editor, cleared, with_typing}
use Rattle.bx_editor.specs.InputLines.{after_taking}
use Rattle.bx_editor.specs.Keys.{after_any, after_key, as_left, is_typed}
use Rattle.bx_editor.specs.Putting.{is_paste}
use Rattle.bx_editor.specs.questions.KeyLetters.{arabic_keys, code_letter, hebrew_keys, key_letter, name_letter, or_letter, persian_keys}
use Rattle.bx_editor.specs.questions.Names.{asks_code, beside, coded, is_code_letter, named}
use Rattle.bx_editor_laws.specs.InputLaws.{KeysAreLetters}
use Rattle.bx_editor_laws.proofs.KeyEnds.{user-key}

-- ---- what holds of each pair of the tables holds of a key and its letter

here : (c : ℕ) (p : ℕ × ℕ) (pairs : List (ℕ × ℕ)) → (p.0 == c) ≡ true → beside c (p ∷ pairs) ≡ Some p.1
here c p pairs h = rw h refl

there : (c : ℕ) (p : ℕ × ℕ) (pairs : List (ℕ × ℕ)) → (p.0 == c) ≡ false → beside c (p ∷ pairs) ≡ beside c pairs
there c p pairs h = rw h refl

module _ (test : ℕ → ℕ → Bool) (c letter : ℕ) where
  one : (p : ℕ × ℕ) (pairs : List (ℕ × ℕ)) → test p.0 p.1 ≡ true → (beside c pairs ≡ Some letter → test c letter ≡ true)
      → beside c (p ∷ pairs) ≡ Some letter → test c letter ≡ true
  one p pairs first rest is = elim (eqb_tells p.0 c) as (λ _. test c letter ≡ true) [
    | inl same ↦
        let second : p.1 ≡ letter = cc (sym (here c p pairs same.0) ∙ is) in
        sym (ap₂ test same.1 second) ∙ first
    | inr other ↦ rest (sym (there c p pairs other.0) ∙ is)
  ]

  each : (pairs : List (ℕ × ℕ)) → list_all (λ p. test p.0 p.1) pairs ≡ true → beside c pairs ≡ Some letter → test c letter ≡ true
  each [] all is = absurd (cc is)
  each (p ∷ pairs) all is =
      let parts = and_parts (test p.0 p.1) (list_all (λ q. test q.0 q.1) pairs) all in
      one p pairs parts.0 (λ more. each pairs parts.1 more) is

  either-letter : (a b : Option ℕ) → or_letter a b ≡ Some letter → (a ≡ Some letter → test c letter ≡ true) → (b ≡ Some letter → test c letter ≡ true)
      → test c letter ≡ true
  either-letter None b is first second = second is
  either-letter (Some x) b is first second = first is

  of-tables : list_all (λ p. test p.0 p.1) hebrew_keys ≡ true → list_all (λ p. test p.0 p.1) arabic_keys ≡ true
      → list_all (λ p. test p.0 p.1) persian_keys ≡ true → key_letter c ≡ Some letter → test c letter ≡ true
  of-tables hebrew arabic persian is =
      either-letter (beside c hebrew_keys) (or_letter (beside c arabic_keys) (beside c persian_keys)) is (each hebrew_keys hebrew)
      (λ more. either-letter (beside c arabic_keys) (beside c persian_keys) more (each arabic_keys arabic) (each persian_keys persian))

-- ---- as the name of a character

-- a letter that names nothing, asks for no code and ends nothing
abbrev names_none : ℕ → Bool
names_none c = not (is_some (named (name_letter c)) || (asks_code (name_letter c) || (name_letter c == 0xA)))

abbrev same_name : ℕ → ℕ → Bool
same_name c letter = (name_letter c == name_letter letter) || (names_none c && names_none letter)

module _ (d : Data) (e : Editor) where
  nothing-by : (letter : ℕ) (names : Option ℕ) → is_some names ≡ false → asks_code letter ≡ false → (letter == 0xA) ≡ false
      → after_name_letter d e letter names ≡ e
  nothing-by letter None none asks end =
      ap (λ b. if b then asking e prompts.Code else (if letter == 0xA then without_prompt e else e)) asks
      ∙ ap (λ b. if b then without_prompt e else e) end
  nothing-by letter (Some x) none asks end = absurd (cc none)

  nothing : (c : ℕ) → names_none c ≡ true → after_name_key d e c ≡ e
  nothing c h =
      let l = name_letter c in
      let no = not-true (is_some (named l) || (asks_code l || (l == 0xA))) h in
      let parts = or_parts (is_some (named l)) (asks_code l || (l == 0xA)) no in
      let more = or_parts (asks_code l) (l == 0xA) parts.1 in
      nothing-by l (named l) parts.0 more.0 more.1

  name-by : (c letter : ℕ) → same_name c letter ≡ true → after_name_key d e c ≡ after_name_key d e letter
  name-by c letter h = elim (eqb_tells (name_letter c) (name_letter letter)) as (λ _. after_name_key d e c ≡ after_name_key d e letter) [
    | inl same ↦ ap (λ l. after_name_letter d e l (named l)) same.1
    | inr other ↦
        let both : (names_none c && names_none letter) ≡ true = sym (ap (λ b. b || (names_none c && names_none letter)) other.0) ∙ h in
        let parts = and_parts (names_none c) (names_none letter) both in
        nothing c parts.0 ∙ sym (nothing letter parts.1)
  ]

-- ---- as a digit of a code

abbrev is_no_digit : ℕ → Bool
is_no_digit c = not (is_code_letter (code_letter c) || (code_letter c == 0xA))

abbrev same_digit : ℕ → ℕ → Bool
same_digit c letter = (code_letter c == code_letter letter) || (is_no_digit c && is_no_digit letter)

module _ (d : Data) (e : Editor) where
  no-digit : (c : ℕ) → is_no_digit c ≡ true → after_code_key d e c ≡ e
  no-digit c h =
      let l = code_letter c in
      let parts = or_parts (is_code_letter l) (l == 0xA) (not-true (is_code_letter l || (l == 0xA)) h) in
      let more = answer_lengthened d longest_code e l in
      ap (λ b. if b then after_code d (without_prompt e) (coded e.answer) else (if is_code_letter l then more else e)) parts.1
      ∙ ap (λ b. if b then more else e) parts.0

  digit-by : (c letter : ℕ) → same_digit c letter ≡ true → after_code_key d e c ≡ after_code_key d e letter
  digit-by c letter h = elim (eqb_tells (code_letter c) (code_letter letter)) as (λ _. after_code_key d e c ≡ after_code_key d e letter) [
    | inl same ↦ ap (after_code_letter d e) same.1
    | inr other ↦
        let both : (is_no_digit c && is_no_digit letter) ≡ true = sym (ap (λ b. b || (is_no_digit c && is_no_digit letter)) other.0) ∙ h in
        let parts = and_parts (is_no_digit c) (is_no_digit letter) both in
        no-digit c parts.0 ∙ sym (no-digit letter parts.1)
  ]

-- ---- as a key

taken : (d : Data) (typing : Typing) (c : ℕ) (e new : Editor) → is_typed typing ≡ true → after_taking d typing c e new ≡ new
taken d typings.Off c e new is = refl
taken d typings.Word c e new is = refl
taken d typings.Blanks c e new is = refl
taken d typings.Erasing c e new is = refl
taken d typings.Deleting c e new is = refl
taken d typings.Paste c e new is = absurd (cc is)
taken d typings.Spent c e new is = absurd (cc is)

module _ (d : Data) (fault : Option StoreFault) (e : Editor) (settled : e.pasted ≡ None) where
  as-name : (c : ℕ) → e.prompt ≡ prompts.Name
      → after_key d fault e (Insert c)
      ≡ as_left (Insert c) (if is_paste e.typing then with_typing (cleared e) e.typing else after_name_key d (cleared e) c)
  as-name c asked =
      user-key d fault e (Insert c) settled refl refl
      ∙ ap (λ p. as_left (Insert c) (after_any d fault (before e) p e.search_state (cleared e) (Insert c))) asked

  as-digit : (c : ℕ) → e.prompt ≡ prompts.Code → is_typed e.typing ≡ true → after_key d fault e (Insert c) ≡ as_left (Insert c) (after_code_key d (cleared e) c)
  as-digit c asked typed =
      user-key d fault e (Insert c) settled refl refl
      ∙ ap (λ p. as_left (Insert c) (after_any d fault (before e) p e.search_state (cleared e) (Insert c))) asked
      ∙ ap (as_left (Insert c)) (taken d e.typing c (cleared e) (after_answer_letter d fault e.prompt (cleared e) c) typed)
      ∙ ap (λ p. as_left (Insert c) (after_answer_letter d fault p (cleared e) c)) asked

pub keys-are-letters : KeysAreLetters
keys-are-letters d fault e c letter is settled typed = record {
  name = λ asked.
      as-name d fault e settled c asked
      ∙ ap (λ new. as_left (Insert c) (if is_paste e.typing then with_typing (cleared e) e.typing else new))
      (name-by d (cleared e) c letter (of-tables same_name c letter refl refl refl is))
      ∙ sym (as-name d fault e settled letter asked);
  code = λ asked.
      as-digit d fault e settled c asked typed
      ∙ ap (as_left (Insert c)) (digit-by d (cleared e) c letter (of-tables same_digit c letter refl refl refl is))
      ∙ sym (as-digit d fault e settled letter asked typed);
}
