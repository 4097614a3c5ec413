-- A letter puts its character in, or wraps the region.
use Rattle.std.proofs.Common.{◌≡◌, ℕ, ◌+◌, ◌-◌, ◌<◌, ◌≤◌, Bool, true, false, [], ◌∷◌, ◌++◌, length, take, drop, append_assoc, refl, sym, ap, subst, ◌∙◌, arith, inl, inr, if◌then◌else◌}
use Rattle.std.specs.Prelude.{◌⊎◌, ◌==◌, ◌||◌, encode_utf8, is_some, nat_le, slice_range, Option, Some, None}
use Rattle.std.proofs.lemmas.Bool.Decides.{nat_tests}
use Rattle.bx_common.specs.Characters.{largest_text}
use Rattle.bx_editor.specs.questions.KeyLetters.{answers_name, key_letter, letter_or, name_letter}
use Rattle.bx_editor.specs.questions.Names.{asks_code, closing, named}
use Rattle.bx_keys.specs.declared.key.Key.TheVariants.{Insert, Name}
use Rattle.bx_editor.specs.undo_groups.Groups.{after_insertion, kind_of}
use Rattle.bx_text.specs.Edits.{fits_both}
use Rattle.bx_ucd.specs.Data.{Data}
use Rattle.bx_document.specs.Swapped.{wrapped_end, wrapped_text}
use Rattle.bx_document.proofs.PlacesKept.{wrapped_is}
use Rattle.bx_editor.specs.declared.message.Message.{Message}
use Rattle.bx_editor.specs.declared.message.Message.TheVariants.{MoreThanOneLine, TextFull}
use Rattle.bx_editor.specs.Asking.{after_name_letter, after_named, with_character, without_prompt, after_wrapping, cursor_end, spans_lines}
use Rattle.bx_editor.specs.Asking.{with_wrap}
use Rattle.bx_editor_laws.specs.AskingLaws.{CanAsk, IsPutIn, IsRefusedWith, IsWrapped, LetterPutsIn, LetterWraps, WrapsRegion, wrapped_region}
use Rattle.bx_editor.specs.Editor.{Editor, cleared, place_after, with_insertion, with_typing}
use Rattle.bx_editor.specs.Keys.{after_key, as_left}
use Rattle.bx_editor.specs.Functions.{after_keys}
use Rattle.bx_editor_laws.specs.Laws.{IsPart}
use Rattle.bx_editor.specs.Region.{is_empty, region}
use Rattle.bx_editor.proofs.InSearch.{any-key}
use Rattle.bx_editor_laws.proofs.AskingKeys.{asked_name, name-is}

-- ---- Name and a letter

-- what the letter finds
abbrev asked : Editor → Editor
asked e = without_prompt (cleared (asked_name e))

pub is-itself : (letter : ℕ) → answers_name letter ≡ true → name_letter letter ≡ letter
is-itself letter answers = ap (λ b. if b then letter else letter_or answers_name letter (key_letter letter)) answers

letter-is : (d : Data) (e : Editor) (letter c : ℕ) → CanAsk e → named letter ≡ Some c
    → after_keys d None e (Name ∷ Insert letter ∷ []) ≡ as_left (Insert letter) (after_named d (asked e) c (closing letter))
letter-is d e letter c can is =
    let x = cleared (asked_name e) in
    let answers : answers_name letter ≡ true = ap (λ o. is_some o || asks_code letter) is in
    ap (λ new. after_key d None new (Insert letter)) (name-is d e can.settled can.undecided can.writes)
    ∙ any-key d None (asked_name e) (Insert letter) can.settled refl
    ∙ ap (λ n. as_left (Insert letter) (after_name_letter d x n (named n))) (is-itself letter answers)
    ∙ ap (λ n. as_left (Insert letter) (after_name_letter d x letter n)) is

-- ---- a character is put in

first-of : (b : Bool) (p q : Editor) → b ≡ true → (if b then p else q) ≡ p
first-of b p q is = ap (λ x. if x then p else q) is

character-alone : (d : Data) (e : Editor) (c : ℕ) (closer : Option ℕ) → (closer ≡ None) ⊎ (is_empty (region e) ≡ true)
    → after_named d e c closer ≡ with_character d e c
character-alone d e c None alone = refl
character-alone d e c (Some closer) (inl none) = absurd (cc none)
character-alone d e c (Some closer) (inr empty) = first-of (is_empty (region e)) (with_character d e c) (after_wrapping d e c closer) empty

room-for : (size place new limit : ℕ) → size + new ≤ limit → nat_le (size - (place - place) + new) limit ≡ true
room-for size place new limit few = grind (arith, nat_tests, few)

pub character-in : (d : Data) (e : Editor) (c : ℕ) → length e.content.text + length (encode_utf8 c) ≤ largest_text
    → with_character d e c ≡ with_typing (with_insertion d e (encode_utf8 c) false) (after_insertion (kind_of (d.class c)))
character-in d e c few =
    let bytes = encode_utf8 c in
    ap (λ b. if b then with_typing (with_insertion d e bytes false) (after_insertion (kind_of (d.class c))) else record e { message = Some TextFull })
    (room-for (length e.content.text) e.place (length bytes) largest_text few)

pub letter-puts-in : LetterPutsIn
letter-puts-in d e letter c can is alone few =
    let at = asked e in
    let whole = letter-is d e letter c can is ∙ ap (as_left (Insert letter)) (character-alone d at c (closing letter) alone ∙ character-in d at c few) in
    subst (IsPutIn d e (encode_utf8 c)) (sym whole) (record { text_is = refl; place_is = refl; prompt_is = refl })

-- ---- a region is wrapped

apart : (a b : ℕ) → a < b → (a == b) ≡ false
apart a b less = grind (arith, nat_tests, less)

wraps-alone : (d : Data) (e : Editor) (opener closer : ℕ) (o : Option ℕ) → o ≡ Some closer → IsPart e (region e)
    → after_named d e opener o ≡ after_wrapping d e opener closer
wraps-alone d e opener closer o is part =
    ap (after_named d e opener) is
    ∙ ap (λ b. if b then with_character d e opener else after_wrapping d e opener closer) (apart (region e).0 (region e).1 part.some)

room-both : (size front back limit : ℕ) → size + front + back ≤ limit → nat_le (size + front + back) limit ≡ true
room-both size front back limit few = grind (arith, nat_tests, few)

no-room : (size limit : ℕ) → limit < size → nat_le size limit ≡ false
no-room size limit many = grind (arith, nat_tests, many)

text-is : (e : Editor) (opener closer : ℕ) → IsPart e (region e)
    → wrapped_text e.content.text (region e).0 (region e).1 (encode_utf8 opener) (encode_utf8 closer) ≡ wrapped_region e opener closer
text-is e opener closer part =
    let text = e.content.text in
    let start = (region e).0 in
    let stop = (region e).1 in
    let front = encode_utf8 opener in
    let back = encode_utf8 closer in
    let inside = slice_range text start stop in
    let order : start ≤ stop = omega (arith, part.some) in
    sym (wrapped_is text start stop front back order part.inside)
    ∙ ap (λ xs. xs ++ drop stop text) (sym (append_assoc (take start text) (front ++ inside) back) ∙ ap (λ xs. xs ++ back) (sym (append_assoc (take start text) front inside)))

module _ (d : Data) (e : Editor) (letter opener closer : ℕ) (can : CanAsk e) (is : named letter ≡ Some opener) (ends : closing letter ≡ Some closer)
    (part : IsPart e (region e)) where
  abbrev at : Editor
  at = asked e

  abbrev wrap : Editor
  wrap = with_wrap d at (encode_utf8 opener) (encode_utf8 closer)

  abbrev full : Editor
  full = record at { message = Some TextFull }

  abbrev room : Bool
  room = fits_both e.content.text (encode_utf8 opener) (encode_utf8 closer)

  abbrev size : ℕ
  size = length e.content.text + length (encode_utf8 opener) + length (encode_utf8 closer)

  -- by whether it has more than one line
  wraps-by : (lines : Bool) → spans_lines d e ≡ lines
      → after_keys d None e (Name ∷ Insert letter ∷ []) ≡ as_left (Insert letter) (if lines then record at { message = Some MoreThanOneLine } else (if room then wrap else full))
  wraps-by lines h =
      letter-is d e letter opener can is
      ∙ ap (as_left (Insert letter)) (wraps-alone d at opener closer (closing letter) ends (record { some = part.some; inside = part.inside })
      ∙ ap (λ b. if b then record at { message = Some MoreThanOneLine } else (if room then wrap else full)) h)

  refused-with : (message : Message) → IsRefusedWith message e (as_left (Insert letter) (record at { message = Some message }))
  refused-with message =
      record { untouched = record { content_is = refl; place_is = refl; held_is = refl; mark_is = λ h. refl }; message_is = refl; prompt_is = refl }

  wrapped-in : IsWrapped d e opener closer (as_left (Insert letter) wrap)
  wrapped-in =
      let same = text-is e opener closer part in
      record {
        text_is = same;
        place_is = ap (λ t. place_after d e t (wrapped_end (cursor_end e) (region e).0 (region e).1 (encode_utf8 opener))) same;
        mark_is = refl;
        prompt_is = refl;
      }

  wraps : WrapsRegion d e opener closer (after_keys d None e (Name ∷ Insert letter ∷ []))
  wraps = record {
    fits = λ one few.
        let has : room ≡ true = room-both (length e.content.text) (length (encode_utf8 opener)) (length (encode_utf8 closer)) largest_text few in
        subst (IsWrapped d e opener closer) (sym (wraps-by false one ∙ ap (λ b. as_left (Insert letter) (if b then wrap else full)) has)) wrapped-in;
    lines = λ more. subst (IsRefusedWith MoreThanOneLine e) (sym (wraps-by true more)) (refused-with MoreThanOneLine);
    full = λ one many.
        let none : room ≡ false = no-room size largest_text many in
        subst (IsRefusedWith TextFull e) (sym (wraps-by false one ∙ ap (λ b. as_left (Insert letter) (if b then wrap else full)) none)) (refused-with TextFull);
  }

pub letter-wraps : LetterWraps
letter-wraps d e letter opener closer can is ends part = wraps d e letter opener closer can is ends part
