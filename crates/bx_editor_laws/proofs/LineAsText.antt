-- The line of a prompt is edited as a text of one line is.
use Rattle.std.proofs.Common.{◌≡◌, ◌≢◌, ◌∙◌, ℕ, ◌+◌, ◌<◌, ◌≤◌, ◌==◌, Bool, true, false, List, [], ◌++◌, length, take, drop, chars, encode_utf8}
use Rattle.std.proofs.Common.{Option, Some, None, refl, sym, ap, ap₂, subst, append-nil, arith, ne_eqb, if◌then◌else◌}
use Rattle.std.specs.Prelude.{◌&&◌, nat_lt}
use Rattle.std.proofs.lemmas.Bool.Decides.{nat_tests}
use Rattle.bx_keys.specs.declared.key.Key.{Key}
use Rattle.bx_keys.specs.declared.key.Key.TheVariants.{Insert, Erase, ErasePoint, Delete, EraseWord, DeleteWord}
use Rattle.bx_store.specs.declared.store.StoreFault.{StoreFault}
use Rattle.bx_ucd.specs.Data.{Data}
use Rattle.bx_document.specs.InputLine.{line_rows}
use Rattle.bx_view.specs.Moves.{place_from}
use Rattle.bx_editor.specs.declared.answer.Answer.{Answer}
use Rattle.bx_editor.specs.declared.answer.Answer.TheVariants as answers
use Rattle.bx_editor.specs.declared.input_line.Erasure.{Erasure}
use Rattle.bx_editor.specs.declared.input_line.Erasure.TheVariants as erasures
use Rattle.bx_editor.specs.Answering.{answer_of}
use Rattle.bx_editor.specs.Asking.{is_of_last}
use Rattle.bx_editor.specs.Before.{before}
use Rattle.bx_editor.specs.Editor.{Editor}
use Rattle.bx_editor.specs.InputLines.{erases_nothing, input_line_of, is_taken, line_edited, line_moved, line_shortened, line_with}
use Rattle.bx_editor.specs.Keys.{after_key}
use Rattle.bx_editor.specs.LineState.{LineState}
use Rattle.bx_editor_laws.specs.LineTextLaws.{InputLineIsText, IsEditedAs, IsEditedAsText, ShowsLine, TypesAsText, goes_in_as, is_line_erasure, is_line_move, is_line_removal}
use Rattle.bx_editor_laws.specs.LineTextLaws.{last_start, most_characters, text_of, typed_over, without_last}
use Rattle.bx_editor_laws.proofs.KeyEnds.{user-key}
use Rattle.bx_editor_laws.proofs.LineEdits.{Shows, accepts, moves, not-told, removes, types}
use Rattle.bx_editor_laws.proofs.LinePutTyped.{put-is-typed}
use Rattle.bx_editor_laws.proofs.TextEdits.{IsText, text-moves, text-removes, text-types}

-- ---- keys that an input line has are pressed by the user, and not refused

-- an answer that edits a line
abbrev edits : Answer → Bool
edits (answers.Letter c) = true
edits (answers.Erases how) = true
edits (answers.Moves m) = true
edits _ = false

no-end : (a : Answer) → edits a ≡ true → a ≡ answers.Ends → ⊥
no-end a is same = let no : true ≡ false = sym is ∙ ap edits same in cc no

no-replace : (a : Answer) → edits a ≡ true → a ≡ answers.Replaces → ⊥
no-replace a is same = let no : true ≡ false = sym is ∙ ap edits same in cc no

-- ---- the line behind a key, as that of the text

-- a line that shows what a text has
as-text : (l : LineState) (x new : Editor) → IsText l x → Shows l new → IsEditedAs new x
as-text l x new is h = record { line_is = h.line_is ∙ ap Some (sym is.text_is); cursor_is = h.cursor_is ∙ sym is.place_is }

removal-some : (key : Key) (how : Erasure) → is_line_removal key ≡ true → answer_of key ≡ answers.Erases how → is_of_last how ≡ false
removal-some Delete how is same = let e : erasures.Unit ≡ how = cc same in ap is_of_last (sym e)
removal-some EraseWord how is same = let e : erasures.WordBack ≡ how = cc same in ap is_of_last (sym e)
removal-some DeleteWord how is same = let e : erasures.WordOn ≡ how = cc same in ap is_of_last (sym e)
removal-some _ how is same = absurd (cc is)

erasure-is : (key : Key) → is_line_erasure key ≡ true → answer_of key ≡ answers.Erases erasures.LastCharacter
erasure-is Erase is = refl
erasure-is ErasePoint is = refl
erasure-is _ is = absurd (cc is)

module _ (d : Data) (fault : Option StoreFault) (e : Editor) (line : List ℕ) (shown : input_line_of e ≡ Some line) (settled : e.pasted ≡ None) where
  abbrev l : LineState
  l = line_with line e.input_cursor

  moves-as : (key : Key) → is_line_move key ≡ true → IsEditedAs (after_key d fault e key) (after_key d None (text_of l) key)
  moves-as key is =
      let text = text-moves d key is in
      let some : edits (answer_of key) ≡ true = ap edits text.1 in
      let ends = no-end (answer_of key) some in
      let replaces = no-replace (answer_of key) some in
      let own : IsText (line_with line (line_moved d text.0 l)) (after_key d None (text_of l) key) =
      record { text_is = text.2 l; place_is = text.3 l } in
      as-text (line_with line (line_moved d text.0 l)) (after_key d None (text_of l) key) (after_key d fault e key) own
      (subst (ShowsLine line (line_moved d text.0 l)) (sym (user-key d fault e key settled (not-told key ends) (accepts e key replaces)))
      (moves d fault e (before e) key text.0 text.1 e.prompt e.search_state line shown))

  removes-as : (key : Key) → is_line_removal key ≡ true → IsEditedAs (after_key d fault e key) (after_key d None (text_of l) key)
  removes-as key is =
      let text = text-removes d l key is in
      let how = text.0 in
      let some : edits (answer_of key) ≡ true = ap edits text.1 in
      let ends = no-end (answer_of key) some in
      let replaces = no-replace (answer_of key) some in
      let rest : LineState = if erases_nothing d how l then l else line_shortened d how l in
      let few : (is_of_last how && (length line == 0)) ≡ false = ap (λ b. b && (length line == 0)) (removal-some key how is text.1) in
      as-text rest (after_key d None (text_of l) key) (after_key d fault e key) text.2
      (subst (Shows rest) (sym (user-key d fault e key settled (not-told key ends) (accepts e key replaces)))
      (removes d fault e (before e) key how text.1 e.prompt e.search_state line shown few))

  erases-last : (key : Key) → is_line_erasure key ≡ true → 0 < length line → last_start l ≢ e.input_cursor
      → ShowsLine (without_last d l).text (without_last d l).cursor (after_key d fault e key)
  erases-last key is more apart =
      let how = erasures.LastCharacter in
      let answer = erasure-is key is in
      let some : edits (answer_of key) ≡ true = ap edits answer in
      let ends = no-end (answer_of key) some in
      let replaces = no-replace (answer_of key) some in
      let rest : Bool → LineState = λ nothing. if nothing then l else line_shortened d how l in
      let erases : erases_nothing d how l ≡ false = ne_eqb (last_start l) e.input_cursor apart in
      let there : (length line == 0) ≡ false = ne_eqb (length line) 0 (λ none. omega (arith, none, more)) in
      let few : (is_of_last how && (length line == 0)) ≡ false = there in
      let text : (line_shortened d how l).text ≡ (without_last d l).text = ap (λ xs. xs ++ drop e.input_cursor line) (append-nil (take (last_start l) line)) in
      let end : last_start l + length {A = ℕ} [] ≡ last_start l = omega arith in
      let cursor : (line_shortened d how l).cursor ≡ (without_last d l).cursor = ap₂ (λ t n. place_from (line_rows d t) n) text end in
      let own : Shows (rest false) (after_key d fault e key) =
      subst (λ b. Shows (rest b) (after_key d fault e key)) erases
      (subst (Shows (rest (erases_nothing d how l))) (sym (user-key d fault e key settled (not-told key ends) (accepts e key replaces)))
      (removes d fault e (before e) key how answer e.prompt e.search_state line shown few)) in
      record { line_is = own.line_is ∙ ap Some text; cursor_is = own.cursor_is ∙ cursor }

  module _ (c letter : ℕ) (goes : goes_in_as d e.prompt c ≡ Some letter) (taken : is_taken d e.typing c ≡ true) where
    abbrev into : LineState
    into = typed_over e.prompt e.search_state l

    abbrev most : ℕ
    most = most_characters e.prompt

    abbrev grown : Bool → LineState
    grown room = if room then line_edited d into into.cursor into.cursor (encode_utf8 letter) else into

    abbrev room : Bool
    room = nat_lt (length (chars into.text)) most

    typed-shows : Shows (grown room) (after_key d fault e (Insert c))
    typed-shows =
        subst (Shows (grown room)) (sym (user-key d fault e (Insert c) settled refl refl))
        (types d fault e (before e) c letter taken e.prompt e.search_state line shown goes)

    types-as : TypesAsText d into most letter (after_key d fault e (Insert c))
    types-as = record {
      fits = λ few small.
          let yes : room ≡ true = has few in
          as-text (grown true) (after_key d None (text_of into) (Insert letter)) (after_key d fault e (Insert c)) (text-types d into letter small)
          (subst (λ b. Shows (grown b) (after_key d fault e (Insert c))) yes typed-shows);
      full = λ many.
          let no : room ≡ false = lacks many in subst (λ b. Shows (grown b) (after_key d fault e (Insert c))) no typed-shows;
    }
      where
        has : length (chars into.text) < most → room ≡ true
        has few = go (length (chars into.text)) most few
          where
            go : (a b : ℕ) → a < b → nat_lt a b ≡ true
            go a b h = grind (arith, nat_tests)

        lacks : most ≤ length (chars into.text) → room ≡ false
        lacks many = go (length (chars into.text)) most many
          where
            go : (a b : ℕ) → b ≤ a → nat_lt a b ≡ false
            go a b h = grind (arith, nat_tests)

  is-edited : IsEditedAsText d fault e line
  is-edited = record { moves = moves-as; removes = removes-as; erases = erases-last; types = types-as; puts = put-is-typed d fault e line shown settled }

pub input-line-is-text : InputLineIsText
input-line-is-text d fault e line shown settled = is-edited d fault e line shown settled
