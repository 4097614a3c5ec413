-- What the same keys make of a text of one line.
use Rattle.std.proofs.Common.{◌≡◌, ℕ, ◌+◌, ◌-◌, ◌≤◌, ◌==◌, Bool, true, false, [], length, Some, None, refl, ap, subst, arith, encode_utf8, if◌then◌else◌}
use Rattle.std.specs.Prelude.{nat_le}
use Rattle.std.proofs.lemmas.Bool.{eqb-true}
use Rattle.std.proofs.lemmas.Bool.Decides.{nat_tests}
use Rattle.bx_common.specs.Characters.{largest_text}
use Rattle.bx_keys.specs.declared.key.Key.{Key}
use Rattle.bx_keys.specs.declared.key.Key.TheVariants.{Insert, Delete, EraseWord, DeleteWord, Back, Forward, Left, Right}
use Rattle.bx_keys.specs.declared.key.Key.TheVariants.{WordLeft, WordRight, RowHome, RowEnd}
use Rattle.bx_text.specs.Edits.{fits}
use Rattle.bx_ucd.specs.Data.{Data}
use Rattle.bx_document.specs.InputLine.{line_rows}
use Rattle.bx_view.specs.Moves.{place_from}
use Rattle.bx_view.specs.declared.moves.Move.{Move}
use Rattle.bx_editor.specs.declared.answer.Answer.TheVariants as answers
use Rattle.bx_editor.specs.declared.input_line.Erasure.{Erasure}
use Rattle.bx_editor.specs.declared.input_line.Erasure.TheVariants as erasures
use Rattle.bx_editor.specs.declared.message.Message.TheVariants.{TextFull}
use Rattle.bx_editor.specs.declared.undo_groups.typing.Kind.{Kind}
use Rattle.bx_editor.specs.declared.undo_groups.typing.Removal.TheVariants as removals
use Rattle.bx_editor.specs.declared.undo_groups.typing.Typing.{Typing}
use Rattle.bx_editor.specs.declared.undo_groups.typing.Typing.TheVariants as typings
use Rattle.bx_editor.specs.Answering.{answer_of}
use Rattle.bx_editor.specs.Editor.{Editor, cleared, with_insertion, with_removal}
use Rattle.bx_editor.specs.InputLines.{erased_part, erases_nothing, line_edited, line_moved, line_shortened}
use Rattle.bx_editor.specs.Keys.{after_key, as_left}
use Rattle.bx_editor.specs.LineState.{LineState}
use Rattle.bx_editor.specs.Putting.{after_tab, only_paste, typed}
use Rattle.bx_editor.specs.undo_groups.Groups.{after_insertion, after_removal, goes_on, goes_on_removing, kind_of}
use Rattle.bx_editor_laws.specs.LineTextLaws.{is_line_move, is_line_removal, text_of}

-- the text, and the cursor in it
pub record IsText (l : LineState) (x : Editor) : Type 0 where
  pub text_is : x.content.text ≡ l.text
  pub place_is : x.place ≡ l.cursor

-- ---- moves

-- a key that moves in a line, with the place to which it leads in the text
pub text-moves : (d : Data) (key : Key) → is_line_move key ≡ true → (m : Move) × (answer_of key ≡ answers.Moves m)
    × ((l : LineState) → (after_key d None (text_of l) key).content.text ≡ l.text)
    × ((l : LineState) → (after_key d None (text_of l) key).place ≡ line_moved d m l)
text-moves d Back is = (_, refl, (λ l. refl), (λ l. refl))
text-moves d Forward is = (_, refl, (λ l. refl), (λ l. refl))
text-moves d Left is = (_, refl, (λ l. refl), (λ l. refl))
text-moves d Right is = (_, refl, (λ l. refl), (λ l. refl))
text-moves d WordLeft is = (_, refl, (λ l. refl), (λ l. refl))
text-moves d WordRight is = (_, refl, (λ l. refl), (λ l. refl))
text-moves d RowHome is = (_, refl, (λ l. refl), (λ l. refl))
text-moves d RowEnd is = (_, refl, (λ l. refl), (λ l. refl))
text-moves d _ is = absurd (cc is)

-- ---- removals

module _ (d : Data) (l : LineState) where
  abbrev x : Editor
  x = cleared (text_of l)

  abbrev erased : Erasure → Bool → LineState
  erased how nothing = if nothing then l else line_shortened d how l

  no-more : (n : ℕ) → n ≡ n + length {A = ℕ} []
  no-more n = omega arith

  delete-by : (nothing : Bool) → let part = erased_part d erasures.Unit l in
      IsText (erased erasures.Unit nothing)
      (as_left Delete (if nothing then x else record (with_removal d x part.0 part.1 (goes_on_removing typings.Off removals.Delete)) { typing = after_removal removals.Delete }))
  delete-by true = record { text_is = refl; place_is = refl }
  delete-by false = let part = erased_part d erasures.Unit l in record {
    text_is = refl;
    place_is = ap (place_from (line_rows d (line_shortened d erasures.Unit l).text)) (no-more part.0);
  }

  word-by : (key : Key) (how : Erasure) (nothing : Bool) → let part = erased_part d how l in
      IsText (erased how nothing) (as_left key (if nothing then x else with_removal d x part.0 part.1 false))
  word-by key how true = record { text_is = refl; place_is = refl }
  word-by key how false = let part = erased_part d how l in record {
    text_is = refl;
    place_is = ap (place_from (line_rows d (line_shortened d how l).text)) (no-more part.0);
  }

  abbrev Removes : Key → Type 0
  Removes key = (how : Erasure) × (answer_of key ≡ answers.Erases how) × IsText (erased how (erases_nothing d how l)) (after_key d None (text_of l) key)

  pub text-removes : (key : Key) → is_line_removal key ≡ true → Removes key
  text-removes Delete is = (erasures.Unit, refl, delete-by (erases_nothing d erasures.Unit l))
  text-removes EraseWord is = (erasures.WordBack, refl, word-by EraseWord erasures.WordBack (erases_nothing d erasures.WordBack l))
  text-removes DeleteWord is = (erasures.WordOn, refl, word-by DeleteWord erasures.WordOn (erases_nothing d erasures.WordOn l))
  text-removes _ is = absurd (cc is)

  -- ---- a character

  module _ (c : ℕ) (room : length l.text + length (encode_utf8 c) ≤ largest_text) where
    fits-there : fits l.text l.cursor l.cursor (encode_utf8 c) ≡ true
    fits-there = go (length l.text) l.cursor (length (encode_utf8 c)) room
      where
        go : (size at new : ℕ) → size + new ≤ largest_text → nat_le (size - (at - at) + new) largest_text ≡ true
        go size at new few = grind (arith, nat_tests, few)

    abbrev grown : LineState
    grown = line_edited d l l.cursor l.cursor (encode_utf8 c)

    put-by : (kind : Kind) (after : Bool → Typing) (fit : Bool) → fit ≡ true
        → IsText grown (as_left (Insert c) (record (if fit
        then with_insertion d x (encode_utf8 c) (goes_on typings.Off kind)
        else record x { message = Some TextFull }) { typing = after fit }))
    put-by kind after true so = record { text_is = refl; place_is = refl }
    put-by kind after false so = absurd (cc so)

    typed-is : (kind : Kind) → IsText grown (as_left (Insert c) (typed d typings.Off x (encode_utf8 c) kind))
    typed-is kind = put-by kind (λ b. if b then after_insertion kind else only_paste typings.Off) (fits l.text l.cursor l.cursor (encode_utf8 c)) fits-there

    -- a tab is a tab in that text
    letter-by : (tab : Bool) → (c == 0x9) ≡ tab
        → IsText grown (as_left (Insert c) (if tab then after_tab d typings.Off x else typed d typings.Off x (encode_utf8 c) (kind_of (d.class c))))
    letter-by true is =
        subst (λ t. IsText grown (as_left (Insert c) (typed d typings.Off x (encode_utf8 t) (kind_of (d.class t))))) (eqb-true c 0x9 is)
        (typed-is (kind_of (d.class c)))
    letter-by false is = typed-is (kind_of (d.class c))

    pub text-types : IsText grown (after_key d None (text_of l) (Insert c))
    text-types = letter-by (c == 0x9) refl
