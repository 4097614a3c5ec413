-- Laws of the keys that erase words. A stop is where a word begins, or where a body, a paragraph without its separator, begins (for
-- EraseWord) or ends (for DeleteWord). `d`, `e` and `new` are as in Laws.antt.
use Rattle.std.specs.Prelude.{◌≡◌, ℕ, ◌<◌, ◌≤◌, false, ◌++◌, length, take, drop, None, IsUtf8}
use Rattle.bx_keys.specs.declared.key.Key.TheVariants.{DeleteWord, EraseWord, Undo}
use Rattle.bx_ucd.specs.Data.{Data}
use Rattle.bx_editor.specs.declared.questions.answers.Prompt.TheVariants as prompts
use Rattle.bx_view.specs.declared.moves.Logical.TheVariants.{Back, Forward}
use Rattle.bx_view.specs.Laws.{IsGreatestBefore, IsLeastBehind}
use Rattle.bx_view.specs.Words.{text_stops}
use Rattle.bx_editor.specs.declared.search_state.SearchState.TheVariants.{Off}
use Rattle.bx_editor.specs.Editor.{Editor, place_after}
use Rattle.bx_editor.specs.Keys.{after_key}
use Rattle.bx_editor.specs.Region.{is_selection}
use Rattle.bx_editor_laws.specs.RunLaws.{IsBackBefore}

-- outside a search, a question and a paste, without a selection, and where the text is not only looked at; it is UTF-8, as in every
-- editor of the code
pub record IsPlain (e : Editor) : Type 0 where
  pub text : IsUtf8 e.content.text
  pub unasked : e.prompt ≡ prompts.Off
  pub unsought : e.search_state ≡ Off
  pub settled : e.pasted ≡ None
  pub writes : e.read_only ≡ false
  pub unselected : is_selection e ≡ false

-- The bytes from one offset to another are gone, and no others. The cursor is at the first place at or after the seam, no mark is
-- set, and one Undo takes this back.
pub record Erases (d : Data) (e : Editor) (start stop : ℕ) (new : Editor) : Type 0 where
  pub text_is : new.content.text ≡ take start e.content.text ++ drop stop e.content.text
  pub place_is : new.place ≡ place_after d e new.content.text start
  pub mark_is : new.mark ≡ None
  pub comes_back : IsBackBefore e (after_key d None new Undo)

-- the text, with what can be undone and redone, and the place stay
pub record ErasesNothing (e new : Editor) : Type 0 where
  pub content_is : new.content ≡ e.content
  pub place_is : new.place ≡ e.place

-- EraseWord erases from the last stop before the place to the place; at the text's start it erases nothing
pub record ErasesWordBefore (d : Data) (e new : Editor) : Type 0 where
  pub word : 0 < e.place → (stop : ℕ) × IsGreatestBefore (text_stops d Back e.content.text) e.place stop × Erases d e stop e.place new
  pub at_start : e.place ≡ 0 → ErasesNothing e new

-- DeleteWord erases from the place to the first stop after it; at the text's end it erases nothing
pub record ErasesWordBehind (d : Data) (e new : Editor) : Type 0 where
  pub word : e.place < length e.content.text
      → (stop : ℕ) × IsLeastBehind (text_stops d Forward e.content.text) e.place stop × Erases d e e.place stop new
  pub at_end : length e.content.text ≤ e.place → ErasesNothing e new

-- both keys erase so
pub record WordKeysErase : Type 0 where
  pub before : (d : Data) (e : Editor) → IsPlain e → ErasesWordBefore d e (after_key d None e EraseWord)
  pub behind : (d : Data) (e : Editor) → IsPlain e → ErasesWordBehind d e (after_key d None e DeleteWord)
