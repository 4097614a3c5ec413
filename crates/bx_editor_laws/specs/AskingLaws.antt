-- Laws of questions and their answers, of what an answer puts in, and of what is told of a unit. `d`, `e` and `new` are as in
-- Laws.antt; `ucd`, too, is the data of Unicode's tables.
use Rattle.std.specs.Prelude.{◌≡◌, ◌≢◌, ◌⊎◌, ℕ, ◌+◌, ◌==◌, ◌||◌, ◌<◌, ◌≤◌, Bool, true, false, List, [], ◌∷◌, ◌++◌, length, map, take, drop, count_by}
use Rattle.std.specs.Prelude.{chars, codes, decimal, encode_utf8, Option, Some, None, All, IsUtf8, if◌then◌else◌}
use Rattle.std.specs.List.{concat}
use Rattle.std.specs.Char.{IsScalar}
use Rattle.bx_common.specs.Characters.{are_ascii_printable, largest_text}
use Rattle.bx_common.specs.Glyphs.{is_one_glyph, run_width}
use Rattle.bx_common.specs.declared.base.Base.{Base}
use Rattle.bx_ucd.specs.Data.{Data}
use Rattle.bx_ucd.specs.Class.{is_initiator}
use Rattle.bx_ucd.specs.declared.class.Class.{Class}
use Rattle.bx_ucd.specs.declared.class.Class.TheVariants.{LRE, LRO, RLE, RLO, LRI, RLI, FSI, PDI}
use Rattle.bx_levels.specs.embedding.ParagraphLevel.{before_pdi, match_of}
use Rattle.bx_levels.specs.resolve.Laws.{class_at, entry_at, level_at}
use Rattle.bx_levels.specs.resolve.Levels.{levels_under, paragraph_level_under}
use Rattle.bx_levels.specs.resolve.Kept.{is_kept}
use Rattle.unicode_segmentation.specs.Grapheme.{graphemes}
use Rattle.bx_editor.specs.declared.questions.answers.Prompt.TheVariants.{Off, Overwrite}
use Rattle.bx_editor.specs.questions.Names.{coded, asks_code, closing, named}
use Rattle.bx_editor.specs.questions.Told.{character_text, others_text}
use Rattle.bx_keys.specs.declared.key.Key.{Key}
use Rattle.bx_keys.specs.declared.key.Key.TheVariants.{Insert, NewLine, Erase, ErasePoint, Delete, Put, Undo, GoTo, Name, Tell}
use Rattle.bx_store.specs.declared.store.StoreFault.{StoreFault}
use Rattle.bx_text.specs.Changes.{IsRange}
use Rattle.bx_rows.specs.RowPicture.{Glyph, letter_glyphs}
use Rattle.bx_view.specs.Places.{IsTextPlace}
use Rattle.bx_view.specs.Numbers.{body_at, count, paragraph_at, start_at}
use Rattle.bx_document.specs.Swapped.{wrapped_end}
use Rattle.bx_document.specs.UnitLevels.{IsFirstLevel}
use Rattle.bx_editor.specs.declared.message.Message.{Message}
use Rattle.bx_editor.specs.declared.message.Message.TheVariants.{MoreThanOneLine, TextFull}
use Rattle.bx_editor.specs.declared.cursor.Soft.TheVariants as softness
use Rattle.bx_editor.specs.Answers.{IsAnswer}
use Rattle.bx_editor.specs.Asking.{after_going, longest_code, with_answer, without_prompt, cursor_end, spans_lines}
use Rattle.bx_editor.specs.Editor.{Editor, at_start, place_after}
use Rattle.bx_editor.specs.Functions.{HasRows, after_keys}
use Rattle.bx_editor.specs.InputLines.{input_line_of, line_at_end}
use Rattle.bx_editor.specs.Keys.{after_key}
use Rattle.bx_editor_laws.specs.Laws.{after_typing, IsPart}
use Rattle.bx_editor.specs.Region.{bytes_in, is_empty, region, aged}
use Rattle.bx_editor_laws.specs.RunLaws.{IsBackBefore}
use Rattle.bx_editor.specs.Status.{message_part, paragraph_number, prompt_text, row_text, status_line, status_text, typed_glyphs, unit_number, told_at_place}

-- ---- a question changes nothing but itself

-- a key that types a character into the answer
abbrev pub types : Key → Bool
types (Insert c) = true
types NewLine = true
types _ = false

-- a key that erases a character of the answer
abbrev pub erases : Key → Bool
erases Erase = true
erases ErasePoint = true
erases Delete = true
erases _ = false

-- a question is on, and one stays on while these keys are typed
abbrev pub StaysAsked : Data → Editor → List (Key × Option StoreFault) → Type 0
StaysAsked d e [] = e.prompt ≢ Off
StaysAsked d e (key ∷ typed) = (e.prompt ≢ Off) × StaysAsked d (after_key d key.1 e key.0) typed

-- text with its past and future, place and held text are as in `e`, and so is a mark that no selection set
pub record IsUntouched (e new : Editor) : Type 0 where
  pub content_is : new.content ≡ e.content
  pub place_is : new.place ≡ e.place
  pub held_is : new.held ≡ e.held
  pub mark_is : e.soft ≡ softness.Off → new.mark ≡ e.mark

-- A key that types into the answer or erases in it changes question and answer alone, if a question is on before and after it, and not
-- the one whether to overwrite; the message, an earlier Quit, a kept column and what was pressed are gone. Whatever is typed while a
-- question is on leaves all else untouched.
pub record ChangesItself (d : Data) (e : Editor) : Type 0 where
  pub key : (key : Key) (fault : Option StoreFault) → (types key || erases key) ≡ true → let new = after_key d fault e key in
      e.prompt ≢ Overwrite → new.prompt ≢ Off → new.prompt ≢ Overwrite
      → new ≡ record e {
        prompt = new.prompt;
        answer = new.answer;
        input_cursor = new.input_cursor;
        message = None;
        quit_before = false;
        typing = new.typing;
        goal = None;
        soft = aged e.soft;
        clicks = None;
        pressed = None;
      }
  pub keys : (typed : List (Key × Option StoreFault)) → StaysAsked d e typed → IsUntouched e (after_typing d e typed)

abbrev pub QuestionsChangeThemselves : Type 0
QuestionsChangeThemselves = (d : Data) (e : Editor) → e.prompt ≢ Off → e.pasted ≡ None → ChangesItself d e

-- ---- going to the line that is told

-- the numbers of the place, as the status row tells them
abbrev pub told_numbers : Data → Editor → List ℕ
told_numbers d e = decimal (paragraph_number d e.content.text e.place + 1) ++ (codes ":" ++ decimal (unit_number d e.content.text e.place))

-- a key that ends a line
abbrev pub is_enter : Key → Bool
is_enter (Insert c) = c == 0xA
is_enter NewLine = true
is_enter _ = false

-- the text is UTF-8 and within its limit, and the place is one of its places, as in every editor of the code
pub record HasTextPlace (d : Data) (e : Editor) : Type 0 where
  pub text : IsUtf8 e.content.text
  pub size : length e.content.text ≤ largest_text
  pub place : IsTextPlace d e.content.text e.place

-- The status row tells these numbers. They are an answer that leads to the place where the cursor is already, and one that is short
-- enough to be typed, where no paste is under way and the question is not whether to overwrite.
pub record LeadsToItself (d : Data) (e : Editor) : Type 0 where
  pub told : status_text d e ≡ (if e.changed then codes "* " else codes "- ") ++ (told_numbers d e ++ message_part (told_at_place d e) e.message)
  pub answered : let asked = with_answer e (line_at_end (told_numbers d e)) in after_going d asked ≡ without_prompt asked
  pub typed : e.pasted ≡ None → e.prompt ≢ Overwrite → (enter : Key) → is_enter enter ≡ true
      → let new = after_keys d None e (GoTo ∷ (map Insert (told_numbers d e) ++ enter ∷ [])) in IsUntouched e new × (new.prompt ≡ Off)

abbrev pub ToldNumbersLeadBack : Type 0
ToldNumbersLeadBack = (d : Data) (e : Editor) → HasTextPlace d e → LeadsToItself d e

-- ---- what an answer puts in

-- Where Name was pressed outside a paste, one Undo takes back all that the answer put in, whatever was typed before it while
-- the question was on.
abbrev pub AnswerIsARun : Type 0
AnswerIsARun =
    (d : Data) (e : Editor) (typed : List (Key × Option StoreFault)) (key : Key) → e.pasted ≡ None → let asked = after_key d None e Name in
    StaysAsked d asked typed → types key ≡ true
    → let answered = after_typing d asked typed in length e.content.past < length (after_key d None answered key).content.past
    → IsBackBefore e (after_keys d None answered (key ∷ Undo ∷ []))

-- no paste is under way, the question is not whether to overwrite, and the text is not only looked at
pub record CanAsk (e : Editor) : Type 0 where
  pub settled : e.pasted ≡ None
  pub undecided : e.prompt ≢ Overwrite
  pub writes : e.read_only ≡ false

-- the bytes stand at the place, and the cursor at the first place at or after their end
pub record IsPutIn (d : Data) (e : Editor) (bytes : List ℕ) (new : Editor) : Type 0 where
  pub text_is : new.content.text ≡ take e.place e.content.text ++ bytes ++ drop e.place e.content.text
  pub place_is : new.place ≡ place_after d e new.content.text (e.place + length bytes)
  pub prompt_is : new.prompt ≡ Off

-- Outside a paste, where the text is not only looked at and the question is not whether to overwrite, Name and a letter put the letter's
-- character in, if there is room; but where the character begins what another one ends, only without a region.
abbrev pub LetterPutsIn : Type 0
LetterPutsIn =
    (d : Data) (e : Editor) (letter c : ℕ) → CanAsk e → named letter ≡ Some c → ((closing letter ≡ None) ⊎ (is_empty (region e) ≡ true))
    → length e.content.text + length (encode_utf8 c) ≤ largest_text → IsPutIn d e (encode_utf8 c) (after_keys d None e (Name ∷ Insert letter ∷ []))

-- there Name, a letter that asks for a code, its digits and the end of a line put the code's character in, if there is room
abbrev pub CodePutsIn : Type 0
CodePutsIn =
    (d : Data) (e : Editor) (letter : ℕ) (code : List ℕ) (c : ℕ) (enter : Key) → CanAsk e → asks_code letter ≡ true → coded code ≡ Some c
    → length code ≤ longest_code → is_enter enter ≡ true → length e.content.text + length (encode_utf8 c) ≤ largest_text
    → IsPutIn d e (encode_utf8 c) (after_keys d None e (Name ∷ Insert letter ∷ (map Insert code ++ enter ∷ [])))

-- ---- a region that is wrapped

-- the text with the opener at the region's start and the closer at its end
abbrev pub wrapped_region : Editor → ℕ → ℕ → List ℕ
wrapped_region e opener closer =
    take (region e).0 e.content.text ++ encode_utf8 opener ++ bytes_in e (region e) ++ encode_utf8 closer ++ drop (region e).1 e.content.text

-- The region stands between both characters, and no other byte has changed. The cursor is at the region's end at which it
-- was, and no mark is set.
pub record IsWrapped (d : Data) (e : Editor) (opener closer : ℕ) (new : Editor) : Type 0 where
  pub text_is : new.content.text ≡ wrapped_region e opener closer
  pub place_is : new.place ≡ place_after d e (wrapped_region e opener closer) (wrapped_end (cursor_end e) (region e).0 (region e).1 (encode_utf8 opener))
  pub mark_is : new.mark ≡ None
  pub prompt_is : new.prompt ≡ Off

-- text, place, held text and mark stay, with a message
pub record IsRefusedWith (message : Message) (e new : Editor) : Type 0 where
  pub untouched : IsUntouched e new
  pub message_is : new.message ≡ Some message
  pub prompt_is : new.prompt ≡ Off

-- a region in one line is wrapped if there is room; otherwise a message tells why it is not
pub record WrapsRegion (d : Data) (e : Editor) (opener closer : ℕ) (new : Editor) : Type 0 where
  pub fits : spans_lines d e ≡ false → length e.content.text + length (encode_utf8 opener) + length (encode_utf8 closer) ≤ largest_text
      → IsWrapped d e opener closer new
  pub lines : spans_lines d e ≡ true → IsRefusedWith MoreThanOneLine e new
  pub full : spans_lines d e ≡ false → largest_text < length e.content.text + length (encode_utf8 opener) + length (encode_utf8 closer)
      → IsRefusedWith TextFull e new

-- there Name and the letter of a character that begins what another one ends wrap the region
abbrev pub LetterWraps : Type 0
LetterWraps =
    (d : Data) (e : Editor) (letter opener closer : ℕ) → CanAsk e → named letter ≡ Some opener → closing letter ≡ Some closer → IsPart e (region e)
    → WrapsRegion d e opener closer (after_keys d None e (Name ∷ Insert letter ∷ []))

-- the classes of characters that begin a level (X2 to X5c)
abbrev pub begins_level : Class → Bool
begins_level LRE = true
begins_level LRO = true
begins_level RLE = true
begins_level RLO = true
begins_level LRI = true
begins_level RLI = true
begins_level FSI = true
begins_level _ = false

-- there is a level, and it is above `low`
abbrev pub IsAbove : ℕ → Option ℕ → Type 0
IsAbove low None = ⊥
IsAbove low (Some level) = low < level

-- the explicit level (X1 to X8) at which character `i`, from 0, of a paragraph's characters stands
abbrev pub embedding_at : Data → Base → List ℕ → ℕ → ℕ
embedding_at ucd base chars i = (entry_at (paragraph_level_under ucd base chars) (map ucd.class chars) i).level

-- In a paragraph, the characters between an initiator and its match (BD9) have levels above the one at which the initiator
-- stands, if at most 61 characters before it begin a level: each adds 2 at most to a paragraph level of 1 at most, so the
-- isolate's level is at most 125 (BD2's max_depth). X9 leaves some of the characters without a level.
abbrev pub IsolatesRaise : Type 0
IsolatesRaise =
    (ucd : Data) (base : Base) (front inside back : List ℕ) (opener : ℕ) → let chars = front ++ opener ∷ (inside ++ back) in
    match_of (map ucd.class chars) (length front) ≡ Some (length front + 1 + length inside)
    → count_by begins_level (map ucd.class front) ≤ 61
    → (i : ℕ) → i < length inside → is_kept (class_at ucd inside i) ≡ true
    → IsAbove (embedding_at ucd base chars (length front)) (level_at ucd base chars (length front + 1 + i))

-- the characters of the region
abbrev pub region_chars : Editor → List ℕ
region_chars e = chars (bytes_in e (region e))

-- a PDI right after these characters is the match (BD9) of an initiator right before them
abbrev pub IsWhole : Data → List ℕ → Type 0
IsWhole ucd cs = before_pdi 1 (map ucd.class cs ++ PDI ∷ []) ≡ Some (length cs)

-- The region has both characters around it in its paragraph `number`, from 0, where `front` and `back` are the characters before
-- and after it; no other paragraph has changed. So the characters of the region have levels above the one at which the opener
-- stands.
pub record Isolates (d : Data) (e : Editor) (opener closer : ℕ) (new : Editor) : Type 0 where
  pub number : ℕ
  pub front : List ℕ
  pub back : List ℕ
  pub old : chars (body_at d e.content.text number) ≡ front ++ (region_chars e ++ back)
  pub now : chars (body_at d new.content.text number) ≡ front ++ opener ∷ (region_chars e ++ closer ∷ back)
  pub others : (m : ℕ) → m ≢ number → paragraph_at d new.content.text m ≡ paragraph_at d e.content.text m
  pub levels : IsWhole d (region_chars e) → count_by begins_level (map d.class front) ≤ 61 → (i : ℕ) → i < length (region_chars e)
      → is_kept (class_at d (region_chars e) i) ≡ true → let cs = chars (body_at d new.content.text number) in
      IsAbove (embedding_at d e.base cs (length front)) (level_at d e.base cs (length front + 1 + i))

-- A letter names an isolate initiator, which a PDI ends. The text is UTF-8 and the region's ends are character boundaries, as
-- in every editor of the code; the region is in one line, there is room, and no paste is under way.
pub record CanIsolate (d : Data) (e : Editor) (letter opener closer : ℕ) : Type 0 where
  pub can : CanAsk e
  pub opener_is : named letter ≡ Some opener
  pub closer_is : closing letter ≡ Some closer
  pub begins : is_initiator (d.class opener) ≡ true
  pub ends : d.class closer ≡ PDI
  pub text : IsUtf8 e.content.text
  pub range : IsRange e.content.text (region e).0 (region e).1
  pub some : (region e).0 < (region e).1
  pub one_line : spans_lines d e ≡ false
  pub room : length e.content.text + length (encode_utf8 opener) + length (encode_utf8 closer) ≤ largest_text

abbrev pub LetterIsolates : Type 0
LetterIsolates =
    (d : Data) (e : Editor) (letter opener closer : ℕ) → CanIsolate d e letter opener closer
    → Isolates d e opener closer (after_keys d None e (Name ∷ Insert letter ∷ []))

-- ---- what a prompt shows

-- a terminal shows the glyph's text as one glyph, in the glyph's columns
pub record IsShown (g : Glyph) : Type 0 where
  pub one : is_one_glyph g.text ≡ true
  pub columns : run_width g.text ≡ g.columns

-- the answer is short, and all glyphs of a prompt, its words and what is typed behind them, are shown
pub record ShowsPrompt (d : Data) (e : Editor) : Type 0 where
  pub answer : IsAnswer e.prompt e.answer
  pub glyphs : e.prompt ≢ Off → All IsShown (letter_glyphs (prompt_text e.prompt) ++ typed_glyphs d e (row_text d e) (input_line_of e))

-- A key types characters: what it inserts is a scalar value, which is what the decoder of the input gives, and held text that it puts in
-- is UTF-8, as in every editor of the code.
abbrev pub TypesCharacters : Editor → Key → Type 0
TypesCharacters e (Insert c) = IsScalar c
TypesCharacters e Put = IsUtf8 e.held
TypesCharacters e _ = Unit {0}

-- each of these keys does, one after the other
abbrev pub AreCharacters : Data → Editor → List (Key × Option StoreFault) → Type 0
AreCharacters d e [] = Unit {0}
AreCharacters d e (key ∷ typed) = TypesCharacters e key.0 × AreCharacters d (after_key d key.1 e key.0) typed

-- answer and prompt are so whatever was typed over an opened text
abbrev pub PromptsAreShown : Type 0
PromptsAreShown =
    (d : Data) (text : List ℕ) (height width : ℕ) (base : Base) (typed : List (Key × Option StoreFault))
    → let start = at_start text height width base in AreCharacters d start typed → ShowsPrompt d (after_typing d start typed)

-- ---- what is told

-- `unit` is the unit of paragraph `number`, from 0, that begins at the place; `front` and `rest` are the paragraph's units before
-- and after it.
pub record IsUnitAt (d : Data) (e : Editor) (number : ℕ) (front : List (List ℕ)) (unit : List ℕ) (rest : List (List ℕ)) : Type 0 where
  pub there : number < count d e.content.text
  pub units : graphemes true (body_at d e.content.text number) ≡ front ++ unit ∷ rest
  pub place_is : e.place ≡ start_at d e.content.text number + length (concat front)

-- Tell shows the codes and classes of the unit's first four characters, and the level of its first character that has one, the
-- character `i`, from 0, of the unit. At the text's end it says so. What it shows is printable ASCII for any text.
pub record TellsUnit (d : Data) (e : Editor) : Type 0 where
  pub unit : (number : ℕ) (front : List (List ℕ)) (unit : List ℕ) (rest : List (List ℕ)) → IsUnitAt d e number front unit rest
      → (c : ℕ) (cs : List ℕ) → chars unit ≡ c ∷ cs → (i level : ℕ) → i < length (chars unit)
      → IsFirstLevel (levels_under d e.base (chars (body_at d e.content.text number))) (length (chars (concat front))) i level
      → told_at_place d e ≡ character_text d c ++ others_text d cs ++ (codes " level " ++ decimal level)
  pub end : e.place ≡ length e.content.text → told_at_place d e ≡ codes "end of text"
  pub printable : are_ascii_printable (told_at_place d e) ≡ true

abbrev pub TellsWhatStands : Type 0
TellsWhatStands = (d : Data) (e : Editor) → HasRows e → TellsUnit d e

-- outside a paste and the question whether to overwrite Tell shows what is told of the place after the numbers on the status row, and leaves
-- text, place, held text and mark
abbrev pub TellShows : Type 0
TellShows =
    (d : Data) (e : Editor) → e.pasted ≡ None → e.prompt ≢ Overwrite → let new = after_key d None e Tell in
    (status_text d new ≡ status_line e.changed (paragraph_number d e.content.text e.place + 1) (unit_number d e.content.text e.place) ++ (codes " " ++ told_at_place d e))
    × IsUntouched e new
