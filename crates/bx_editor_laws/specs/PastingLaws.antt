-- Laws of pastes: which keys end one, what one puts in, and when one is under way. `d`, `e` and `new` are as in Laws.antt.
use Rattle.std.specs.Prelude.{◌≡◌, ◌≢◌, ◌↔◌, ℕ, ◌+◌, ◌<◌, ◌≤◌, true, false, List, [], ◌∷◌, length, map, encode_utf8, encode_utf8_all, All}
use Rattle.std.specs.Prelude.{Option, None, if◌then◌else◌}
use Rattle.bx_common.specs.declared.base.Base.{Base}
use Rattle.bx_keys.specs.declared.key.Key.{Key}
use Rattle.bx_keys.specs.declared.key.Key.TheVariants.{Insert, Undo}
use Rattle.bx_store.specs.declared.store.StoreFault.{StoreFault}
use Rattle.bx_ucd.specs.Data.{Data}
use Rattle.bx_editor.specs.declared.questions.answers.Prompt.TheVariants as prompts
use Rattle.bx_editor.specs.declared.search_state.SearchState.TheVariants.{Off}
use Rattle.bx_editor.specs.Editor.{Editor, at_start}
use Rattle.bx_editor.specs.Keys.{after_key, ends_paste}
use Rattle.bx_editor.specs.Functions.{after_keys}
use Rattle.bx_editor.specs.PasteLaws.{after_paste, place_between, written}
use Rattle.bx_editor.specs.Putting.{paste_ended, pastes_crlf, has_room}
use Rattle.bx_editor.specs.Region.{region, is_selection}
use Rattle.bx_editor_laws.specs.Laws.{after_typing}
use Rattle.bx_editor_laws.specs.RunLaws.{AreTyped, IsBackBefore}

-- ---- when a paste is under way

-- A key that ends a paste does what it does once the paste has ended, and then none is under way. So what other laws say of keys
-- outside a paste holds in one too, of the editor in which it has ended.
pub record EndsFirst (d : Data) (fault : Option StoreFault) (e : Editor) (key : Key) : Type 0 where
  pub same : after_key d fault e key ≡ after_key d fault (paste_ended d e) key
  pub over : (paste_ended d e).pasted ≡ None

abbrev pub KeysEndPastes : Type 0
KeysEndPastes = (d : Data) (fault : Option StoreFault) (e : Editor) (key : Key) → ends_paste key ≡ true → EndsFirst d fault e key

-- a paste that is under way is over after a key exactly if the key ends it, as `ends_paste` says
abbrev pub PastesEndByKeys : Type 0
PastesEndByKeys =
    (d : Data) (fault : Option StoreFault) (e : Editor) (key : Key) → e.pasted ≢ None
    → (ends_paste key ≡ true) ↔ ((after_key d fault e key).pasted ≡ None)

-- nothing is asked or sought
pub record IsFree (e : Editor) : Type 0 where
  pub unasked : e.prompt ≡ prompts.Off
  pub unsought : e.search_state ≡ Off

-- whatever was typed over an opened text, a paste is under way only outside a search and a question
abbrev pub PastesAreAlone : Type 0
PastesAreAlone =
    (d : Data) (text : List ℕ) (height width : ℕ) (base : Base) (typed : List (Key × Option StoreFault))
    → let e = after_typing d (at_start text height width base) typed in e.pasted ≢ None → IsFree e

-- ---- what a paste puts in

-- One Undo takes back all that a paste put in, and puts back the selection that gave way to it. Where no paste was under way, one of
-- some characters puts them in if there was room for them.
pub record TakesPasteBack (d : Data) (e : Editor) (cs : List ℕ) : Type 0 where
  pub back : length e.content.past < length (after_paste d e cs).content.past
      → IsBackBefore e (after_key d None (after_paste d e cs) Undo)
  pub with_room : e.pasted ≡ None → cs ≢ [] → has_room e (written d e.content.text cs) ≡ true
      → IsBackBefore e (after_key d None (after_paste d e cs) Undo)

-- so it is outside a search and a question, where the text is not only looked at
abbrev pub PasteComesBack : Type 0
PasteComesBack = (d : Data) (e : Editor) (cs : List ℕ) → IsFree e → e.read_only ≡ false → TakesPasteBack d e cs

-- A typed character goes in at the cursor, after the selection is removed.
abbrev pub typed_from : Data → Editor → ℕ
typed_from d e = if is_selection e then place_between d e else e.place

-- while these characters are typed, the cursor's place after each is the character's end
abbrev pub EndAtTheirPlaces : Data → Editor → List ℕ → Type 0
EndAtTheirPlaces d e [] = Unit {0}
EndAtTheirPlaces d e (c ∷ cs) =
    let new = after_key d None e (Insert c) in (new.place ≡ typed_from d e + length (encode_utf8 c)) × EndAtTheirPlaces d new cs

-- text and place are the same
pub record HaveSameText (one other : Editor) : Type 0 where
  pub text_is : one.content.text ≡ other.content.text
  pub place_is : one.place ≡ other.place

-- outside a search, a question and a paste, where the text is not only looked at, pasted characters, none of which is pasted as CR LF,
-- and none of which is a tab that becomes spaces when it is typed, leave text and place as the same
-- characters do when they are typed one by one, if there is room for all and the place after each is its end; the region is in the
-- text, as in every editor of the code
abbrev pub PasteIsTyping : Type 0
PasteIsTyping =
    (d : Data) (e : Editor) (cs : List ℕ) → IsFree e → e.pasted ≡ None → e.read_only ≡ false → (region e).1 ≤ length e.content.text
    → All (λ c. pastes_crlf d e.content.text c ≡ false) cs → AreTyped e cs → has_room e (encode_utf8_all cs) ≡ true → EndAtTheirPlaces d e cs
    → HaveSameText (after_paste d e cs) (after_keys d None e (map Insert cs))
