-- Each key that may be refused outside a paste changes a text of the editor, or moves the cursor, after some keys.
use Rattle.std.proofs.Common.{◌≡◌, ℕ, ◌+◌, ◌-◌, ◌≤◌, leb-true, Bool, true, false, List, [], ◌∷◌, length, map, Some, None, refl, sym, ap, subst, ◌∙◌, arith}
use Rattle.std.proofs.Common.{⊎_elim, if◌then◌else◌}
use Rattle.std.specs.Prelude.{IsUtf8, ◌≢◌, ◌==◌, nat_le, codes, encode_utf8}
use Rattle.std.specs.Fmt.{digits}
use lib.Utf8.{encode}
use Rattle.std.proofs.lemmas.Bool.{cases_eq, eq-eqb, le-leb}
use Rattle.std.proofs.lemmas.Str.{len_utf8_bounds, length-encode}
use Rattle.ucd_case.proofs.Computing.{ucd_case}
use Rattle.unicode_normalization.proofs.Computing.{unicode_normalization}
use Rattle.unicode_segmentation.proofs.Computing.{unicode_segmentation}
use Rattle.unicode_width.proofs.Computing.{unicode_width}
use Rattle.bx_common.specs.Characters.{largest_text}
use Rattle.bx_common.specs.declared.base.Base.TheVariants.{Auto}
use Rattle.bx_keys.specs.declared.key.Key.{Key}
use Rattle.bx_keys.specs.declared.key.Key.TheVariants.{Insert, Erase, Delete, Back, Forward, Up, Down, Right, Left, RowHome, RowEnd, PageUp, PageDown}
use Rattle.bx_keys.specs.declared.key.Key.TheVariants.{Quit, UndoEdit, RedoEdit, Copy, Cut, Put, Find, FindBack, WordLeft, WordRight, TextStart, TextEnd}
use Rattle.bx_keys.specs.declared.key.Key.TheVariants.{EraseWord, DeleteWord, ErasePoint, NewLine, FindNext, LineUp, LineDown, PageBack, PageOn}
use Rattle.bx_keys.specs.declared.key.Key.TheVariants.{Undo, Redo, Replace, Point, Drag, FindPrevious, ScrollBack, ScrollOn, SelectAll}
use Rattle.bx_view.specs.Top.{pointed_at}
use Rattle.bx_editor.specs.declared.message.Message.TheVariants.{TextFull}
use Rattle.bx_editor.specs.undo_groups.Groups.{goes_on, kind_of}
use Rattle.bx_editor.specs.Editor.{Editor, at_start, cleared, rows, text_height, with_insertion}
use Rattle.bx_editor.specs.Keys.{after_key}
use Rattle.bx_editor.specs.declared.undo_groups.typing.Kind.{Kind}
use Rattle.bx_editor.specs.Putting as putting
use Rattle.bx_editor.specs.Putting.{has_room, with_selection_replaced}
use Rattle.bx_editor.specs.Region.{is_selection}
use Rattle.bx_editor_laws.specs.Laws.{after_typing}
use Rattle.bx_editor_laws.specs.RefusalLaws.{ChangesTexts, KeepsTexts, RefusableChangeTexts}
use Rattle.bx_editor.proofs.Computed.{tables, letters}
use Rattle.bx_editor_laws.proofs.PointedKeys.{drag-place, point-place}

-- ab in two lines
abbrev two_lines : List ℕ
two_lines = codes "ab\nab"

utf8 : IsUtf8 two_lines
unfolding encode
utf8 = (two_lines, (refl, refl))

-- the editor after keys, in a window of this height
abbrev typed_in : ℕ → List Key → Editor
typed_in height keys = after_typing tables (at_start two_lines height 40 Auto) (map (λ key. (key, None)) keys)

abbrev new_in : ℕ → List Key → Key → Editor
new_in height keys key = after_key tables None (typed_in height keys) key

changed : (height : ℕ) (keys : List Key) (key : Key) → (typed_in height keys).pasted ≡ None
    → ¬ (KeepsTexts (typed_in height keys) (new_in height keys key)) → ChangesTexts key
changed height keys key settled changes = record {
  tables = tables;
  text = two_lines;
  is_utf8 = utf8;
  height = height;
  width = 40;
  base = Auto;
  typed = map (λ key. (key, None)) keys;
  settled = settled;
  changes = changes;
}

apart : (n m : ℕ) → (n == m) ≡ false → n ≢ m
apart n m other same = let e : true ≡ false = sym (eq-eqb n m same) ∙ other in cc e

-- by the cursor's place, by the number of edits, or by the copied text
moved-in : (height : ℕ) (keys : List Key) (key : Key) → (typed_in height keys).pasted ≡ None
    → (let e = typed_in height keys in let new = new_in height keys key in (new.place ≢ e.place) × (new.place ≢ e.origin)) → ChangesTexts key
moved-in height keys key settled away =
    changed height keys key settled (λ h. ⊎_elim away.0 (λ back. away.1 back.1) h.place_is)

moved-at : (height : ℕ) (keys : List Key) (key : Key) → (typed_in height keys).pasted ≡ None
    → ((new_in height keys key).place == (typed_in height keys).place) ≡ false
    → ((new_in height keys key).place == (typed_in height keys).origin) ≡ false → ChangesTexts key
moved-at height keys key settled from_place from_origin =
    let e = typed_in height keys in
    let new = new_in height keys key in moved-in height keys key settled (apart new.place e.place from_place, apart new.place e.origin from_origin)

moved : (keys : List Key) (key : Key) → (typed_in 6 keys).pasted ≡ None → ((new_in 6 keys key).place == (typed_in 6 keys).place) ≡ false
    → ((new_in 6 keys key).place == (typed_in 6 keys).origin) ≡ false → ChangesTexts key
moved keys key settled from_place from_origin = moved-at 6 keys key settled from_place from_origin

-- in a window of one row the wheel carries the cursor
carries : (keys : List Key) (key : Key) → (typed_in 2 keys).pasted ≡ None → ((new_in 2 keys key).place == (typed_in 2 keys).place) ≡ false
    → ((new_in 2 keys key).place == (typed_in 2 keys).origin) ≡ false → ChangesTexts key
carries keys key settled from_place from_origin = moved-at 2 keys key settled from_place from_origin

edited : (keys : List Key) (key : Key) → (typed_in 6 keys).pasted ≡ None
    → (length (new_in 6 keys key).content.past == length (typed_in 6 keys).content.past) ≡ false → ChangesTexts key
edited keys key settled more =
    let e = typed_in 6 keys in
    let new = new_in 6 keys key in
    changed 6 keys key settled (λ h. apart (length new.content.past) (length e.content.past) more (ap (λ c. length c.past) h.content_is))

copied : (keys : List Key) (key : Key) → (typed_in 6 keys).pasted ≡ None
    → (length (new_in 6 keys key).held == length (typed_in 6 keys).held) ≡ false → ChangesTexts key
copied keys key settled more =
    let e = typed_in 6 keys in
    let new = new_in 6 keys key in
    changed 6 keys key settled (λ h. apart (length new.held) (length e.held) more (ap (λ held. length held) h.held_is))

-- ---- a character

-- any one has room
room : (c : ℕ) → has_room (cleared (typed_in 6 [])) (encode_utf8 c) ≡ true
room c = le-leb (5 + length (encode_utf8 c)) largest_text (omega (arith, length-encode c, (len_utf8_bounds c).1))

-- what is typed there
abbrev typed_there : List ℕ → Kind → Editor
typed_there new kind = putting.typed tables (typed_in 6 []).typing (cleared (typed_in 6 [])) new kind

one-more : (new : List ℕ) (kind : Kind) → has_room (cleared (typed_in 6 [])) new ≡ true → (length (typed_there new kind).content.past == 0) ≡ false
one-more new kind fits =
    let e = cleared (typed_in 6 []) in
    let on = goes_on e.typing kind in
    subst (λ b. (length (if b then (if is_selection e then with_selection_replaced tables e new else with_insertion tables e new on)
    else record e { message = Some TextFull }).content.past == 0) ≡ false) (sym fits) refl

either : (b : Bool) (p q : Editor) → (length p.content.past == 0) ≡ false → (length q.content.past == 0) ≡ false
    → (length (if b then p else q).content.past == 0) ≡ false
either true p q h k = h
either false p q h k = k

typed : (c : ℕ) → ChangesTexts (Insert c)
typed c =
    let kind = kind_of (tables.class c) in
    let tab = kind_of (tables.class 0x9) in
    edited [] (Insert c) refl
    (either (c == 0x9) (typed_there (encode_utf8 0x9) tab) (typed_there (encode_utf8 c) kind) (one-more (encode_utf8 0x9) tab (room 0x9))
    (one-more (encode_utf8 c) kind (room c)))

-- ---- a cell of the window

-- a row of the window has room for the text
inside : (row : ℕ) → row ≤ text_height (row + 2)
inside row =
    leb-true row (text_height (row + 2))
    (ap (λ b. nat_le row (if b then row + 2 - 1 else 1)) (le-leb 2 (row + 2) (omega arith)) ∙ le-leb row (row + 2 - 1) (omega arith))

-- the text's start and its end are not both in it
abbrev cell : ℕ → ℕ → ℕ
cell row column = pointed_at 40 (rows tables (typed_in (row + 2) [])) 0 row column

-- a search that was given up began at the end
abbrev to_the_end : List Key
to_the_end = TextEnd ∷ Find ∷ Quit ∷ []

from-start : (row column : ℕ) → (new_in (row + 2) [] (Point row column)).place ≡ cell row column
from-start row column = point-place tables (typed_in (row + 2) []) row column refl (λ over. cc over) (inside row) refl

from-end : (row column : ℕ) → (new_in (row + 2) to_the_end (Point row column)).place ≡ cell row column
unfolding unicode_segmentation unicode_width digits
from-end row column = point-place tables (typed_in (row + 2) to_the_end) row column refl (λ over. cc over) (inside row) refl

dragged-start : (row column : ℕ) → (new_in (row + 2) [] (Drag row column)).place ≡ cell row column
dragged-start row column = drag-place tables (typed_in (row + 2) []) row column refl (λ over. cc over) (inside row) refl refl

dragged-end : (row column : ℕ) → (new_in (row + 2) to_the_end (Drag row column)).place ≡ cell row column
unfolding unicode_segmentation unicode_width digits
dragged-end row column = drag-place tables (typed_in (row + 2) to_the_end) row column refl (λ over. cc over) (inside row) refl refl

-- such a key goes to the cell from the start, and from the end
to-cell : (key : Key) (row column : ℕ) → (new_in (row + 2) [] key).place ≡ cell row column → (new_in (row + 2) to_the_end key).place ≡ cell row column
    → ChangesTexts key
unfolding unicode_segmentation unicode_width digits
to-cell key row column first last =
    ⊎_elim (λ start.
    let away : (new_in (row + 2) to_the_end key).place ≢ 5 = λ is. (let e : 0 ≡ 5 = sym start ∙ (sym last ∙ is) in cc e) in
    moved-in (row + 2) to_the_end key refl (away, away))
    (λ other.
    let away : (new_in (row + 2) [] key).place ≢ 0 = λ is. other (sym first ∙ is) in
    moved-in (row + 2) [] key refl (away, away))
    (cases_eq (cell row column) 0)

-- ---- any key

-- a letter is found
abbrev b_found : List Key
b_found = Find ∷ letters (codes "b")

-- a match is shown
abbrev a_shown : List Key
a_shown = Replace ∷ Insert 0x61 ∷ Replace ∷ Insert 0x78 ∷ Replace ∷ []

-- an edit was made, and undone
abbrev one_edit : List Key
one_edit = letters (codes "x")

abbrev one_undone : List Key
one_undone = Insert 0x78 ∷ UndoEdit ∷ []

pub refusable-change-texts : RefusableChangeTexts
unfolding unicode_segmentation unicode_width digits unicode_normalization ucd_case
refusable-change-texts (Insert c) is = typed c
refusable-change-texts Erase is = edited to_the_end Erase refl refl
refusable-change-texts Delete is = edited [] Delete refl refl
refusable-change-texts Back is = moved to_the_end Back refl refl refl
refusable-change-texts Forward is = moved [] Forward refl refl refl
refusable-change-texts Up is = moved to_the_end Up refl refl refl
refusable-change-texts Down is = moved [] Down refl refl refl
refusable-change-texts Right is = moved [] Right refl refl refl
refusable-change-texts Left is = moved to_the_end Left refl refl refl
refusable-change-texts RowHome is = moved to_the_end RowHome refl refl refl
refusable-change-texts RowEnd is = moved [] RowEnd refl refl refl
refusable-change-texts PageUp is = moved to_the_end PageUp refl refl refl
refusable-change-texts PageDown is = moved [] PageDown refl refl refl
refusable-change-texts UndoEdit is = edited one_edit UndoEdit refl refl
refusable-change-texts RedoEdit is = edited one_undone RedoEdit refl refl
refusable-change-texts Copy is = copied [] Copy refl refl
refusable-change-texts Cut is = edited [] Cut refl refl
refusable-change-texts Put is = edited (Copy ∷ []) Put refl refl
refusable-change-texts Find is = moved b_found Find refl refl refl
refusable-change-texts FindBack is = moved b_found FindBack refl refl refl
refusable-change-texts WordLeft is = moved to_the_end WordLeft refl refl refl
refusable-change-texts WordRight is = moved [] WordRight refl refl refl
refusable-change-texts TextStart is = moved to_the_end TextStart refl refl refl
refusable-change-texts TextEnd is = moved [] TextEnd refl refl refl
refusable-change-texts EraseWord is = edited to_the_end EraseWord refl refl
refusable-change-texts DeleteWord is = edited [] DeleteWord refl refl
refusable-change-texts ErasePoint is = edited to_the_end ErasePoint refl refl
refusable-change-texts NewLine is = edited [] NewLine refl refl
refusable-change-texts FindNext is = moved b_found FindNext refl refl refl
refusable-change-texts LineUp is = moved to_the_end LineUp refl refl refl
refusable-change-texts LineDown is = moved [] LineDown refl refl refl
refusable-change-texts PageBack is = moved to_the_end PageBack refl refl refl
refusable-change-texts PageOn is = moved [] PageOn refl refl refl
refusable-change-texts Undo is = edited one_edit Undo refl refl
refusable-change-texts Redo is = edited one_undone Redo refl refl
refusable-change-texts Replace is = edited a_shown Replace refl refl
refusable-change-texts SelectAll is = moved [] SelectAll refl refl refl
refusable-change-texts FindPrevious is = moved b_found FindPrevious refl refl refl
refusable-change-texts ScrollBack is = carries to_the_end ScrollBack refl refl refl
refusable-change-texts ScrollOn is = carries [] ScrollOn refl refl refl
refusable-change-texts (Point row column) is = to-cell (Point row column) row column (from-start row column) (from-end row column)
refusable-change-texts (Drag row column) is = to-cell (Drag row column) row column (dragged-start row column) (dragged-end row column)
refusable-change-texts key is = absurd (cc is)
