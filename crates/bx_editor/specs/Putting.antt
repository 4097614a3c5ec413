-- What is put into the text: what is typed, what is held, and what is pasted. `d` is Unicode's data, `e` the editor.
use Rattle.std.specs.Prelude.{ℕ, ◌+◌, ◌-◌, ◌%◌, ◌==◌, ◌&&◌, ◌||◌, not, nat_lt, Bool, true, false, if◌then◌else◌, List, [], ◌∷◌, ◌++◌, length, replicate}
use Rattle.std.specs.Prelude.{encode_utf8, Option, Some, None}
use Rattle.bx_text.specs.Edits.{fits, splice}
use Rattle.bx_ucd.specs.Data.{Data}
use Rattle.bx_document.specs.History.{insertion_before}
use Rattle.bx_document.specs.Line.{ends_with_separator, has_crlf_first, indent, is_line_empty}
use Rattle.bx_view.specs.Numbers.{unit_number}
use Rattle.bx_editor.specs.declared.undo_groups.typing.Kind.{Kind}
use Rattle.bx_editor.specs.declared.undo_groups.typing.Kind.TheVariants.{Blank, Separator}
use Rattle.bx_editor.specs.declared.undo_groups.typing.Typing.{Typing}
use Rattle.bx_editor.specs.declared.undo_groups.typing.Typing.TheVariants.{Off, Paste}
use Rattle.bx_editor.specs.undo_groups.Groups.{after_insertion, goes_on, kind_of}
use Rattle.bx_editor.specs.declared.message.Message.TheVariants.{NothingToPut, TextFull, Pasting, ViewOnly}
use Rattle.bx_editor.specs.Editor.{Editor, rows_of, unpressed, with_edit, with_insertion, with_removal, with_typing}
use Rattle.bx_editor.specs.Region.{region, is_selection, aged, line}
use Rattle.bx_editor.specs.declared.search_state.SearchState.{SearchState}
use Rattle.bx_editor.specs.declared.search_state.SearchState.TheVariants as search_states
use Rattle.bx_common.specs.Characters.{largest_text}
use Rattle.bx_editor.specs.declared.questions.answers.Prompt.{Prompt}
use Rattle.bx_editor.specs.declared.questions.answers.Prompt.TheVariants as prompts

-- ---- bytes put in

-- the part of the text that gives way to what is put in: the selection, or nothing
abbrev pub yielding : Editor → ℕ × ℕ
yielding e = if is_selection e then region e else (e.place, e.place)

-- bytes have room in place of that part
abbrev pub has_room : Editor → List ℕ → Bool
has_room e new = fits e.content.text (yielding e).0 (yielding e).1 new

-- the selection is removed, and bytes are inserted at the place after that: two edits of one undo group
abbrev pub with_selection_replaced : Data → Editor → List ℕ → Editor
with_selection_replaced d e new = with_insertion d (with_removal d e (region e).0 (region e).1 false) new true

-- bytes are put in, in the undo group before if `goes_on` and nothing is selected; without room the text stays as it is
abbrev pub put_in : Data → Editor → List ℕ → Bool → Editor
put_in d e new goes_on =
    if has_room e new
    then (if is_selection e then with_selection_replaced d e new else with_insertion d e new goes_on)
    else record e { message = Some TextFull }

-- ---- typing

-- a paste is being read
abbrev pub is_paste : Typing → Bool
is_paste Paste = true
is_paste _ = false

-- what goes on where nothing was put into the text: only a paste
abbrev pub only_paste : Typing → Typing
only_paste Paste = Paste
only_paste _ = Off

-- bytes of this kind are typed; `typing` tells what the key before left
abbrev pub typed : Data → Typing → Editor → List ℕ → Kind → Editor
typed d typing e new kind =
    record (put_in d e new (goes_on typing kind)) {
      typing = if has_room e new then after_insertion kind else only_paste typing;
    }

-- the line end that a text has: CR LF if its first separator is that, else LF
abbrev pub line_end : Data → List ℕ → List ℕ
line_end d text = if has_crlf_first d text then 0xD ∷ 0xA ∷ [] else 0xA ∷ []

-- the line end of the text without the part that gives way
abbrev pub new_line_end : Data → Editor → List ℕ
new_line_end d e = line_end d (splice e.content.text (yielding e).0 (yielding e).1 [])

-- what indents a new line: the blanks and tabs with which the line begins, those that stand before the part that gives way
abbrev pub new_indent : Data → Editor → List ℕ
new_indent d e = if e.auto_indent then indent d e.content.text (yielding e).0 else []

-- NewLine types the text's line end and the indent, as one edit
abbrev pub after_new_line : Data → Typing → Editor → Editor
after_new_line d typing e = typed d typing e (new_line_end d e ++ new_indent d e) Separator

-- how many units of the line stand before an offset
abbrev pub units_in_line : Data → Editor → ℕ → ℕ
units_in_line d e offset = unit_number d e.content.text offset - 1

-- how many spaces reach from this many units to the next multiple of the tab's width
abbrev pub spaces_on : ℕ → ℕ → ℕ
spaces_on width units = width - units % width

-- a typed tab: spaces, where it has a width
abbrev pub after_tab : Data → Typing → Editor → Editor
after_tab d typing e =
    if e.tab_width == 0
    then typed d typing e (encode_utf8 0x9) (kind_of (d.class 0x9))
    else typed d typing e (replicate (spaces_on e.tab_width (units_in_line d e (yielding e).0)) 0x20) Blank

-- a typed character
abbrev pub after_character : Data → Typing → Editor → ℕ → Editor
after_character d typing e c = if c == 0x9 then after_tab d typing e else typed d typing e (encode_utf8 c) (kind_of (d.class c))

-- ---- the held text

-- a line that is put over another one has a line end: its own, or the text's, but over an empty line none
abbrev pub as_line : Data → Editor → List ℕ → List ℕ
as_line d e held = if ends_with_separator d held || is_line_empty d e.content.text e.place then held else held ++ line_end d e.content.text

-- bytes are put at the start of the place's line, and the cursor stays where it is in that line
abbrev pub with_line_put : Data → Editor → List ℕ → Editor
with_line_put d e new =
    let start = (line d e).0 in
    with_edit d e (insertion_before (rows_of d e) e.content start new e.place) (e.place + length new) false

-- a whole line is put over the place's; without room the text stays as it is
abbrev pub put_line : Data → Editor → List ℕ → Editor
put_line d e new = if fits e.content.text (line d e).0 (line d e).0 new then with_line_put d e new else record e { message = Some TextFull }

-- a whole line is held, and nothing is selected
abbrev pub puts_line : Editor → Bool
puts_line e = e.whole_line && not (is_selection e)

-- Put inserts the held text, a whole line over the place's; with nothing held a selection stays
abbrev pub after_put : Data → Editor → Editor
after_put d e =
    if length e.held == 0
    then record e { message = Some NothingToPut }
    else if puts_line e then put_line d e (as_line d e e.held) else put_in d e e.held false

-- ---- pastes: what stands between PasteStart and PasteEnd goes into the text at once; `list` is what a paste has brought so far

-- a paste into the text begins
abbrev pub with_paste : Editor → Editor
with_paste e = record e { pasted = Some []; message = Some Pasting }

-- nothing is asked, no search is on, and no paste is under way
abbrev pub is_free : Prompt → SearchState → Option (List ℕ) → Bool
is_free prompts.Off search_states.Off None = true
is_free _ _ _ = false

-- it begins unless something is asked or sought, or one is under way
abbrev pub paste_begun : Prompt → SearchState → Option (List ℕ) → Editor → Editor
paste_begun prompts.Off search_states.Off None e = with_paste e
paste_begun prompt search_state pasted e = e

-- nothing can be pasted into a text that is only looked at
abbrev pub refuses_paste : Editor → Bool
refuses_paste e = e.read_only && is_free e.prompt e.search_state e.pasted

-- the effect of PasteStart
abbrev pub after_paste_start : Editor → Editor
after_paste_start e =
    if refuses_paste e
    then unpressed (record e { message = Some ViewOnly })
    else unpressed (with_typing (paste_begun e.prompt e.search_state e.pasted e) Paste)

-- ---- what it brings

-- the character is pasted as CR LF: it is LF, and the text's first separator is CR LF
abbrev pub pastes_crlf : Data → List ℕ → ℕ → Bool
pastes_crlf d text c = (c == 0xA) && has_crlf_first d text

-- a pasted character in UTF-8, or CR LF
abbrev pub pasted_bytes : Bool → ℕ → List ℕ
pasted_bytes is_crlf c = if is_crlf then 0xD ∷ 0xA ∷ [] else encode_utf8 c

-- a list with one more character; one that is longer than any text stays as it is
abbrev pub longer : Bool → List ℕ → ℕ → List ℕ
longer is_crlf list c = if nat_lt largest_text (length list) then list else list ++ pasted_bytes is_crlf c

-- what a paste, if one is under way, has brought with one more character
abbrev pub pasted_with : Bool → Option (List ℕ) → ℕ → Option (List ℕ)
pasted_with is_crlf None c = None
pasted_with is_crlf (Some list) c = Some (longer is_crlf list c)

-- a character is pasted: the text, the message and what is typed stay, and for all else it is a key as others are
abbrev pub after_pasted_letter : Data → Editor → ℕ → Editor
after_pasted_letter d e c = record e {
  pasted = pasted_with (pastes_crlf d e.content.text c) e.pasted c;
  quit_before = false;
  goal = None;
  soft = aged e.soft;
  clicks = None;
  pressed = None;
}

-- ---- its end

-- no paste is under way any more, and its message is taken away
abbrev pub without_paste : Editor → Editor
without_paste e = record e { pasted = None; typing = Off; message = None }

-- what the paste has brought is put in as Put puts the held text in
abbrev pub with_pasted : Data → Editor → List ℕ → Editor
with_pasted d e list = if length list == 0 then without_paste e else put_in d (without_paste e) list false

-- `pasted` is what a paste has brought, if one is under way
abbrev pub ended_with : Data → Editor → Option (List ℕ) → Editor
ended_with d e None = e
ended_with d e (Some list) = with_pasted d e list

-- the paste, if one is under way, ends
abbrev pub paste_ended : Data → Editor → Editor
paste_ended d e = ended_with d e e.pasted

-- the effect of PasteEnd
abbrev pub after_paste_end : Data → Editor → Editor
after_paste_end d e = unpressed (with_typing (paste_ended d e) Off)
