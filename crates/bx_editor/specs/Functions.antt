-- Words on which no key's effect rests: those of laws, and of contracts of single functions in src/. `d` is Unicode's data, `e` the
-- editor.
use Rattle.std.specs.Prelude.{true, ◌≡◌, IsUtf8, Bool, false, List, [], ◌∷◌, Option, ℕ, ◌+◌, length, Some, None, ◌||◌, nat_lt}
use Rattle.bx_common.specs.Characters.{is_side}
use Rattle.bx_editor.specs.Editor.{Editor, rows_of}
use Rattle.bx_editor.specs.Keys.{after_key}
use Rattle.bx_editor.specs.Search.{reading, sought}
use Rattle.bx_keys.specs.declared.key.Key.{Key}
use Rattle.bx_keys.specs.declared.key.Key.TheVariants.{Fill, Size, Notice, PasteStart, PasteEnd}
use Rattle.bx_keys.specs.declared.key.Key.TheVariants as keys
use Rattle.bx_grid.specs.Picture.{is_size}
use Rattle.bx_paragraph.specs.declared.moves.Visual.TheVariants as visual
use Rattle.bx_store.specs.declared.store.StoreFault.{StoreFault}
use Rattle.bx_ucd.specs.Data.{Data}
use Rattle.bx_view.specs.declared.moves.Logical.TheVariants.{Back, Forward}
use Rattle.bx_view.specs.declared.moves.Move.{Move}
use Rattle.bx_view.specs.declared.moves.Move.TheVariants.{Logical, Word}
use Rattle.bx_view.specs.declared.moves.Move.TheVariants as moves
use Rattle.bx_view.specs.declared.moves.Vertical.TheVariants as ways
use Rattle.bx_view.specs.Moves.{place_at}
use Rattle.bx_find.specs.Matches.{first_from}
use Rattle.bx_text.specs.Edits.{splice}

-- an editor and its tables
pub record EditorState (D : Type 0) : Type 0 where
  pub tables : D
  pub editor : Editor

-- the text is UTF-8 and the window has from 1 to 500 columns, as in every editor of the code
pub record HasRows (e : Editor) : Type 0 where
  pub text : IsUtf8 e.content.text
  pub columns : is_side e.width ≡ true

-- ---- keys

-- keys in sequence; all Saves succeed, or all fail with this fault
abbrev pub after_keys : Data → Option StoreFault → Editor → List Key → Editor
after_keys d fault e [] = e
after_keys d fault e (key ∷ keys) = after_keys d fault (after_key d fault e key) keys

abbrev pub is_size_key : Key → Bool
is_size_key (Size height width) = true
is_size_key _ = false

-- a key by which the terminal or the host tells something, and which the user does not press
abbrev pub is_told_key : Key → Bool
is_told_key (Size height width) = true
is_told_key (Notice notice) = true
is_told_key Fill = true
is_told_key PasteStart = true
is_told_key PasteEnd = true
is_told_key _ = false

-- a key that tells no size, or one that a window may have
abbrev pub has_size : Key → Bool
has_size (Size height width) = is_size height width
has_size _ = true

-- the move that a key makes, if it makes one that keeps no column and points at no cell; a page has `page` rows
abbrev pub move_of : ℕ → Key → Option Move
move_of page keys.Back = Some (Logical Back)
move_of page keys.Forward = Some (Logical Forward)
move_of page keys.Up = Some (moves.Rows ways.Up 1)
move_of page keys.Down = Some (moves.Rows ways.Down 1)
move_of page keys.Right = Some (moves.Visual visual.Right)
move_of page keys.Left = Some (moves.Visual visual.Left)
move_of page keys.RowHome = Some moves.RowHome
move_of page keys.PageUp = Some (moves.Rows ways.Up page)
move_of page keys.PageDown = Some (moves.Rows ways.Down page)
move_of page keys.WordLeft = Some (moves.WordTowards visual.Left)
move_of page keys.WordRight = Some (moves.WordTowards visual.Right)
move_of page keys.TextStart = Some moves.TextStart
move_of page keys.TextEnd = Some moves.TextEnd
move_of page _ = None

-- ---- the moves by which the code removes: none leads past the place

-- by a unit or to a word's start, back
abbrev pub goes_back : Move → Bool
goes_back (Logical Back) = true
goes_back (Word Back) = true
goes_back _ = false

-- by a unit or to a word's start, forward
abbrev pub goes_on : Move → Bool
goes_on (Logical Forward) = true
goes_on (Word Forward) = true
goes_on _ = false

-- ---- the match behind one that gives way

-- the offset of a match of `text`, and its place
abbrev pub placed_in : Data → Editor → List ℕ → Option ℕ → Option (ℕ × ℕ)
placed_in d e text None = None
placed_in d e text (Some at) = Some (at, place_at (rows_of d e text) at)

-- the next match behind `new`, and its place, in the text in which the bytes from this match to `stop` have given way to `new`
abbrev pub next_behind : Data → Editor → ℕ → List ℕ → Option (ℕ × ℕ)
next_behind d e stop new =
    let text = splice e.content.text e.at stop new in
    placed_in d e text (first_from d (reading e.purpose) (sought d e) text (e.at + length new))

-- ---- pastes

-- `new` with all that the end of a paste changes as it was in `e`
abbrev pub as_before : Editor → Editor → Editor
as_before e new = record new {
  content = e.content;
  place = e.place;
  mark = e.mark;
  soft = e.soft;
  clicks = e.clicks;
  pressed = e.pressed;
  search_state = e.search_state;
  undo_groups = e.undo_groups;
  stored = e.stored;
  changed = e.changed;
  pasted = e.pasted;
  typing = e.typing;
  message = e.message;
}

-- something was pasted that is not in the text yet
abbrev pub has_pasted : Option (List ℕ) → Bool
has_pasted None = false
has_pasted (Some list) = nat_lt 0 (length list)

-- there are unsaved changes, also where they are only pasted; the status row leaves the paste out
abbrev pub has_changes : Editor → Bool
has_changes e = e.changed || has_pasted e.pasted
