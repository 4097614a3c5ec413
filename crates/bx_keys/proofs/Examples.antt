-- Keys of worked examples of input, and each law applied to them.
use Rattle.std.proofs.Common.{◌≡◌, ◌≢◌, ℕ, inl, inr, true, false, List, [], ◌∷◌, ◌++◌, Some, None, refl, ap, sym, ◌∙◌, arith}
use Rattle.std.proofs.lemmas.Bool.{both_ways, cases_Bool}
use Rattle.std.specs.Prelude.{codes, Option}
use Rattle.std.specs.List.{concat}
use Rattle.std.specs.Str.{chars}
use Rattle.bx_bytes.specs.Grammar.{BeginsByMore, NoneBeginsLonger}
use Rattle.bx_bytes.specs.declared.fate.Fate.TheVariants.{Waits, Ends}
use Rattle.bx_keys.specs.Items.{items, is_item, begins_item}
use Rattle.bx_keys.specs.Keys.{Decoding, decoding, key_after, rest_after}
use Rattle.bx_keys.specs.Laws.{RestsWait, ComesInPieces, HasParts, keys_of_items}
use Rattle.bx_keys.specs.Waiting.{fate}
use Rattle.bx_keys.specs.declared.key.Key.{Key}
use Rattle.bx_keys.specs.declared.key.Key.TheVariants.{Insert, Erase, Delete, Up, Down, Right, Left, RowHome, RowEnd, PageUp, PageDown, Quit, UndoEdit, RedoEdit}
use Rattle.bx_keys.specs.declared.key.Key.TheVariants.{Direction, Size, Point, Drag, Notice}
use Rattle.bx_keys.specs.declared.key.Key.TheVariants.{Mark, Copy, Cut, Put, Find, FindBack, WordLeft, WordRight, TextStart, TextEnd, Help}
use Rattle.bx_keys.specs.declared.key.Key.TheVariants.{EraseWord, DeleteWord, FindNext, Cancel, ErasePoint, NewLine, LineUp, LineDown, PageBack, PageOn}
use Rattle.bx_keys.specs.declared.key.Key.TheVariants.{Select, Undo, Redo, GoTo, Replace, Name, Tell, PasteStart, PasteEnd}
use Rattle.bx_keys.specs.declared.key.Key.TheVariants.{SelectAll, FindPrevious, Fill, SaveAs, ScrollBack, ScrollOn, AskOverwrite}
use Rattle.bx_keys.specs.declared.notice.Notice.TheVariants.{NoSpace, InPlace}

abbrev keys : List ℕ → List Key
keys bs = (decoding bs).keys

-- byte by byte
abbrev keys_of_each : List ℕ → List ℕ → List (Option Key)
keys_of_each rest [] = []
keys_of_each rest (b ∷ bs) = key_after rest b ∷ keys_of_each (rest_after rest b) bs

pub arrows_and_ends : keys (codes "\u{1b}[A\u{1b}[B\u{1b}[C\u{1b}[D\u{1b}[H\u{1b}[F\u{1b}[1~\u{1b}[4~\u{1b}[3~\u{1b}[5~\u{1b}[6~\u{1b}[9~")
    ≡ Up ∷ Down ∷ Right ∷ Left ∷ RowHome ∷ RowEnd ∷ RowHome ∷ RowEnd ∷ Delete ∷ PageUp ∷ PageDown ∷ Direction ∷ []
arrows_and_ends = refl

pub search_and_mark : keys (codes "\u{1b}[70~\u{1b}[71~\u{1b}[72~\u{1b}[73~\u{1b}[74~\u{1b}[75~")
    ≡ Find ∷ FindBack ∷ Mark ∷ Copy ∷ Cut ∷ Put ∷ []
search_and_mark = refl

pub words_and_ends : keys (codes "\u{1b}[76~\u{1b}[77~\u{1b}[78~\u{1b}[79~\u{1b}[80~") ≡ WordLeft ∷ WordRight ∷ TextStart ∷ TextEnd ∷ Help ∷ []
words_and_ends = refl

pub erased_and_ended : keys (codes "\u{1b}[88~\u{1b}[89~\u{1b}[92~\u{1b}[93~\u{1b}[94~\u{1b}[95~")
    ≡ EraseWord ∷ DeleteWord ∷ FindNext ∷ Cancel ∷ ErasePoint ∷ NewLine ∷ []
erased_and_ended = refl

pub lines_and_pages : keys (codes "\u{1b}[96~\u{1b}[97~\u{1b}[98~\u{1b}[99~") ≡ LineUp ∷ LineDown ∷ PageBack ∷ PageOn ∷ []
lines_and_pages = refl

pub hundreds : keys (codes "\u{1b}[100~\u{1b}[101~\u{1b}[102~\u{1b}[103~\u{1b}[104~\u{1b}[105~\u{1b}[106~")
    ≡ SelectAll ∷ FindPrevious ∷ Fill ∷ SaveAs ∷ ScrollBack ∷ ScrollOn ∷ AskOverwrite ∷ []
hundreds = refl

-- other numbers, other finals, bytes between, and the bytes that terminals send for some of these keys
pub no_hundreds : keys (codes "\u{1b}[107~\u{1b}[0100~\u{1b}[100;1~\u{1b}[100 ~\u{1b}[100^\u{1b}[1000~\u{1b}[10~\u{1b}[102t\u{1b}[?102~" ++ 0x01 ∷ 0x0F ∷ 0x1F ∷ [])
    ≡ []
no_hundreds = refl

pub no_other_hundreds : keys (codes "\u{1b}[0103~\u{1b}[103;1~\u{1b}[103 ~\u{1b}[103^\u{1b}[0104~\u{1b}[105;1~\u{1b}[104t") ≡ []
no_other_hundreds = refl

pub notices : keys (codes "\u{1b}[>1~\u{1b}[>9~\u{1b}[>0~\u{1b}[>10~\u{1b}[>1") ≡ Notice NoSpace ∷ Notice InPlace ∷ []
notices = refl

pub selections_runs_and_pastes : keys (codes "\u{1b}[81~\u{1b}[82~\u{1b}[83~\u{1b}[90~\u{1b}[91~")
    ≡ Select ∷ Undo ∷ Redo ∷ PasteStart ∷ PasteEnd ∷ []
selections_runs_and_pastes = refl

pub questions : keys (codes "\u{1b}[84~\u{1b}[85~\u{1b}[86~\u{1b}[87~") ≡ GoTo ∷ Replace ∷ Name ∷ Tell ∷ []
questions = refl

-- other numbers, other finals, and bytes between
pub none_of_these : keys (codes "\u{1b}[69~\u{1b}[070~\u{1b}[72;1~\u{1b}[72 ~\u{1b}[72^\u{1b}[7~") ≡ []
none_of_these = refl

-- terminals send these for the keys: the input filter gives the sequences
pub no_key_of_one_byte : keys (0x00 ∷ 0x03 ∷ 0x12 ∷ 0x16 ∷ 0x17 ∷ 0x18 ∷ []) ≡ []
no_key_of_one_byte = refl

pub byte_by_byte : keys_of_each [] (codes "\u{1b}[D") ≡ None ∷ None ∷ Some Left ∷ []
byte_by_byte = refl

pub unknown_sequence : decoding (codes "\u{1b}[99zx") ≡ record { keys = Insert 0x78 ∷ []; rest = [] }
unknown_sequence = refl

-- the byte that breaks a character off is read afresh
pub broken_character : decoding (0xD7 ∷ 0x78 ∷ 0xE0 ∷ 0x41 ∷ []) ≡ record { keys = Insert 0x78 ∷ Insert 0x41 ∷ []; rest = [] }
broken_character = refl

pub combining : decoding (0xCC ∷ 0x81 ∷ 0x7F ∷ 0x1A ∷ 0x19 ∷ []) ≡ record { keys = Insert 0x301 ∷ Erase ∷ UndoEdit ∷ RedoEdit ∷ []; rest = [] }
unfolding chars
combining = refl

-- ESC within a sequence begins afresh
pub afresh : keys (codes "\u{1b}[3\u{1b}[C") ≡ Right ∷ []
afresh = refl

pub single_shifted : keys (codes "\u{1b}OCx") ≡ Insert 0x78 ∷ []
single_shifted = refl

pub a_size : keys (codes "8\u{1b}[8;2;10t") ≡ Insert 0x38 ∷ Size 2 10 ∷ []
a_size = refl

pub no_size : keys (codes "\u{1b}[8;0;5t\u{1b}[8;501;5t\u{1b}[8;0002;5t\u{1b}[8;2t\u{1b}[8;;2t\u{1b}[8;2;2;2t\u{1b}[ 8;2;2t") ≡ []
no_size = refl

-- a cell that is pointed at: its row comes first, and zeros may lead
pub cells : keys (codes "\u{1b}[7;1;1t\u{1b}[7;500;500t\u{1b}[7;01;001t\u{1b}[7;2;3t") ≡ Point 1 1 ∷ Point 500 500 ∷ Point 1 1 ∷ Point 2 3 ∷ []
cells = refl

pub a_size_is_no_cell : keys (codes "\u{1b}[8;2;3t\u{1b}[7;2;3t") ≡ Size 2 3 ∷ Point 2 3 ∷ []
a_size_is_no_cell = refl

-- numbers that are no side, in rows and in columns
pub no_cell_of_these_sides : keys (codes "\u{1b}[7;0;1t\u{1b}[7;1;0t\u{1b}[7;501;1t\u{1b}[7;1;501t\u{1b}[7;0001;1t\u{1b}[7; 1;1t\u{1b}[7;1;1 t") ≡ []
no_cell_of_these_sides = refl

pub no_cell_of_other_fields : keys (codes "\u{1b}[7;1t\u{1b}[7t\u{1b}[7;1;1;1t\u{1b}[7;;1t") ≡ []
no_cell_of_other_fields = refl

-- other first numbers and finals
pub no_cell_of_other_kinds : keys (codes "\u{1b}[07;1;1t\u{1b}[?7;1;1t\u{1b}[7;1;1~\u{1b}[7;1;1T\u{1b}[6;1;1t") ≡ []
no_cell_of_other_kinds = refl

-- a cell to which the pointer is dragged
pub dragged_to : keys (codes "\u{1b}[9;1;1t\u{1b}[9;500;500t\u{1b}[9;01;001t\u{1b}[9~") ≡ Drag 1 1 ∷ Drag 500 500 ∷ Drag 1 1 ∷ Direction ∷ []
dragged_to = refl

pub no_drag_of_these : keys (codes "\u{1b}[9;0;1t\u{1b}[9;1;501t\u{1b}[9;1t\u{1b}[9t\u{1b}[9;1;1;1t\u{1b}[9;0001;1t\u{1b}[09;1;1t\u{1b}[9;1;1~\u{1b}[9;1;1T")
    ≡ []
no_drag_of_these = refl

pub padded_size : keys (codes "\u{1b}[8;002;010t") ≡ Size 2 10 ∷ []
padded_size = refl

pub quits : keys (0x78 ∷ 0x11 ∷ codes "\u{1b}[8;2;30t" ++ 0x11 ∷ []) ≡ Insert 0x78 ∷ Quit ∷ Size 2 30 ∷ Quit ∷ []
quits = refl

-- a control character within a sequence drops it and is read afresh; so does a byte that begins a character
pub dropped : decoding (0x1B ∷ 0x5B ∷ 0x33 ∷ 0x0A ∷ 0x1B ∷ 0x4F ∷ 0xD7 ∷ 0x90 ∷ 0xFF ∷ 0x1B ∷ [])
    ≡ record { keys = Insert 0x0A ∷ Insert 0x5D0 ∷ []; rest = 0x1B ∷ [] }
unfolding chars
dropped = refl

-- ESC with intermediate bytes, and ESC with a final byte
pub other_escapes_give_no_key : keys (codes "\u{1b}(Bx\u{1b} !0y\u{1b}Mz") ≡ Insert 0x78 ∷ Insert 0x79 ∷ Insert 0x7A ∷ []
other_escapes_give_no_key = refl

-- ---- each law, applied

-- a size that is half read begins an item
pub of_beginnings : BeginsByMore items → begins_item (codes "\u{1b}[8;24") ≡ true
of_beginnings law = (law (codes "\u{1b}[8;24")).1 (codes ";80t", refl)

-- FF begins none, whatever follows
pub of_beginnings_none : BeginsByMore items → (more : List ℕ) → is_item (0xFF ∷ more) ≡ false
of_beginnings_none law more = elim (cases_Bool (is_item (0xFF ∷ more))) [
  | inl whole ↦ absurd (both_ways (begins_item (0xFF ∷ [])) refl ((law (0xFF ∷ [])).1 (more, whole)))
  | inr other ↦ other
]

-- an arrow is over with its letter
pub of_none_longer : NoneBeginsLonger items → (b : ℕ) (more : List ℕ) → begins_item (codes "\u{1b}[A" ++ b ∷ more) ≡ false
of_none_longer law b more = law (codes "\u{1b}[A") b more refl

-- a letter never waits
pub of_rests_wait : RestsWait → (bs : List ℕ) → (decoding bs).rest ≢ codes "a"
of_rests_wait law bs e = let same : Waits ≡ Ends = sym (law.left bs) ∙ ap fate e in cc same

-- an arrow with Shift waits for its letter
pub of_rests_same : RestsWait → decoding (codes "\u{1b}[1;2") ≡ record { keys = []; rest = codes "\u{1b}[1;2" }
of_rests_same law = (law.same (codes "\u{1b}[1;2")).0 refl

-- an arrow that comes in two pieces
pub of_in_any_pieces : ComesInPieces → (bs : List ℕ) → (decoding bs).rest ≡ codes "\u{1b}["
    → (decoding (bs ++ codes "Ax")).keys ≡ (decoding bs).keys ++ Up ∷ Insert 0x78 ∷ []
of_in_any_pieces law bs e =
    ap (λ (d : Decoding). d.keys) (law bs (codes "Ax")) ∙ ap (λ rest. (decoding bs).keys ++ (decoding (rest ++ codes "Ax")).keys) e

-- a letter, a sequence that a line feed breaks, the line feed, a byte that begins nothing, and a lead byte that waits
pub of_decoded : HasParts
    → decoding (codes "a\u{1b}[3" ++ 0x0A ∷ 0xFF ∷ 0xD7 ∷ []) ≡ record { keys = Insert 0x61 ∷ Insert 0x0A ∷ []; rest = 0xD7 ∷ [] }
of_decoded law =
    law.decoded (codes "a" ∷ codes "\u{1b}[3" ∷ (0x0A ∷ []) ∷ (0xFF ∷ []) ∷ []) (0xD7 ∷ []) (tt, ((omega arith, refl), (tt, (refl, refl))))

-- the keys of all input are those of the items that it is cut into
pub of_cut : HasParts → (bs : List ℕ) → (parts : List (List ℕ)) × (concat parts ++ (decoding bs).rest ≡ bs) × ((decoding bs).keys ≡ keys_of_items parts)
of_cut law bs =
    let is = law.cut bs in
    (is.0, is.1, ap (λ xs. (decoding xs).keys) (sym is.1) ∙ ap (λ (d : Decoding). d.keys) (law.decoded is.0 (decoding bs).rest is.2))
