-- Worked examples of keys that terminals send, and of their bytes in a paste and behind a sequence that breaks off.
use Rattle.std.proofs.Common.{◌≡◌, ℕ, Bool, true, false, List, [], ◌∷◌, ◌++◌, map, refl}
use Rattle.std.specs.Prelude.{codes}
use Rattle.bx_keys.specs.declared.key.Key.{Key}
use Rattle.bx_keys.specs.declared.key.Key.TheVariants.{Insert, Mark, Copy, Cut, Put, Find, FindBack, WordLeft, WordRight, TextStart, TextEnd, Help, Notice, EraseWord}
use Rattle.bx_keys.specs.declared.key.Key.TheVariants.{DeleteWord, FindNext, Cancel, ErasePoint, NewLine, LineUp, LineDown, PageBack, PageOn, Right, Left, RowHome, RowEnd, Delete}
use Rattle.bx_keys.specs.declared.key.Key.TheVariants.{Back, Forward, Quit, SelectAll, FindPrevious, SaveAs, Size, Fill, Select, Undo, Redo, GoTo, Replace, Name}
use Rattle.bx_keys.specs.declared.key.Key.TheVariants.{Tell, PasteStart, PasteEnd, Point, Save, Repaint}
use Rattle.bx_keys.specs.declared.notice.Notice.TheVariants.{NoSpace, InPlace}
use Rattle.bx_input.specs.Table.{Row, rows, paste_start, paste_end}
use Rattle.bx_input.specs.Scan as scan
use Rattle.bx_input.specs.Scan.{Part, passed}
use Rattle.bx_input_laws.specs.Laws as laws

-- where the terminal's own erase character is another than DELETE
abbrev scanned : List ℕ → List Part
scanned = scan.scanned false

abbrev keys_where : Bool → List ℕ → List Key
keys_where = laws.keys

abbrev keys : List ℕ → List Key
keys = laws.keys false

pub control_characters : keys (0x00 ∷ 0x03 ∷ 0x12 ∷ 0x16 ∷ 0x17 ∷ 0x18 ∷ []) ≡ Mark ∷ Copy ∷ FindBack ∷ Put ∷ Find ∷ Cut ∷ []
control_characters = refl

pub runs_back_and_again : keys (codes "\u{19}\u{1a}") ≡ Redo ∷ Undo ∷ []
runs_back_and_again = refl

pub questions : keys (codes "\u{7}\u{b}\u{14}") ≡ GoTo ∷ Name ∷ Tell ∷ []
questions = refl

pub others_go_through : keys (codes "\u{13}\u{11}\u{c}\n") ≡ Save ∷ Quit ∷ Repaint ∷ Insert 0x0A ∷ []
others_go_through = refl

-- CTRL-F and CTRL-B search, and what CTRL gives with the key Q of a Hebrew layout is Quit
pub searches_and_quit : keys (codes "\u{6}\u{2}\u{1}\u{f}\u{1f}\u{12}\u{17}") ≡ Find ∷ FindBack ∷ SelectAll ∷ SaveAs ∷ Quit ∷ FindBack ∷ Find ∷ []
searches_and_quit = refl

-- Right and Left with Alt
pub steps_with_alt : keys (codes "\u{1b}[1;3C\u{1b}\u{1b}[C\u{1b}[1;3D\u{1b}\u{1b}[D") ≡ Forward ∷ Forward ∷ Back ∷ Back ∷ []
steps_with_alt = refl

-- F10 and F7, and CTRL with the keys Q and W of a Hebrew layout
pub f10_and_f7 : keys (codes "\u{1b}[21~\u{1b}[18~\u{1b}[27;5;47~\u{1b}[27;5;39~") ≡ Quit ∷ Find ∷ Quit ∷ Find ∷ []
f10_and_f7 = refl

-- F3 with Shift
pub previous_matches : keys (codes "\u{1b}[1;2R\u{1b}[25~\u{1b}O1;2R") ≡ FindPrevious ∷ FindPrevious ∷ FindPrevious ∷ []
previous_matches = refl

-- Right and Left with Alt and Shift
pub steps_with_alt_and_shift : keys (codes "\u{1b}[1;4C\u{1b}[1;4D") ≡ Select ∷ Forward ∷ Select ∷ Back ∷ []
steps_with_alt_and_shift = refl

abbrev near_sequences : List ℕ
near_sequences = codes "\u{1b}[1;3A\u{1b}[17~\u{1b}[24~\u{1b}[26~\u{1b}[1;3R\u{1b}[27;5;40~\u{1b}[27;6;39~\u{1b}[27;5;47u"

pub near_sequences_go_through : scanned near_sequences ≡ passed near_sequences
near_sequences_go_through = refl

-- the second of two ESC begins a key of its own
pub escape_and_up : keys (codes "\u{1b}\u{1b}[A") ≡ LineUp ∷ []
escape_and_up = refl

pub a_third_escape : keys (codes "\u{1b}\u{1b}\u{1b}[C") ≡ Forward ∷ []
a_third_escape = refl

pub escapes_and_more : keys (codes "\u{1b}\u{1b}Oq\u{1b}\u{1b}[<0;3;2M\u{1b}\u{1b}\u{7f}\u{1b}\u{1b}a") ≡ Insert 0x31 ∷ Point 2 3 ∷ EraseWord ∷ []
escapes_and_more = refl

pub erase_keys : keys (0x7F ∷ 0x08 ∷ 0x0D ∷ 0x0A ∷ []) ≡ ErasePoint ∷ ErasePoint ∷ NewLine ∷ Insert 0x0A ∷ []
erase_keys = refl

pub erase_keys_by_delete : keys_where true (0x7F ∷ 0x08 ∷ 0x0D ∷ []) ≡ ErasePoint ∷ EraseWord ∷ NewLine ∷ []
erase_keys_by_delete = refl

-- the erase character changes what a sequence becomes, and none of them
pub same_sequences : map (λ (r : Row). r.sequence) (rows true) ≡ map (λ (r : Row). r.sequence) (rows false)
same_sequences = refl

pub erase_with_alt : keys (codes "\u{1b}\u{7f}\u{1b}\u{8}") ≡ EraseWord ∷ EraseWord ∷ []
erase_with_alt = refl

pub delete_with_control : keys (codes "\u{1b}[3;5~\u{1b}[3^\u{1b}[M\u{1b}[3~\u{1b}[P") ≡ DeleteWord ∷ DeleteWord ∷ DeleteWord ∷ Delete ∷ Delete ∷ []
delete_with_control = refl

pub rows_and_pages : keys (codes "\u{1b}[A\u{1b}[B\u{1b}[C\u{1b}[D\u{1b}OA\u{1b}OB\u{1b}OC\u{1b}OD\u{1b}[5~\u{1b}[6~")
    ≡ LineUp ∷ LineDown ∷ Right ∷ Left ∷ LineUp ∷ LineDown ∷ Right ∷ Left ∷ PageBack ∷ PageOn ∷ []
rows_and_pages = refl

-- Shift begins or extends a selection, and then moves
pub shift_and_up : keys (codes "\u{1b}[1;2A") ≡ Select ∷ LineUp ∷ []
shift_and_up = refl

pub rows_with_shift : keys (codes "\u{1b}[1;2A\u{1b}[1;2B\u{1b}[a\u{1b}[b") ≡ Select ∷ LineUp ∷ Select ∷ LineDown ∷ Select ∷ LineUp ∷ Select ∷ LineDown ∷ []
rows_with_shift = refl

pub steps_with_shift : keys (codes "\u{1b}[1;2C\u{1b}[1;2D\u{1b}[c\u{1b}[d") ≡ Select ∷ Right ∷ Select ∷ Left ∷ Select ∷ Right ∷ Select ∷ Left ∷ []
steps_with_shift = refl

pub starts_with_shift : keys (codes "\u{1b}[1;2H\u{1b}[7$\u{1b}[2J") ≡ Select ∷ RowHome ∷ Select ∷ RowHome ∷ Select ∷ RowHome ∷ []
starts_with_shift = refl

pub ends_with_shift : keys (codes "\u{1b}[1;2F\u{1b}[8$\u{1b}[2K") ≡ Select ∷ RowEnd ∷ Select ∷ RowEnd ∷ Select ∷ RowEnd ∷ []
ends_with_shift = refl

pub home_of_two_terminals : keys (codes "\u{1b}[2J\u{1b}[7$") ≡ Select ∷ RowHome ∷ Select ∷ RowHome ∷ []
home_of_two_terminals = refl

pub words_with_shift : keys (codes "\u{1b}[1;6C\u{1b}[1;6D") ≡ Select ∷ WordRight ∷ Select ∷ WordLeft ∷ []
words_with_shift = refl

pub texts_with_shift : keys (codes "\u{1b}[1;6H\u{1b}[1;6F") ≡ Select ∷ TextStart ∷ Select ∷ TextEnd ∷ []
texts_with_shift = refl

pub cancel_goes_through : keys (codes "\u{1b}[93~") ≡ Cancel ∷ []
cancel_goes_through = refl

pub f1_and_f3 : keys (codes "\u{1b}OP\u{1b}[11~\u{1b}[[A\u{1b}OR\u{1b}[13~\u{1b}[[C\u{17}")
    ≡ Help ∷ Help ∷ Help ∷ FindNext ∷ FindNext ∷ FindNext ∷ Find ∷ []
f1_and_f3 = refl

pub arrows_with_control : keys (codes "\u{1b}[1;5D\u{1b}Od\u{1b}[5D\u{1b}[1;5C\u{1b}Oc\u{1b}[5C")
    ≡ WordLeft ∷ WordLeft ∷ WordLeft ∷ WordRight ∷ WordRight ∷ WordRight ∷ []
arrows_with_control = refl

pub ends_with_control : keys (codes "\u{1b}[1;5H\u{1b}[7^\u{1b}[1;5F\u{1b}[8^") ≡ TextStart ∷ TextStart ∷ TextEnd ∷ TextEnd ∷ []
ends_with_control = refl

-- the host's notices, before and behind a key and within a sequence that breaks off
pub notices_go_through : keys (codes "\u{1b}[>1~a\u{1b}[1;5\u{1b}[>9~") ≡ Notice NoSpace ∷ Insert 0x61 ∷ Notice InPlace ∷ []
notices_go_through = refl

pub no_row : keys (codes "\u{1b}[1;5A") ≡ []
no_row = refl

pub f4_and_backslash : keys (codes "\u{1b}OS\u{1b}[14~\u{1b}[[D\u{1c}") ≡ Replace ∷ Replace ∷ Replace ∷ Replace ∷ []
f4_and_backslash = refl

-- Delete with Shift, F5 of three terminals
pub no_function_keys : keys (codes "\u{1b}[3;2~\u{1b}[15~\u{1b}OT\u{1b}[[E") ≡ Insert 0x45 ∷ []
no_function_keys = refl

-- keys with Shift that select nothing
pub nothing_selected : keys (codes "\u{1b}[1;6A\u{1b}[1;2P\u{1b}[e\u{1b}[7@\u{1b}[5$") ≡ []
nothing_selected = refl

-- keys that a terminal tells with their modifiers
pub told_keys : keys (codes "\u{1b}[27;2;13~\u{1b}[27;5;13~\u{1b}[27;6;13~\u{1b}[27;5;9~\u{1b}[27;5;39~\u{1b}[27;5;47~")
    ≡ NewLine ∷ NewLine ∷ NewLine ∷ Insert 0x09 ∷ Find ∷ Quit ∷ []
told_keys = refl

-- Fill follows a size of the window
pub sizes_fill : keys (codes "\u{1b}[8;10;20t\u{1b}[8;010;020t") ≡ Size 10 20 ∷ Fill ∷ Size 10 20 ∷ Fill ∷ []
sizes_fill = refl

abbrev no_sizes : List ℕ
no_sizes = codes "\u{1b}[8;0;20t\u{1b}[8;501;20t\u{1b}[8;10;0t\u{1b}[8;10t\u{1b}[8;10;20;1t\u{1b}[8;1000;20t\u{1b}[8;10;20T\u{1b}[08;10;20t\u{1b}[8;10;20 t"

pub no_sizes_go_through : scanned no_sizes ≡ passed no_sizes
no_sizes_go_through = refl

pub a_size_behind_broken : keys (codes "\u{1b}[1;5\u{1b}[8;2;3t\u{1b}[8;10\u{1b}[1;3C\u{1b}\u{1b}[8;2;3t") ≡ Size 2 3 ∷ Fill ∷ Forward ∷ Size 2 3 ∷ Fill ∷ []
a_size_behind_broken = refl

pub a_size_in_a_paste : keys (paste_start ++ (codes "\u{1b}[8;10;20t" ++ paste_end))
    ≡ PasteStart ∷ Insert 0x5B ∷ Insert 0x38 ∷ Insert 0x3B ∷ Insert 0x31 ∷ Insert 0x30 ∷ Insert 0x3B ∷ Insert 0x32 ∷ Insert 0x30 ∷ Insert 0x74 ∷ PasteEnd ∷ []
a_size_in_a_paste = refl

-- a paste only inserts, and behind it CTRL-W is a key
pub in_a_paste : keys (paste_start ++ (codes "a\u{17}\u{3}\u{18}" ++ (0x00 ∷ codes "b\r\nc" ++ paste_end)) ++ 0x17 ∷ [])
    ≡ PasteStart ∷ Insert 0x61 ∷ Insert 0x62 ∷ Insert 0x0A ∷ Insert 0x63 ∷ PasteEnd ∷ Find ∷ []
in_a_paste = refl

-- a paste neither undoes nor asks
pub no_question_in_a_paste : keys (paste_start ++ (codes "a\u{1a}\u{7}\u{b}\u{14}\r\nb" ++ paste_end) ++ codes "\u{1a}\u{7}")
    ≡ PasteStart ∷ Insert 0x61 ∷ Insert 0x0A ∷ Insert 0x62 ∷ PasteEnd ∷ Undo ∷ GoTo ∷ []
no_question_in_a_paste = refl

-- a paste neither searches nor quits
pub no_search_in_a_paste : keys (paste_start ++ (codes "\u{6}\u{2}\u{1}\u{f}\u{1f}\u{1b}[1;3C\u{1b}\u{1b}[C\u{1b}[21~\u{1b}[18~\u{1b}[1;2R\u{1b}O1;2R\u{1b}[27;5;39~" ++ paste_end) ++ codes "\u{6}")
    ≡ PasteStart ∷ Insert 0x5B ∷ Insert 0x31 ∷ Insert 0x3B ∷ Insert 0x33 ∷ Insert 0x43 ∷ Insert 0x5B ∷ Insert 0x43 ∷ Insert 0x5B ∷ Insert 0x32 ∷ Insert 0x31 ∷ Insert 0x7E
    ∷ Insert 0x5B ∷ Insert 0x31 ∷ Insert 0x38 ∷ Insert 0x7E ∷ Insert 0x5B ∷ Insert 0x31 ∷ Insert 0x3B ∷ Insert 0x32 ∷ Insert 0x52 ∷ Insert 0x4F ∷ Insert 0x31 ∷ Insert 0x3B
    ∷ Insert 0x32 ∷ Insert 0x52 ∷ Insert 0x5B ∷ Insert 0x32 ∷ Insert 0x37 ∷ Insert 0x3B ∷ Insert 0x35 ∷ Insert 0x3B ∷ Insert 0x33 ∷ Insert 0x39 ∷ Insert 0x7E ∷ PasteEnd ∷ Find ∷ []
no_search_in_a_paste = refl

-- a paste neither erases nor cancels
pub no_erase_in_a_paste : keys (paste_start ++ (codes "a\u{7f}\u{8}\r\nb" ++ paste_end) ++ codes "\u{8}")
    ≡ PasteStart ∷ Insert 0x61 ∷ Insert 0x0A ∷ Insert 0x62 ∷ PasteEnd ∷ ErasePoint ∷ []
no_erase_in_a_paste = refl

pub no_cancel_in_a_paste : keys (paste_start ++ (codes "a\u{1b}[93~b" ++ paste_end))
    ≡ PasteStart ∷ Insert 0x61 ∷ Insert 0x5B ∷ Insert 0x39 ∷ Insert 0x33 ∷ Insert 0x7E ∷ Insert 0x62 ∷ PasteEnd ∷ []
no_cancel_in_a_paste = refl

-- nor does it tell an end of itself
pub no_end_in_a_paste : keys (paste_start ++ (codes "\u{1b}[91~" ++ paste_end))
    ≡ PasteStart ∷ Insert 0x5B ∷ Insert 0x39 ∷ Insert 0x31 ∷ Insert 0x7E ∷ PasteEnd ∷ []
no_end_in_a_paste = refl

-- a sequence that breaks off before it gives no key
pub paste_behind_broken : keys (codes "\u{1b}[1;5" ++ (paste_start ++ (codes "a" ++ paste_end))) ≡ PasteStart ∷ Insert 0x61 ∷ PasteEnd ∷ []
paste_behind_broken = refl

-- the end of the input ends no paste
pub no_end_of_a_paste : keys (paste_start ++ codes "ab\u{1b}[20") ≡ PasteStart ∷ Insert 0x61 ∷ Insert 0x62 ∷ Insert 0x5B ∷ Insert 0x32 ∷ Insert 0x30 ∷ []
no_end_of_a_paste = refl

-- a character that breaks off in a paste swallows no end of it
pub half_a_character_in_a_paste : keys (paste_start ++ ((0xC3 ∷ []) ++ paste_end)) ≡ PasteStart ∷ PasteEnd ∷ []
half_a_character_in_a_paste = refl

pub lines_behind_broken : keys (codes "\u{1b}[1;5\r\u{1b}[1;5\u{8}\u{1b}\r") ++ keys (0xC3 ∷ 0x7F ∷ []) ≡ NewLine ∷ ErasePoint ∷ NewLine ∷ ErasePoint ∷ []
lines_behind_broken = refl

pub word_behind_broken : keys_where true (codes "\u{1b}[1;5\u{8}\u{1b}[1;5\u{1b}\u{8}") ≡ EraseWord ∷ EraseWord ∷ []
word_behind_broken = refl

pub undo_behind_broken : keys (codes "\u{1b}[1;6\u{1a}") ≡ Undo ∷ []
undo_behind_broken = refl

pub erasing_behind_broken : keys (codes "\u{1b}[1;2\u{1b}\u{7f}\u{1b}\u{1b}\u{8}\u{1b}[3\u{7f}") ≡ EraseWord ∷ EraseWord ∷ ErasePoint ∷ []
erasing_behind_broken = refl

-- CTRL and the backslash behind half of rxvt's Home, and F4 behind half of itself
pub replace_behind_broken : keys (codes "\u{1b}[7\u{1c}\u{1b}[14\u{1b}OS") ≡ Replace ∷ Replace ∷ []
replace_behind_broken = refl

pub f3_behind_broken : keys (codes "\u{1b}O\u{1b}OR") ≡ FindNext ∷ []
f3_behind_broken = refl

pub behind_broken : keys (codes "\u{1b}[1;5\u{3}x") ≡ Copy ∷ Insert 0x78 ∷ []
behind_broken = refl

pub cut_behind_broken : keys (codes "\u{1b}[1;5\u{18}") ≡ Cut ∷ []
cut_behind_broken = refl

pub behind_escape : keys (codes "\u{1b}\u{17}") ≡ Find ∷ []
behind_escape = refl

pub questions_behind_broken : keys (codes "\u{1b}\u{7}\u{1b}[1;5\u{b}\u{1b}[7\u{14}") ≡ GoTo ∷ Name ∷ Tell ∷ []
questions_behind_broken = refl

pub searches_behind_broken : keys (codes "\u{1b}[1;5\u{6}\u{1b}O\u{6}\u{1b}\u{6}\u{1b}[1;5\u{2}\u{1b}O\u{2}\u{1b}\u{2}\u{1b}[8;2;3\u{6}")
    ≡ Find ∷ Find ∷ Find ∷ FindBack ∷ FindBack ∷ FindBack ∷ Find ∷ []
searches_behind_broken = refl

pub all_behind_broken : keys (codes "\u{1b}[1;5\u{1}\u{1b}O\u{1}\u{1b}\u{1}") ≡ SelectAll ∷ SelectAll ∷ SelectAll ∷ []
all_behind_broken = refl

pub enter_behind_broken : keys (codes "\u{1b}O1;2\r") ≡ Insert 0x3B ∷ Insert 0x32 ∷ NewLine ∷ []
enter_behind_broken = refl

pub quit_behind_broken : keys (codes "\u{1b}[1;5\u{1f}") ≡ Quit ∷ []
quit_behind_broken = refl

pub keys_of_quit_behind_broken : keys (codes "\u{1b}[1;5\u{1f}\u{1b}O\u{1f}\u{1b}\u{1f}\u{1b}[1;5\u{1b}[21~\u{1b}O\u{1b}[21~\u{1b}\u{1b}[21~") ≡ Quit ∷ Quit ∷ Quit ∷ Quit ∷ Quit ∷ Quit ∷ []
keys_of_quit_behind_broken = refl

pub steps_behind_broken : keys (codes "\u{1b}[1;5\u{1b}[1;3C\u{1b}O\u{1b}[1;3C\u{1b}[8;10\u{1b}\u{1b}[D\u{1b}O\u{1b}\u{1b}[D\u{1b}\u{1b}\u{1b}[D")
    ≡ Forward ∷ Forward ∷ Back ∷ Back ∷ Back ∷ []
steps_behind_broken = refl

-- a sequence that breaks off takes no digit
pub own_can : keys (codes "\u{1b}[1;5\u{1b}Oq") ≡ Insert 0x31 ∷ []
own_can = refl
