-- The sequences that terminals send for keys. `r` is a row, `bs` are bytes.
use Rattle.std.specs.Prelude.{ℕ, Bool, true, false, List, [], ◌∷◌, ◌++◌, map, find, codes, Option, if◌then◌else◌}
use Rattle.std.specs.Str.{bytes_eq}
use Rattle.bx_bytes.specs.Pattern.{Piece, One}
use Rattle.bx_keys.specs.declared.key.Key.{Key}
use Rattle.bx_keys.specs.declared.key.Key.TheVariants.{Insert, Delete, Back, Forward, Right, Left, RowHome, RowEnd, Quit, Direction}
use Rattle.bx_keys.specs.declared.key.Key.TheVariants.{Mark, Copy, Cut, Put, Find, FindBack, WordLeft, WordRight, TextStart, TextEnd, Help}
use Rattle.bx_keys.specs.declared.key.Key.TheVariants.{EraseWord, DeleteWord, FindNext, ErasePoint, NewLine, LineUp, LineDown, PageBack, PageOn}
use Rattle.bx_keys.specs.declared.key.Key.TheVariants.{Select, Undo, Redo, GoTo, Replace, Name, Tell, SelectAll, FindPrevious, SaveAs, PasteStart}

-- a sequence of a terminal, and the editor's keys for it: one, or Select and one
pub record Row : Type 0 where
  pub sequence : List ℕ
  pub selects : Bool
  pub key : Key

-- the editor's keys for the sequence
abbrev pub keys_of : Row → List Key
keys_of r = if r.selects then Select ∷ r.key ∷ [] else r.key ∷ []

-- CSI (ECMA-48: ESC and `[`) and these bytes
abbrev pub csi : List ℕ → List ℕ
csi bs = 0x1B ∷ 0x5B ∷ bs

-- a row without Select
abbrev row : List ℕ → Key → Row
row sequence key = record { sequence = sequence; selects = false; key = key }

-- a row with Select before the key
abbrev selecting_row : List ℕ → Key → Row
selecting_row sequence key = record { sequence = sequence; selects = true; key = key }

-- SS3 (ECMA-48: ESC and `O`) and these bytes
abbrev pub ss3 : List ℕ → List ℕ
ss3 bs = 0x1B ∷ 0x4F ∷ bs

-- Up, Down, Page Up and Page Down; the other arrows, Home and End come as the editor has them
abbrev row_keys : List Row
row_keys =
    row (csi (codes "A")) LineUp
    ∷ row (csi (codes "B")) LineDown
    ∷ row (csi (codes "5~")) PageBack
    ∷ row (csi (codes "6~")) PageOn
    ∷ []

-- arrows, Home and End in the application mode of xterm, tmux, screen, rxvt and the Linux console
abbrev application_keys : List Row
application_keys =
    row (ss3 (codes "A")) LineUp
    ∷ row (ss3 (codes "B")) LineDown
    ∷ row (ss3 (codes "C")) Right
    ∷ row (ss3 (codes "D")) Left
    ∷ row (ss3 (codes "H")) RowHome
    ∷ row (ss3 (codes "F")) RowEnd
    ∷ []

-- Home and End of rxvt
abbrev rxvt_keys : List Row
rxvt_keys = row (csi (codes "7~")) RowHome ∷ row (csi (codes "8~")) RowEnd ∷ []

-- arrows, Home and End with Shift, as xterm, tmux and screen send them
abbrev shifted_keys : List Row
shifted_keys =
    selecting_row (csi (codes "1;2A")) LineUp
    ∷ selecting_row (csi (codes "1;2B")) LineDown
    ∷ selecting_row (csi (codes "1;2C")) Right
    ∷ selecting_row (csi (codes "1;2D")) Left
    ∷ selecting_row (csi (codes "1;2H")) RowHome
    ∷ selecting_row (csi (codes "1;2F")) RowEnd
    ∷ []

-- arrows, Home and End with Shift, as rxvt sends them
abbrev shifted_rxvt_keys : List Row
shifted_rxvt_keys =
    selecting_row (csi (codes "a")) LineUp
    ∷ selecting_row (csi (codes "b")) LineDown
    ∷ selecting_row (csi (codes "c")) Right
    ∷ selecting_row (csi (codes "d")) Left
    ∷ selecting_row (csi (codes "7$")) RowHome
    ∷ selecting_row (csi (codes "8$")) RowEnd
    ∷ []

-- Home and End with Shift, of st
abbrev shifted_st_keys : List Row
shifted_st_keys = selecting_row (csi (codes "2J")) RowHome ∷ selecting_row (csi (codes "2K")) RowEnd ∷ []

-- Left, Right, Home and End with Shift and Ctrl, of xterm, tmux and screen
abbrev shifted_control_keys : List Row
shifted_control_keys =
    selecting_row (csi (codes "1;6D")) WordLeft
    ∷ selecting_row (csi (codes "1;6C")) WordRight
    ∷ selecting_row (csi (codes "1;6H")) TextStart
    ∷ selecting_row (csi (codes "1;6F")) TextEnd
    ∷ []

-- Delete of st outside its keypad mode
abbrev delete_keys : List Row
delete_keys = row (csi (codes "P")) Delete ∷ []

-- Delete with Ctrl, of xterm, tmux and screen; of rxvt; of st
abbrev delete_word_keys : List Row
delete_word_keys =
    row (csi (codes "3;5~")) DeleteWord
    ∷ row (csi (codes "3^")) DeleteWord
    ∷ row (csi (codes "M")) DeleteWord
    ∷ []

-- the key that erases, with Alt
abbrev erase_word_keys : List Row
erase_word_keys =
    row (0x1B ∷ 0x7F ∷ []) EraseWord
    ∷ row (0x1B ∷ 0x08 ∷ []) EraseWord
    ∷ []

-- F2, of xterm, tmux and screen; of rxvt and PuTTY; of the Linux console
abbrev direction_keys : List Row
direction_keys =
    row (ss3 (codes "Q")) Direction
    ∷ row (csi (codes "12~")) Direction
    ∷ row (csi (codes "[B")) Direction
    ∷ []

-- the keypad's digits in the application mode of a VT100, of xterm and of rxvt
abbrev keypad_digits : List Row
keypad_digits =
    row (ss3 (codes "p")) (Insert 0x30)
    ∷ row (ss3 (codes "q")) (Insert 0x31)
    ∷ row (ss3 (codes "r")) (Insert 0x32)
    ∷ row (ss3 (codes "s")) (Insert 0x33)
    ∷ row (ss3 (codes "t")) (Insert 0x34)
    ∷ row (ss3 (codes "u")) (Insert 0x35)
    ∷ row (ss3 (codes "v")) (Insert 0x36)
    ∷ row (ss3 (codes "w")) (Insert 0x37)
    ∷ row (ss3 (codes "x")) (Insert 0x38)
    ∷ row (ss3 (codes "y")) (Insert 0x39)
    ∷ []

-- F1, of the terminals that `direction_keys` names
abbrev help_keys : List Row
help_keys =
    row (ss3 (codes "P")) Help
    ∷ row (csi (codes "11~")) Help
    ∷ row (csi (codes "[A")) Help
    ∷ []

-- F3, of the terminals that `direction_keys` names
abbrev find_keys : List Row
find_keys =
    row (ss3 (codes "R")) FindNext
    ∷ row (csi (codes "13~")) FindNext
    ∷ row (csi (codes "[C")) FindNext
    ∷ []

-- F3 with Shift, of xterm, tmux and screen; of rxvt and the Linux console; of terminals that keep SS3
abbrev previous_keys : List Row
previous_keys =
    row (csi (codes "1;2R")) FindPrevious
    ∷ row (csi (codes "25~")) FindPrevious
    ∷ row (ss3 (codes "1;2R")) FindPrevious
    ∷ []

-- Right and Left with Alt and Shift, of xterm, tmux and screen
abbrev shifted_step_keys : List Row
shifted_step_keys =
    selecting_row (csi (codes "1;4C")) Forward
    ∷ selecting_row (csi (codes "1;4D")) Back
    ∷ []

-- F7, of xterm, rxvt and the Linux console; and Ctrl with the key W, where a Hebrew layout gives an apostrophe, of terminals that
-- are asked to tell Ctrl (xterm's modifyOtherKeys)
abbrev search_keys : List Row
search_keys = row (csi (codes "18~")) Find ∷ row (csi (codes "27;5;39~")) Find ∷ []

-- F10, of the same terminals; and Ctrl with the key Q, where a Hebrew layout gives a slash
abbrev quit_keys : List Row
quit_keys = row (csi (codes "21~")) Quit ∷ row (csi (codes "27;5;47~")) Quit ∷ []

-- Enter with Shift, with Ctrl and with both, and TAB with Ctrl, of terminals that are asked to tell modified keys
abbrev told_keys : List Row
told_keys =
    row (csi (codes "27;2;13~")) NewLine
    ∷ row (csi (codes "27;5;13~")) NewLine
    ∷ row (csi (codes "27;6;13~")) NewLine
    ∷ row (csi (codes "27;5;9~")) (Insert 0x09)
    ∷ []

-- Right and Left with Alt, of xterm, tmux and screen; of terminals that send an ESC for Alt
abbrev step_keys : List Row
step_keys =
    row (csi (codes "1;3C")) Forward
    ∷ row (csi (codes "1;3D")) Back
    ∷ row (0x1B ∷ csi (codes "C")) Forward
    ∷ row (0x1B ∷ csi (codes "D")) Back
    ∷ []

-- F4, of the terminals that `direction_keys` names
abbrev replace_keys : List Row
replace_keys =
    row (ss3 (codes "S")) Replace
    ∷ row (csi (codes "14~")) Replace
    ∷ row (csi (codes "[D")) Replace
    ∷ []

-- Left and Right with Ctrl, of xterm, tmux and screen; of rxvt; of terminals that leave out 1 and the semicolon
abbrev word_keys : List Row
word_keys =
    row (csi (codes "1;5D")) WordLeft
    ∷ row (csi (codes "1;5C")) WordRight
    ∷ row (ss3 (codes "d")) WordLeft
    ∷ row (ss3 (codes "c")) WordRight
    ∷ row (csi (codes "5D")) WordLeft
    ∷ row (csi (codes "5C")) WordRight
    ∷ []

-- Home and End with Ctrl, of xterm, tmux and screen; of rxvt
abbrev text_end_keys : List Row
text_end_keys =
    row (csi (codes "1;5H")) TextStart
    ∷ row (csi (codes "1;5F")) TextEnd
    ∷ row (csi (codes "7^")) TextStart
    ∷ row (csi (codes "8^")) TextEnd
    ∷ []

-- the rows with Select
abbrev selecting_rows : List Row
selecting_rows = shifted_keys ++ (shifted_rxvt_keys ++ (shifted_st_keys ++ shifted_control_keys))

-- the rows whose keys move or select
abbrev pub move_rows : List Row
move_rows = row_keys ++ (application_keys ++ (rxvt_keys ++ (selecting_rows ++ (word_keys ++ (text_end_keys ++ (step_keys ++ shifted_step_keys))))))

-- the rows whose keys erase or insert
abbrev pub typing_rows : List Row
typing_rows = delete_keys ++ (delete_word_keys ++ (erase_word_keys ++ (told_keys ++ keypad_digits)))

-- the rows of the function keys
abbrev pub function_rows : List Row
function_rows = direction_keys ++ (help_keys ++ (find_keys ++ (previous_keys ++ (search_keys ++ (replace_keys ++ quit_keys)))))

-- the rows whose sequence begins with ESC
abbrev pub escape_rows : List Row
escape_rows = move_rows ++ (typing_rows ++ function_rows)

-- the rows whose sequence is one control byte: Ctrl with @ (or the space bar), A, B, C, F, G, K, O, R, T, V, W, X, Y, Z, the
-- backslash and the slash, which is on the key Q of a Hebrew layout, Enter, and the key that erases
abbrev pub control_rows : List Row
control_rows =
    row (0x00 ∷ []) Mark
    ∷ row (0x01 ∷ []) SelectAll
    ∷ row (0x02 ∷ []) FindBack
    ∷ row (0x03 ∷ []) Copy
    ∷ row (0x06 ∷ []) Find
    ∷ row (0x07 ∷ []) GoTo
    ∷ row (0x0B ∷ []) Name
    ∷ row (0x0F ∷ []) SaveAs
    ∷ row (0x12 ∷ []) FindBack
    ∷ row (0x14 ∷ []) Tell
    ∷ row (0x16 ∷ []) Put
    ∷ row (0x17 ∷ []) Find
    ∷ row (0x18 ∷ []) Cut
    ∷ row (0x19 ∷ []) Redo
    ∷ row (0x1A ∷ []) Undo
    ∷ row (0x1C ∷ []) Replace
    ∷ row (0x1F ∷ []) Quit
    ∷ row (0x0D ∷ []) NewLine
    ∷ row (0x7F ∷ []) ErasePoint
    ∷ []

-- The key that erases gives 7F or 08. Where the terminal's own erase character is 7F, 08 comes from another one, mostly that
-- key with Ctrl.
abbrev pub erase_row : Bool → Row
erase_row erases_by_delete = row (0x08 ∷ []) (if erases_by_delete then EraseWord else ErasePoint)

-- the rows whose sequence is one byte
abbrev pub byte_rows : Bool → List Row
byte_rows erases_by_delete = erase_row erases_by_delete ∷ control_rows

-- all rows but that of 08
abbrev pub fixed_rows : List Row
fixed_rows = control_rows ++ escape_rows

-- all rows of the table
abbrev pub rows : Bool → List Row
rows erases_by_delete = erase_row erases_by_delete ∷ fixed_rows

-- the two marks that a terminal puts around a paste (xterm's bracketed paste)
abbrev pub paste_start : List ℕ
paste_start = csi (codes "200~")

abbrev pub paste_end : List ℕ
paste_end = csi (codes "201~")

-- these bytes and no others
abbrev pub exact : List ℕ → List Piece
exact bs = map (λ b. One b b) bs

-- the start of a paste, and all rows, of which those of one sequence differ only in their key
abbrev pub known_rows : List Row
known_rows = row paste_start PasteStart ∷ rows false

-- the sequences of the table and a paste's start, the same for each erase character
abbrev pub sequences : List (List Piece)
sequences = map (λ (r : Row). exact r.sequence) known_rows

-- the row with this sequence; None if no row has it, as for a paste's start
abbrev pub row_of : Bool → List ℕ → Option Row
row_of erases_by_delete bs = find (λ (r : Row). bytes_eq r.sequence bs) (rows erases_by_delete)
