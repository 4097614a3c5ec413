-- The key of each item, and the keys of input: what a decoder gives. `b` is a byte, `bs` are bytes, `rest` bytes that wait; of a
-- size, `h` are the rows, `w` the columns; of a cell, `h` is the row, `w` the column.
use Rattle.bx_common.specs.Characters.{is_side}
use Rattle.std.specs.Prelude.{ℕ, zero, suc, ◌-◌, max, Bool, ◌&&◌, nat_le, ◌==◌, List, [], ◌∷◌, ◌++◌, length, slice_index, take, drop, Option, Some, None}
use Rattle.std.specs.Prelude.{find, option_map, option_to_list, codes, if◌then◌else◌}
use Rattle.std.specs.List.{slice_split}
use Rattle.std.specs.Str.{chars, bytes_eq, all_ascii_digits}
use Rattle.std.specs.Str.Parse.{digits_value}
use Rattle.bx_bytes.specs.Utf8.{is_ascii_printable}
use Rattle.bx_keys.specs.Items.{is_item, begins_item}
use Rattle.bx_keys.specs.declared.key.Key.{Key}
use Rattle.bx_keys.specs.declared.key.Key.TheVariants.{Insert, Erase, Delete, Back, Forward, Up, Down, Right, Left, RowHome, RowEnd, PageUp, PageDown, Save}
use Rattle.bx_keys.specs.declared.key.Key.TheVariants.{Quit, UndoEdit, RedoEdit, Repaint, Direction, Size, Point, Drag, Notice}
use Rattle.bx_keys.specs.declared.key.Key.TheVariants.{Mark, Copy, Cut, Put, Find, FindBack, WordLeft, WordRight, TextStart, TextEnd, Help}
use Rattle.bx_keys.specs.declared.key.Key.TheVariants.{EraseWord, DeleteWord, FindNext, Cancel, ErasePoint, NewLine, LineUp, LineDown, PageBack, PageOn}
use Rattle.bx_keys.specs.declared.key.Key.TheVariants.{Select, Undo, Redo, GoTo, Replace, Name, Tell, PasteStart, PasteEnd}
use Rattle.bx_keys.specs.declared.key.Key.TheVariants.{SelectAll, FindPrevious, Fill, SaveAs, ScrollBack, ScrollOn, AskOverwrite}
use Rattle.bx_keys.specs.declared.notice.Notice.TheVariants as notices

-- ---- the key of an item

-- Ctrl with B, F, H, I, J, M, L, Q, S, Y and Z, and DELETE (7F)
abbrev pub control_keys : List (ℕ × Key)
control_keys =
    (0x02, Back) ∷ (0x06, Forward) ∷ (0x08, Erase) ∷ (0x7F, Erase) ∷ (0x09, Insert 0x09) ∷ (0x0A, Insert 0x0A)
    ∷ (0x0D, Insert 0x0A) ∷ (0x0C, Repaint) ∷ (0x11, Quit) ∷ (0x13, Save) ∷ (0x19, RedoEdit) ∷ (0x1A, UndoEdit) ∷ []

-- the key of an item of one byte below 80
abbrev pub single_key : ℕ → Option Key
single_key b = if is_ascii_printable b then Some (Insert b) else option_map (λ k. k.1) (find (λ k. k.0 == b) control_keys)

-- the bytes after CSI, with their keys. Those up to 6~ are as terminals send them; 9~ and 70~ to 105~ are the numbers that
-- the filter (`bx_input`), and for 93~ the host, write in place of what terminals send; a journal has 106~ where a save
-- asked; those with > are the notices of the host.
abbrev pub sequence_keys : List (List ℕ × Key)
sequence_keys =
    (codes "A", Up) ∷ (codes "B", Down) ∷ (codes "C", Right) ∷ (codes "D", Left) ∷ (codes "H", RowHome) ∷ (codes "F", RowEnd)
    ∷ (codes "1~", RowHome) ∷ (codes "4~", RowEnd) ∷ (codes "3~", Delete) ∷ (codes "5~", PageUp) ∷ (codes "6~", PageDown)
    ∷ (codes "9~", Direction) ∷ (codes "70~", Find) ∷ (codes "71~", FindBack)
    ∷ (codes "72~", Mark) ∷ (codes "73~", Copy) ∷ (codes "74~", Cut) ∷ (codes "75~", Put)
    ∷ (codes "76~", WordLeft) ∷ (codes "77~", WordRight) ∷ (codes "78~", TextStart) ∷ (codes "79~", TextEnd)
    ∷ (codes "80~", Help) ∷ (codes "81~", Select) ∷ (codes "82~", Undo) ∷ (codes "83~", Redo)
    ∷ (codes "84~", GoTo) ∷ (codes "85~", Replace) ∷ (codes "86~", Name) ∷ (codes "87~", Tell)
    ∷ (codes "88~", EraseWord) ∷ (codes "89~", DeleteWord) ∷ (codes "90~", PasteStart) ∷ (codes "91~", PasteEnd)
    ∷ (codes "92~", FindNext) ∷ (codes "93~", Cancel) ∷ (codes "94~", ErasePoint) ∷ (codes "95~", NewLine)
    ∷ (codes "96~", LineUp) ∷ (codes "97~", LineDown) ∷ (codes "98~", PageBack) ∷ (codes "99~", PageOn)
    ∷ (codes "100~", SelectAll) ∷ (codes "101~", FindPrevious) ∷ (codes "102~", Fill) ∷ (codes "103~", SaveAs)
    ∷ (codes "104~", ScrollBack) ∷ (codes "105~", ScrollOn) ∷ (codes "106~", AskOverwrite)
    ∷ (codes ">1~", Notice notices.NoSpace) ∷ (codes ">2~", Notice notices.FolderGone)
    ∷ (codes ">3~", Notice notices.NotPermitted) ∷ (codes ">4~", Notice notices.ReadOnly)
    ∷ (codes ">5~", Notice notices.Unkept) ∷ (codes ">6~", Notice notices.KeptAgain)
    ∷ (codes ">7~", Notice notices.Recovered) ∷ (codes ">8~", Notice notices.RecoveredAside)
    ∷ (codes ">9~", Notice notices.InPlace) ∷ []

-- a number in one to three digits
abbrev pub is_number : List ℕ → Bool
is_number ds = (nat_le 1 (length ds) && nat_le (length ds) 3) && all_ascii_digits ds

-- a side of a window in one to three digits, which may also be a row or a column in it
abbrev pub is_side_in_digits : List ℕ → Bool
is_side_in_digits ds = is_number ds && is_side (digits_value 10 ds)

-- what the first number says that the two after it are: 8 a window's size, 7 a cell that is pointed at, 9 one to which the
-- pointer is dragged
abbrev pub key_by_kind : List ℕ → ℕ → ℕ → Option Key
key_by_kind kind h w =
    if bytes_eq kind (codes "8") then Some (Size h w)
    else if bytes_eq kind (codes "7") then Some (Point h w)
    else if bytes_eq kind (codes "9") then Some (Drag h w)
    else None

-- what the host tells of a window, and what is told of a mouse: CSI 8 ; rows ; columns t, CSI 7 ; row ; column t and
-- CSI 9 ; row ; column t
abbrev pub sides_key : List (List ℕ) → Option Key
sides_key (kind ∷ h ∷ w ∷ []) =
    if is_side_in_digits h && is_side_in_digits w then key_by_kind kind (digits_value 10 h) (digits_value 10 w) else None
sides_key _ = None

-- the last of the bytes after CSI
abbrev pub final_byte : List ℕ → ℕ
final_byte body = slice_index body (length body - 1)

-- the bytes between CSI and the last one
abbrev pub before_final : List ℕ → List ℕ
before_final body = take (length body - 1) body

-- the key of the bytes after CSI
abbrev pub sequence_key : List ℕ → Option Key
sequence_key body =
    if final_byte body == 0x74 then sides_key (slice_split (λ b. b == 0x3B) (before_final body))
    else option_map (λ k. k.1) (find (λ k. bytes_eq k.0 body) sequence_keys)

-- the key of a character of more than one byte
abbrev pub character_key : List ℕ → Option Key
character_key [] = None
character_key (c ∷ cs) = Some (Insert c)

-- the key of an item, if it has one
abbrev pub key_of : List ℕ → Option Key
key_of [] = None
key_of (b ∷ []) = single_key b
key_of (b ∷ c ∷ rest) =
    if b == 0x1B then (if c == 0x5B then sequence_key rest else None)
    else character_key (chars (b ∷ c ∷ rest))

-- ---- the keys of input

-- the length of the longest prefix that begins an item, at most n
abbrev pub beginning_up_to : ℕ → List ℕ → ℕ
beginning_up_to zero bs = 0
beginning_up_to (suc n) bs = if begins_item (take (suc n) bs) then suc n else beginning_up_to n bs

-- the length of the longest prefix that begins an item
abbrev pub beginning : List ℕ → ℕ
beginning bs = beginning_up_to (length bs) bs

-- keys, and the bytes that wait for more
pub record Decoding : Type 0 where
  pub keys : List Key
  pub rest : List ℕ

-- the key, if there is one, before the keys of the rest
abbrev pub with_key : Option Key → Decoding → Decoding
with_key key d = record { keys = option_to_list key ++ d.keys; rest = d.rest }

-- the keys of bytes, in at most n cuts
abbrev pub decoding_within : ℕ → List ℕ → Decoding
decoding_within zero bs = record { keys = []; rest = bs }
decoding_within (suc n) [] = record { keys = []; rest = [] }
decoding_within (suc n) (b ∷ bs) =
    let long = beginning (b ∷ bs) in
    if is_item (take long (b ∷ bs)) then with_key (key_of (take long (b ∷ bs))) (decoding_within n (drop long (b ∷ bs)))
    else if long == length (b ∷ bs) then record { keys = []; rest = b ∷ bs }
    else decoding_within n (drop (max 1 long) (b ∷ bs))

-- The longest prefix that begins an item gives its key if it is an item, waits if no byte follows it, and is
-- dropped otherwise, at least one byte. Each cut takes a byte or more.
abbrev pub decoding : List ℕ → Decoding
decoding bs = decoding_within (length bs) bs

-- ---- one byte more

-- the first of some keys, if there is one
abbrev pub first_key : List Key → Option Key
first_key [] = None
first_key (key ∷ keys) = Some key

-- the key that a byte completes after bytes that wait; no byte completes two
abbrev pub key_after : List ℕ → ℕ → Option Key
key_after rest b = first_key (decoding (rest ++ b ∷ [])).keys

-- the bytes that wait after that byte
abbrev pub rest_after : List ℕ → ℕ → List ℕ
rest_after rest b = (decoding (rest ++ b ∷ [])).rest

-- the waiting bytes that a decoder keeps: the first twelve, since a sequence with more of them gives no key
abbrev pub head_of : List ℕ → List ℕ
head_of rest = take 12 rest
