-- Worked examples of mouse reports, and their keys.
use Rattle.std.proofs.Common.{◌≡◌, ℕ, false, List, [], ◌∷◌, ◌++◌, refl}
use Rattle.std.specs.Prelude.{codes}
use Rattle.bx_keys.specs.declared.key.Key.{Key}
use Rattle.bx_keys.specs.declared.key.Key.TheVariants.{Insert, NewLine, LineUp, Select, PasteStart, PasteEnd, Point, Drag, ScrollBack, ScrollOn}
use Rattle.bx_input.specs.Table.{paste_start, paste_end}
use Rattle.bx_input.specs.Scan as scan
use Rattle.bx_input.specs.Scan.{Part, passed}
use Rattle.bx_input_laws.specs.Laws as laws

-- where the terminal's own erase character is another than DELETE
abbrev scanned : List ℕ → List Part
scanned = scan.scanned false

abbrev keys : List ℕ → List Key
keys = laws.keys false

-- the column comes first in a report, the row first in the key
pub a_press : keys (codes "\u{1b}[<0;3;2M") ≡ Point 2 3 ∷ []
a_press = refl

-- a press with Shift, a move with the button down, and both
pub drags : keys (codes "\u{1b}[<4;3;2M\u{1b}[<32;3;2M") ≡ Select ∷ Point 2 3 ∷ Drag 2 3 ∷ []
drags = refl

pub drags_select : keys (codes "\u{1b}[<4;3;2M\u{1b}[<32;3;2M\u{1b}[<36;3;2M") ≡ Select ∷ Point 2 3 ∷ Drag 2 3 ∷ Drag 2 3 ∷ []
drags_select = refl

pub the_wheel : keys (codes "\u{1b}[<64;3;2M\u{1b}[<65;3;2M") ≡ ScrollBack ∷ ScrollOn ∷ []
the_wheel = refl

-- other buttons, moves with none, and other modifiers
pub other_buttons : keys (codes "\u{1b}[<1;3;2M\u{1b}[<2;3;2M\u{1b}[<3;3;2M\u{1b}[<5;3;2M\u{1b}[<8;3;2M\u{1b}[<16;3;2M\u{1b}[<33;3;2M\u{1b}[<34;3;2M") ≡ []
other_buttons = refl

pub more_buttons : keys (codes "\u{1b}[<35;3;2M\u{1b}[<37;3;2M\u{1b}[<66;3;2M\u{1b}[<67;3;2M\u{1b}[<68;3;2M\u{1b}[<69;3;2M\u{1b}[<96;3;2M") ≡ []
more_buttons = refl

pub largest_buttons : keys (codes "\u{1b}[<128;3;2M\u{1b}[<255;3;2M\u{1b}[<999;3;2M") ≡ []
largest_buttons = refl

-- a button that is let go
pub releases : keys (codes "\u{1b}[<0;3;2m\u{1b}[<4;3;2m\u{1b}[<32;3;2m\u{1b}[<36;3;2m\u{1b}[<64;3;2m\u{1b}[<65;3;2m\u{1b}[<3;3;2m") ≡ []
releases = refl

-- the last cell, and leading zeros, which stay
pub the_last_cell : keys (codes "\u{1b}[<0;500;500M") ≡ Point 500 500 ∷ []
the_last_cell = refl

pub leading_zeros : keys (codes "\u{1b}[<00;007;01M\u{1b}[<32;003;02M") ≡ Point 1 7 ∷ Drag 2 3 ∷ []
leading_zeros = refl

pub keys_go_through : keys (codes "\u{1b}[9;2;3t\u{1b}[104~\u{1b}[105~") ≡ Drag 2 3 ∷ ScrollBack ∷ ScrollOn ∷ []
keys_go_through = refl

-- ---- what is no report goes through, and is no key
abbrev other_cells : List ℕ
other_cells = codes "\u{1b}[<0;501;1M\u{1b}[<0;1;501M\u{1b}[<0;0;1M\u{1b}[<0;1;0M\u{1b}[<0;1;0001M\u{1b}[<0000;1;1M"

pub other_cells_pass : scanned other_cells ≡ passed other_cells
other_cells_pass = refl

pub other_cells_are_no_keys : keys other_cells ≡ []
other_cells_are_no_keys = refl

abbrev other_fields : List ℕ
other_fields = codes "\u{1b}[<0;1M\u{1b}[<0;1;1;1M\u{1b}[<;1;1M\u{1b}[<M\u{1b}[0;1;1M\u{1b}[<0;1;1t"

pub other_fields_pass : scanned other_fields ≡ passed other_fields
other_fields_pass = refl

pub other_fields_are_no_keys : keys other_fields ≡ []
other_fields_are_no_keys = refl

abbrev other_bytes : List ℕ
other_bytes = codes "\u{1b}[<-1;1;1M\u{1b}[<+0;1;1M\u{1b}[<0;1;1 M"

pub other_bytes_pass : scanned other_bytes ≡ passed other_bytes
other_bytes_pass = refl

pub other_bytes_are_no_keys : keys other_bytes ≡ []
other_bytes_are_no_keys = refl

-- ---- what breaks off
pub broken_by_enter : keys (codes "\u{1b}[<0;3\r") ≡ NewLine ∷ []
broken_by_enter = refl

pub broken_by_a_report : keys (codes "\u{1b}[<0;3\u{1b}[<0;3;2M\u{1b}[1;5\u{1b}[<0;3;2M") ≡ Point 2 3 ∷ Point 2 3 ∷ []
broken_by_a_report = refl

pub broken_by_a_letter : keys (codes "\u{1b}[<0;3x") ≡ []
broken_by_a_letter = refl

-- a report that gives nothing ends a sequence that stands open, and between letters is nothing
pub a_release_ends_it : keys (codes "\u{1b}[1;5\u{1b}[<0;3;2mA") ≡ Insert 0x41 ∷ []
a_release_ends_it = refl

pub a_move_between_letters : keys (codes "a\u{1b}[<3;3;2Mb") ≡ Insert 0x61 ∷ Insert 0x62 ∷ []
a_move_between_letters = refl

-- Replace's first bytes, and Up with Shift
pub broken_by_shift_and_up : keys (codes "\u{1b}[14\u{1b}[1;2A") ≡ Select ∷ LineUp ∷ []
broken_by_shift_and_up = refl

-- ---- in a paste
pub a_report_in_a_paste : keys (paste_start ++ (codes "\u{1b}[<0;3;2Ma" ++ paste_end))
    ≡ PasteStart ∷ Insert 0x5B ∷ Insert 0x3C ∷ Insert 0x30 ∷ Insert 0x3B ∷ Insert 0x33 ∷ Insert 0x3B ∷ Insert 0x32 ∷ Insert 0x4D ∷ Insert 0x61 ∷ PasteEnd ∷ []
a_report_in_a_paste = refl

pub a_drag_in_a_paste : keys (paste_start ++ (codes "\u{1b}[<32;3;2M" ++ paste_end))
    ≡ PasteStart ∷ Insert 0x5B ∷ Insert 0x3C ∷ Insert 0x33 ∷ Insert 0x32 ∷ Insert 0x3B ∷ Insert 0x33 ∷ Insert 0x3B ∷ Insert 0x32 ∷ Insert 0x4D ∷ PasteEnd ∷ []
a_drag_in_a_paste = refl

pub a_cell_in_a_paste : keys (paste_start ++ (codes "\u{1b}[7;1;1t" ++ paste_end) ++ codes "\u{1b}[<0;3;2M")
    ≡ PasteStart ∷ Insert 0x5B ∷ Insert 0x37 ∷ Insert 0x3B ∷ Insert 0x31 ∷ Insert 0x3B ∷ Insert 0x31 ∷ Insert 0x74 ∷ PasteEnd ∷ Point 2 3 ∷ []
a_cell_in_a_paste = refl

pub a_report_behind_a_paste : keys (paste_start ++ (codes "\u{1b}[<" ++ paste_end) ++ codes "\u{1b}[<0;3;2M")
    ≡ PasteStart ∷ Insert 0x5B ∷ Insert 0x3C ∷ PasteEnd ∷ Point 2 3 ∷ []
a_report_behind_a_paste = refl
