-- A key that does something of its own where something is asked is one that edits, moves or finds.
use Rattle.std.proofs.Common.{◌≡◌, Bool, true, false, refl}
use Rattle.bx_keys.specs.declared.key.Key.{Key}
use Rattle.bx_keys.specs.declared.key.Key.TheVariants.{Insert, Erase, Delete, Back, Forward, Up, Down, Right, Left, RowHome, RowEnd, PageUp, PageDown, Save}
use Rattle.bx_keys.specs.declared.key.Key.TheVariants.{Quit, UndoEdit, RedoEdit, Repaint, Direction, Size, Mark, Copy, Cut, Put}
use Rattle.bx_keys.specs.declared.key.Key.TheVariants.{Find, FindBack, WordLeft, WordRight, TextStart, TextEnd, Help, Notice}
use Rattle.bx_keys.specs.declared.key.Key.TheVariants.{EraseWord, DeleteWord, ErasePoint, NewLine, FindNext, Cancel, LineUp, LineDown, PageBack, PageOn}
use Rattle.bx_keys.specs.declared.key.Key.TheVariants.{Select, Undo, Redo, GoTo, Replace, Name, Tell, PasteStart, PasteEnd, Point}
use Rattle.bx_keys.specs.declared.key.Key.TheVariants.{AskOverwrite, Drag, Fill, FindPrevious, SaveAs, ScrollBack, ScrollOn, SelectAll}
use Rattle.bx_editor.specs.declared.answer.Answer.{Answer}
use Rattle.bx_editor.specs.declared.answer.Answer.TheVariants.{Letter, Erases, Moves, PutsIn, Passes, GoesBack, Next, Previous, Replaces, Scrolls, Stays, Ends}
use Rattle.bx_editor.specs.declared.input_line.Erasure.TheVariants.{LastCharacter, Unit, WordBack, WordOn}
use Rattle.bx_editor.specs.Answering.{answer_of, without_line}
use Rattle.bx_editor.specs.Keys.{is_edit_or_move}

-- it takes memory
abbrev pub takes_memory : Answer → Bool
takes_memory Passes = false
takes_memory GoesBack = false
takes_memory Stays = false
takes_memory Ends = false
takes_memory _ = true

pub edits-or-moves : (key : Key) → takes_memory (answer_of key) ≡ true → is_edit_or_move key ≡ true
edits-or-moves (Insert c) takes = refl
edits-or-moves Erase takes = refl
edits-or-moves Delete takes = refl
edits-or-moves Back takes = refl
edits-or-moves Forward takes = refl
edits-or-moves Up takes = absurd (cc takes)
edits-or-moves Down takes = absurd (cc takes)
edits-or-moves Right takes = refl
edits-or-moves Left takes = refl
edits-or-moves RowHome takes = refl
edits-or-moves RowEnd takes = refl
edits-or-moves PageUp takes = absurd (cc takes)
edits-or-moves PageDown takes = absurd (cc takes)
edits-or-moves Save takes = absurd (cc takes)
edits-or-moves Quit takes = absurd (cc takes)
edits-or-moves UndoEdit takes = absurd (cc takes)
edits-or-moves RedoEdit takes = absurd (cc takes)
edits-or-moves Repaint takes = absurd (cc takes)
edits-or-moves Direction takes = absurd (cc takes)
edits-or-moves Mark takes = absurd (cc takes)
edits-or-moves Copy takes = absurd (cc takes)
edits-or-moves Cut takes = absurd (cc takes)
edits-or-moves Put takes = refl
edits-or-moves Find takes = refl
edits-or-moves FindBack takes = refl
edits-or-moves WordLeft takes = refl
edits-or-moves WordRight takes = refl
edits-or-moves TextStart takes = absurd (cc takes)
edits-or-moves TextEnd takes = absurd (cc takes)
edits-or-moves Help takes = absurd (cc takes)
edits-or-moves EraseWord takes = refl
edits-or-moves DeleteWord takes = refl
edits-or-moves ErasePoint takes = refl
edits-or-moves NewLine takes = refl
edits-or-moves FindNext takes = refl
edits-or-moves Cancel takes = absurd (cc takes)
edits-or-moves LineUp takes = absurd (cc takes)
edits-or-moves LineDown takes = absurd (cc takes)
edits-or-moves PageBack takes = absurd (cc takes)
edits-or-moves PageOn takes = absurd (cc takes)
edits-or-moves Select takes = absurd (cc takes)
edits-or-moves Undo takes = absurd (cc takes)
edits-or-moves Redo takes = absurd (cc takes)
edits-or-moves GoTo takes = absurd (cc takes)
edits-or-moves Replace takes = refl
edits-or-moves Name takes = absurd (cc takes)
edits-or-moves Tell takes = absurd (cc takes)
edits-or-moves (Point row column) takes = absurd (cc takes)
edits-or-moves (Drag row column) takes = absurd (cc takes)
edits-or-moves ScrollBack takes = refl
edits-or-moves ScrollOn takes = refl
edits-or-moves SelectAll takes = absurd (cc takes)
edits-or-moves FindPrevious takes = refl
edits-or-moves SaveAs takes = absurd (cc takes)
edits-or-moves AskOverwrite takes = absurd (cc takes)
edits-or-moves Fill takes = absurd (cc takes)
edits-or-moves PasteStart takes = absurd (cc takes)
edits-or-moves PasteEnd takes = absurd (cc takes)
edits-or-moves (Size height width) takes = absurd (cc takes)
edits-or-moves (Notice notice) takes = absurd (cc takes)

with-line : (answer : Answer) → takes_memory (without_line answer) ≡ true → takes_memory answer ≡ true
with-line (Letter c) takes = refl
with-line (Erases LastCharacter) takes = refl
with-line (Erases Unit) takes = refl
with-line (Erases WordBack) takes = refl
with-line (Erases WordOn) takes = refl
with-line (Moves m) takes = refl
with-line PutsIn takes = refl
with-line Passes takes = absurd (cc takes)
with-line GoesBack takes = absurd (cc takes)
with-line Next takes = refl
with-line Previous takes = refl
with-line Replaces takes = refl
with-line (Scrolls way) takes = refl
with-line Stays takes = absurd (cc takes)
with-line Ends takes = absurd (cc takes)

-- without an input line
pub edits-or-moves-alone : (key : Key) → takes_memory (without_line (answer_of key)) ≡ true → is_edit_or_move key ≡ true
edits-or-moves-alone key takes = edits-or-moves key (with-line (answer_of key) takes)
