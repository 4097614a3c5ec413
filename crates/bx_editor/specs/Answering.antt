-- What each key means where something is asked.
use Rattle.bx_keys.specs.declared.key.Key.{Key}
use Rattle.bx_keys.specs.declared.key.Key.TheVariants.{Insert, NewLine, Erase, ErasePoint, Delete, EraseWord, DeleteWord, Back, Forward, Left, Right}
use Rattle.bx_keys.specs.declared.key.Key.TheVariants.{WordLeft, WordRight, RowHome, RowEnd, Put, Up, Down, LineUp, LineDown, Select, Mark, Cut, Quit}
use Rattle.bx_keys.specs.declared.key.Key.TheVariants.{Copy, Cancel, Find, FindNext, FindBack, FindPrevious, Replace, ScrollBack, ScrollOn, Repaint}
use Rattle.bx_paragraph.specs.declared.moves.Visual.TheVariants as visual
use Rattle.bx_view.specs.declared.moves.Logical.TheVariants as logical
use Rattle.bx_view.specs.declared.moves.Move.TheVariants as moves
use Rattle.bx_view.specs.declared.moves.Vertical.TheVariants as ways
use Rattle.bx_editor.specs.declared.answer.Answer.{Answer}
use Rattle.bx_editor.specs.declared.answer.Answer.TheVariants.{Letter, Erases, Moves, PutsIn, Passes, GoesBack, Next, Previous, Replaces, Scrolls, Stays, Ends}
use Rattle.bx_editor.specs.declared.input_line.Erasure.TheVariants.{LastCharacter, Unit, WordBack, WordOn}

-- what each key means where an input line is shown; in a question Next, Previous and Replaces are as Ends
abbrev pub answer_of : Key → Answer
answer_of (Insert c) = Letter c
answer_of NewLine = Letter 0xA
answer_of Erase = Erases LastCharacter
answer_of ErasePoint = Erases LastCharacter
answer_of Delete = Erases Unit
answer_of EraseWord = Erases WordBack
answer_of DeleteWord = Erases WordOn
answer_of Back = Moves (moves.Logical logical.Back)
answer_of Forward = Moves (moves.Logical logical.Forward)
answer_of Left = Moves (moves.Visual visual.Left)
answer_of Right = Moves (moves.Visual visual.Right)
answer_of WordLeft = Moves (moves.WordTowards visual.Left)
answer_of WordRight = Moves (moves.WordTowards visual.Right)
answer_of RowHome = Moves moves.RowHome
answer_of RowEnd = Moves moves.RowEnd
answer_of Put = PutsIn
answer_of Up = Passes
answer_of Down = Passes
answer_of LineUp = Passes
answer_of LineDown = Passes
answer_of Select = Passes
answer_of Mark = Passes
answer_of Cut = Passes
answer_of Quit = GoesBack
answer_of Copy = GoesBack
answer_of Cancel = GoesBack
answer_of Find = Next
answer_of FindNext = Next
answer_of FindBack = Previous
answer_of FindPrevious = Previous
answer_of Replace = Replaces
answer_of ScrollBack = Scrolls ways.Up
answer_of ScrollOn = Scrolls ways.Down
answer_of Repaint = Stays
answer_of _ = Ends

-- what a key means where something is asked without an input line: what edits one has its usual effect there, but a character or a unit
-- is not erased
abbrev pub without_line : Answer → Answer
without_line (Erases WordBack) = Ends
without_line (Erases WordOn) = Ends
without_line (Moves m) = Ends
without_line PutsIn = Ends
without_line Passes = Ends
without_line answer = answer
