-- The picture that a world's terminal shows, and will show once it has read all bytes in transit. `d` is Unicode's data, `w` a
-- world, `s` its session, `e` an editor, `t` a terminal.
use Rattle.std.specs.Prelude.{◌≡◌, ℕ, Bool, true, false, List, [], ◌∷◌, ◌==◌, IfSome, Option, Some, None, ◌++◌}
use Rattle.bx_grid.specs.Picture.{PictureState, IsIdle, Shows}
use Rattle.bx_grid.specs.Terminal.{Terminal, reads}
use Rattle.bx_ucd.specs.Data.{Data}
use Rattle.bx_editor.specs.Editor.{Editor}
use Rattle.bx_editor.specs.Picture.{StandsOnItsCell, picture}
use Rattle.bx_editor.specs.Status.{input_column}
use Rattle.bx_session.specs.Session.{Session}
use Rattle.bx_session.specs.Painting.{ShowsState}
use Rattle.bx_world.specs.World.{World}
use Rattle.bx_terminal.specs.Screens.{IfShown}

-- the picture of the state: the rows that the rules give for the text, and the cursor's cell
abbrev pub picture_of : Data → Session → PictureState
picture_of d s = picture d s.editor s.editor.top

-- the value of a `World` (`src/world.rt`): a world and the tables of its session
pub record WorldState (D : Type 0) : Type 0 where
  pub tables : D
  pub world : World

-- the bytes that the terminal has not read yet: in transit, then pending in the session
abbrev pub unread : World → List ℕ
unread w = w.line ++ w.session.pending

-- a property of the terminal, unless it has failed, once it has read the line and the pending bytes
abbrev pub AfterAll : World → (Terminal → Type 0) → Type 0
AfterAll w holds = IfSome w.screen (λ t. holds (reads t (unread w)))

-- if the session was told the window's last size and no painting is owed, the terminal will show the picture of the state
abbrev pub WillShow : Data → World → Type 0
WillShow d w = w.told ≡ true → w.session.painting_owed ≡ false → AfterAll w (λ t. Shows t (picture_of d w.session))

-- the terminal will have no sequence half read, whatever was told or refused
abbrev pub StaysWhole : World → Type 0
StaysWhole w = AfterAll w IsIdle

-- the terminal shows the picture of the state
abbrev pub ShowsNow : Data → World → Type 0
ShowsNow d w = IfSome w.screen (λ t. Shows t (picture_of d w.session))

-- if the last call was accepted, the session was told the window's last size and all bytes are read, the terminal shows
-- the picture of the state
abbrev pub ShowsWhenRead : Bool → Data → World → Type 0
ShowsWhenRead accepted d w = accepted ≡ true → w.told ≡ true → w.line ≡ [] → w.session.pending ≡ [] → ShowsNow d w

-- unless a painting is owed, the session has ended or an input line has the cursor, it is on the cell of its place in the text
abbrev pub CursorStands : Data → Session → Type 0
CursorStands d s =
    s.painting_owed ≡ false → s.editor.ended ≡ false → input_column d s.editor ≡ None → StandsOnItsCell d s.editor s.editor.top (picture_of d s)

-- ---- the invariant of all steps

-- the bytes begin with ESC, as a control sequence does
abbrev pub begins_sequence : List ℕ → Bool
begins_sequence [] = false
begins_sequence (b ∷ rest) = b == 0x1B

-- ESC ends a terminal's run of characters, so there is none while a sequence is half read
abbrev pub NoRunInSequence : Terminal → Type 0
NoRunInSequence t = begins_sequence t.half_read ≡ true → t.run ≡ []

-- the terminal has these rows and columns
abbrev pub HasSize : ℕ → ℕ → Terminal → Type 0
HasSize height width t = (t.height ≡ height) × (t.width ≡ width)

-- the editor has these rows and columns
abbrev pub FitsWindow : ℕ → ℕ → Editor → Type 0
FitsWindow height width e = (e.height ≡ height) × (e.width ≡ width)

-- the world, wherever steps led it
pub record IsInStep (d : Data) (w : World) : Type 0 where
  -- unless a painting is owed, the picture last painted is the state's, and the screen is assumed to show it
  pub state : ShowsState d w.session
  pub cursor : CursorStands d w.session
  -- if the session was told the window's last size, the terminal will show the picture that the screen is assumed to show
  pub follows : w.told ≡ true → IfSome w.session.known (λ p. AfterAll w (λ t. Shows t p))
  pub whole : StaysWhole w
  pub screen : IfSome w.screen (λ t. HasSize w.height w.width t × NoRunInSequence t)
  pub size : w.told ≡ true → FitsWindow w.height w.width w.session.editor

-- a terminal that has not failed shows the picture; never so if there is none
abbrev pub IsShownOn : Option PictureState → Option Terminal → Type 0
IsShownOn None screen = ⊥
IsShownOn (Some p) screen = IfShown screen p
