-- The effect of queued bytes on a terminal. `d` is Unicode's data, `s` a session, `e` an editor, `t` a terminal.
use Rattle.std.specs.Prelude.{◌≡◌, ◌⊎◌, ℕ, false, List, [], ◌∷◌, ◌++◌, Option, Some, None, IfSome, Ok, codes, option_map}
use Rattle.std.specs.Borrow.{Bor}
use Rattle.base64.specs.Engines.{standard}
use Rattle.base64.specs.GeneralPurpose.{decode_of}
use Rattle.bx_grid.specs.Picture.{PictureState, IsIdle, Shows}
use Rattle.bx_grid.specs.Grid.{AreWholeTokens, GridState, IsPicture}
use Rattle.bx_grid.specs.Terminal.{Terminal, reads}
use Rattle.bx_ucd.specs.Data.{Data}
use Rattle.bx_editor.specs.Editor.{Editor}
use Rattle.bx_editor.specs.Picture.{StandsOnItsCell}
use Rattle.bx_editor.specs.Status.{input_column}
use Rattle.bx_keys.specs.declared.key.Key.{Key}
use Rattle.bx_session.specs.Session.{Session, painting, picture_of, unpainted_after_press}

-- if no painting is owed, the picture last painted is the picture of the session's state, and the screen is taken to show it
abbrev pub ShowsState : Data → Session → Type 0
ShowsState d s =
    s.painting_owed ≡ false → (s.painted ≡ Some (picture_of d s.editor)) × (s.known ≡ Some (picture_of d s.editor))

-- the bytes make a terminal that shows the old picture show the new one; without an old one, any terminal of the new
-- picture's size with nothing half read
abbrev pub Updates : Option PictureState → List ℕ → PictureState → Type 0
Updates (Some old) bytes new = (t : Terminal) → Shows t old → Shows (reads t bytes) new
Updates None bytes new = (t : Terminal) → IsIdle t → t.height ≡ new.height → t.width ≡ new.width → Shows (reads t bytes) new

-- whole tokens were appended to the pending bytes; they change the picture that the screen was taken to show into the session's
pub record Paints (d : Data) (before : List ℕ) (old : Option PictureState) (new : Session) (bytes : List ℕ) : Type 0 where
  pub appends : new.pending ≡ before ++ bytes
  pub tokens : AreWholeTokens bytes
  pub updates : Updates old bytes (picture_of d new.editor)
  pub painted : new.painted ≡ Some (picture_of d new.editor)
  pub known : new.known ≡ Some (picture_of d new.editor)
  pub is_picture : IsPicture (picture_of d new.editor)
  -- until the session's end the cursor is on the cell of its place
  pub cursor : new.editor.ended ≡ false → input_column d new.editor ≡ None → StandsOnItsCell d new.editor new.editor.top (picture_of d new.editor)

-- bytes that paint the session's picture were appended, where `known` is the picture that the screen was taken to show, None for
-- unknown content
abbrev pub QueuesPicture : Data → List ℕ → Option PictureState → Session → Type 0
QueuesPicture d before known new = (bytes : List ℕ) × Paints d before known new bytes

-- A press that was not refused, and after which the picture is painted, queues its painting, with a clip or without. A Save's result
-- changes nothing about the screen's content, so None stands in its place here.
abbrev pub PressPaints : Data → Session → Option Key → Session → Type 0
PressPaints d old key new = QueuesPicture d old.pending (unpainted_after_press d None old key).known new

-- the page of a picture
abbrev pub page_in : PictureState → GridState
page_in picture = record { height = picture.height; width = picture.width; columns = picture.columns }

-- the text that is lent, if one is
abbrev pub text_in : Option (Bor (List ℕ)) → Option (List ℕ)
text_in text = option_map (λ t. t.now) text

-- the clip of a text: its base64 gives the text
pub record IsClipOf (text bytes : List ℕ) : Type 0 where
  pub base64 : List ℕ
  pub is_clip : bytes ≡ 0x1B ∷ 0x5D ∷ ((codes "52;c;" ++ base64) ++ 0x07 ∷ [])
  pub gives : decode_of standard base64 ≡ Ok text

-- the bytes appended are the painting alone, or the painting and then one clip, of the held text
pub record AppendsPainting (d : Data) (before : List ℕ) (old : Option PictureState) (new : Session) : Type 0 where
  pub clip : List ℕ
  pub appends : new.pending ≡ (before ++ painting old (picture_of d new.editor)) ++ clip
  pub at_most_one : (clip ≡ []) ⊎ IsClipOf new.editor.held clip

-- what a press appends that was not refused, and after which the picture is painted
abbrev pub PressAppends : Data → Session → Option Key → Session → Type 0
PressAppends d old key new = AppendsPainting d old.pending (unpainted_after_press d None old key).known new

-- a told size that was not refused queues a whole painting, since the screen's content is unknown
abbrev pub ToldPaints : Data → Session → Session → Type 0
ToldPaints d old new = QueuesPicture d old.pending None new

-- the picture, if there is one, has the editor's size
abbrev pub FitsEditor : Option PictureState → Editor → Type 0
FitsEditor painted e = IfSome painted (λ p. (p.height ≡ e.height) × (p.width ≡ e.width))
