-- Laws of the frames of a save.
use Rattle.std.specs.Prelude.{◌≡◌, ℕ, List, None, Some}
use Rattle.std.specs.List.{concat}
use Rattle.bx_store.specs.Frames.{Frame, bytes_of, nothing_read, obeyed_all, reading_of, save_bytes}
use Rattle.bx_store.specs.HostStores.{byte_of_cause}
use Rattle.bx_store.specs.declared.cause.SaveCause.{SaveCause}

-- the bytes of frames lead the reader where the frames do
abbrev pub FramesAreObeyed : Type 0
FramesAreObeyed = (fs : List Frame) → reading_of (bytes_of fs) ≡ obeyed_all nothing_read fs

-- whatever the pieces are into which a text is cut, the reader is asked to store the text, and to go where BEGIN says
abbrev pub SavesCarryTheText : Type 0
SavesCarryTheText = (start : List ℕ) (pieces : List (List ℕ)) → reading_of (save_bytes start pieces) ≡ record { start = start; text = None; asked = Some (concat pieces) }

abbrev pub BytesTellCauses : Type 0
BytesTellCauses = (c c' : SaveCause) → byte_of_cause c ≡ byte_of_cause c' → c ≡ c'
