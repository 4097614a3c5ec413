-- The frames of a save as bytes, and how the host reads them: one page, to be compared with find_frame and obey_frame of the host.
use Rattle.std.specs.Prelude.{ℕ, suc, ◌+◌, ◌*◌, ◌/◌, ◌%◌, ◌==◌, nat_le, List, [], ◌∷◌, ◌++◌, length, take, drop, flat_map, Option, Some, None, if◌then◌else◌}
use Rattle.bx_store.specs.Stores.{with_bytes}
use Rattle.bx_store.specs.declared.saver.Answer.{Answer}
use Rattle.bx_store.specs.declared.saver.Answer.TheVariants.{Done, Failed}

-- ---- frames

-- a frame: its letter, and its bytes
pub record Frame : Type 0 where
  pub letter : ℕ
  pub bytes : List ℕ

-- As bytes: the letter, the number of the bytes in two bytes, the high one first, and the bytes. Who sends a frame sees that two bytes
-- are enough (`send` of `Saver`).
abbrev pub frame : ℕ → List ℕ → List ℕ
frame letter bytes = letter ∷ length bytes / 256 ∷ length bytes % 256 ∷ bytes

abbrev pub bytes_of : List Frame → List ℕ
bytes_of fs = flat_map (λ (f : Frame). frame f.letter f.bytes) fs

-- The frames that bytes begin with, at most so many. A frame that is not complete is not read.
abbrev pub frames_in : ℕ → List ℕ → List Frame
frames_in (suc most) (letter ∷ high ∷ low ∷ more) =
    if nat_le (high * 256 + low) (length more)
    then record { letter = letter; bytes = take (high * 256 + low) more } ∷ frames_in most (drop (high * 256 + low) more)
    else []
frames_in _ _ = []

-- ---- the reader

-- What the reader has: the bytes of the BEGIN that it read last; the text since then, None before a BEGIN and after a COMMIT; and the
-- text that a COMMIT asks it to store.
pub record Reading : Type 0 where
  pub start : List ℕ
  pub text : Option (List ℕ)
  pub asked : Option (List ℕ)

abbrev pub nothing_read : Reading
nothing_read = record { start = []; text = None; asked = None }

-- after a frame: BEGIN, PIECE, COMMIT, or any other, which changes nothing
abbrev pub obeyed : ℕ → List ℕ → Reading → Reading
obeyed letter bytes r =
    if letter == 0x42 then record { start = bytes; text = Some []; asked = None }
    else if letter == 0x50 then record r { text = with_bytes bytes r.text }
    else if letter == 0x43 then record r { text = None; asked = r.text }
    else r

abbrev pub obeyed_all : Reading → List Frame → Reading
obeyed_all r [] = r
obeyed_all r (f ∷ fs) = obeyed_all (obeyed f.letter f.bytes r) fs

-- what a reader has of these bytes, which are its first
abbrev pub reading_of : List ℕ → Reading
reading_of bytes = obeyed_all nothing_read (frames_in (length bytes) bytes)

-- ---- a save

-- the bytes of a save: BEGIN, the pieces of the text in order, and COMMIT
abbrev pub save_bytes : List ℕ → List (List ℕ) → List ℕ
save_bytes start pieces = frame 0x42 start ++ (flat_map (frame 0x50) pieces ++ frame 0x43 [])

-- ---- answers

-- the bytes of an answer: done, or failed with the byte of a cause
abbrev pub answer_bytes : Answer → List ℕ
answer_bytes Done = 0x6B ∷ 0 ∷ 0 ∷ []
answer_bytes (Failed cause) = 0x78 ∷ 0 ∷ 1 ∷ cause ∷ []
