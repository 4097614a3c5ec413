-- Frames: the messages by which the host hands on input. `host/frames.h` has the same table.
use Rattle.std.specs.Prelude.{◌≡◌, ℕ, ◌+◌, ◌*◌, nat_le, List, ◌∷◌, length, take, Option, Some, None, if◌then◌else◌}

-- a frame: its letter, and its bytes
pub record Frame : Type 0 where
  pub letter : ℕ
  pub bytes : List ℕ

-- a frame in the pipe: the letter, the number of its bytes in two bytes, the high one first, and the bytes
pub record IsEncoded (f : Frame) (encoded : List ℕ) : Type 0 where
  pub high : ℕ
  pub low : ℕ
  pub count : high * 256 + low ≡ length f.bytes
  pub all : encoded ≡ f.letter ∷ high ∷ low ∷ f.bytes

-- a frame of so many bytes, if these are there
abbrev pub frame_of : ℕ → ℕ → List ℕ → Option Frame
frame_of letter count more = if nat_le count (length more) then Some (record { letter = letter; bytes = take count more }) else None

-- the frame that bytes of the pipe begin with, if it is whole
abbrev pub first_frame : List ℕ → Option Frame
first_frame (letter ∷ high ∷ low ∷ more) = frame_of letter (high * 256 + low) more
first_frame _ = None
