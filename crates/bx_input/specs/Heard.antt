-- What the session reads for all that the host's pipe has: the keys of the frames, each as the bytes by which the session knows it. `bs`
-- are the pipe's bytes, `m` is the machine's state.
use Rattle.std.specs.Prelude.{ℕ, zero, suc, ◌+◌, Bool, ◌==◌, List, [], ◌∷◌, ◌++◌, codes, length, drop, flat_map, Option, Some, None, if◌then◌else◌}
use Rattle.bx_keys.specs.declared.key.Key.{Key}
use Rattle.bx_input.specs.Frames.{Frame, first_frame}
use Rattle.bx_input.specs.KeyBytes.{key_bytes}
use Rattle.bx_input.specs.Machine.{Machine, after_frame, after_end}
use Rattle.bx_input.specs.Table.{csi}

-- the state after a step, and what the session reads for it
pub record Written : Type 0 where
  pub state : Machine
  pub output : List ℕ

-- the bytes of keys
abbrev pub all_bytes : List Key → List ℕ
all_bytes keys = flat_map key_bytes keys

-- a sequence without a key, which has the session try its journal again
abbrev pub wake : List ℕ
wake = csi (codes ">0~")

-- the bytes of the keys of a frame with this letter; a notice without a key wakes the session
abbrev pub frame_bytes : ℕ → List Key → List ℕ
frame_bytes letter [] = if letter == 0x6E then wake else []
frame_bytes letter (key ∷ keys) = all_bytes (key ∷ keys)

-- a frame
abbrev pub written : Frame → Machine → Written
written f m = let moved = after_frame f m in record { state = moved.machine; output = frame_bytes f.letter moved.keys }

-- the input's end
abbrev pub at_end : Machine → List ℕ
at_end m = all_bytes (after_end m).keys

-- the bytes behind a frame: its head has three
abbrev pub behind_frame : Frame → List ℕ → List ℕ
behind_frame f bs = drop (3 + length f.bytes) bs

-- what is heard of bytes that begin with this frame, if there is one; `later` is of the bytes behind it. A frame that the input's end
-- cuts off says nothing.
abbrev pub heard_by : (List ℕ → Machine → List ℕ) → List ℕ → Machine → Option Frame → List ℕ
heard_by later bs m None = at_end m
heard_by later bs m (Some f) = (written f m).output ++ later (behind_frame f bs) (written f m).state

-- of at most n frames
abbrev pub heard_within : ℕ → List ℕ → Machine → List ℕ
heard_within zero bs m = at_end m
heard_within (suc n) bs m = heard_by (heard_within n) bs m (first_frame bs)

-- of all frames, each of which takes a byte or more
abbrev pub heard : List ℕ → Machine → List ℕ
heard bs m = heard_within (length bs) bs m

-- the value of a `FrameReader`: the machine's state, the bytes of the pipe that are no whole frame yet, what the session has
-- still to read of the frames before, and whether the pipe has ended
pub record Reading : Type 0 where
  pub machine : Machine
  pub held : List ℕ
  pub ready : List ℕ
  pub is_over : Bool

-- what the session will read, where the pipe has these bytes left
abbrev pub left : Reading → List ℕ → List ℕ
left s rest = s.ready ++ (if s.is_over then [] else heard (s.held ++ rest) s.machine)
