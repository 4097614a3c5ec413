-- The law of the host's frames. `fs` are frames, `bs` the pipe's bytes, `m` is the machine's state.
use Rattle.std.specs.Prelude.{◌≡◌, ℕ, List, [], ◌∷◌, ◌++◌}
use Rattle.bx_input.specs.Frames.{Frame, IsEncoded}
use Rattle.bx_input.specs.Machine.{Machine}
use Rattle.bx_input.specs.Heard.{written, at_end, heard}

-- the bytes are those of the frames, one after another
abbrev pub AreEncoded : List Frame → List ℕ → Type 0
AreEncoded [] bs = bs ≡ []
AreEncoded (f ∷ fs) bs = (first : List ℕ) × (more : List ℕ) × IsEncoded f first × AreEncoded fs more × (bs ≡ first ++ more)

-- what the session reads for frames, one after another, and at the input's end
abbrev pub after_frames : List Frame → Machine → List ℕ
after_frames [] m = at_end m
after_frames (f ∷ fs) m = (written f m).output ++ after_frames fs (written f m).state

-- frames are heard in their order, however the pipe cuts them
abbrev pub AreHeardInOrder : Type 0
AreHeardInOrder = (fs : List Frame) (bs : List ℕ) (m : Machine) → AreEncoded fs bs → heard bs m ≡ after_frames fs m
