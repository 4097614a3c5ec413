-- The parts in which a run journals and obeys the bytes of a read. `rest` are the bytes before them that are not a whole key yet.
use Rattle.std.specs.Prelude.{◌≡◌, ◌≢◌, ℕ, ◌<◌, ◌≤◌, List, [], ◌∷◌, ◌++◌, length, take, All}
use Rattle.bx_keys.specs.Waiting.{keys_from}
use Rattle.bx_keys.specs.declared.key.Key.{Key}
use Rattle.bx_keys.specs.declared.key.Key.TheVariants.{Quit}
use Rattle.bx_session.specs.Parts.{part_length}

-- the keys end with a Quit
pub record EndsWithQuit (keys : List Key) : Type 0 where
  pub before : List Key
  pub whole : keys ≡ before ++ Quit ∷ []

-- The first `n` bytes are a part: some of the bytes, and not none of some. No byte of it but the last completes a Quit; if more bytes
-- follow, the last one does.
pub record IsPart (rest bytes : List ℕ) (n : ℕ) : Type 0 where
  pub within : n ≤ length bytes
  pub some : bytes ≢ [] → 0 < n
  pub no_earlier : (m : ℕ) → m < n → All (λ key. key ≢ Quit) (keys_from rest (take m bytes))
  pub ends : n < length bytes → EndsWithQuit (keys_from rest (take n bytes))

-- so long is the first part of any bytes
abbrev pub PartsEndAtQuits : Type 0
PartsEndAtQuits = (rest bytes : List ℕ) → IsPart rest bytes (part_length rest bytes)
