-- Bytes given to a writer, of which a failing write may take only a part.
use Rattle.std.specs.Prelude.{◌≡◌, ℕ, List, ◌++◌, Option}
use Rattle.std.specs.Io.KnownBytes.{Appends}

-- the bytes are a part `written`, which the writer took, and a part `rest`, which it did not; `old` and `new` are its contents before and
-- after, if they are known
pub record IsWritten (bytes : List ℕ) (old new : Option (List ℕ)) (written rest : List ℕ) : Type 0 where
  pub parts : bytes ≡ written ++ rest
  pub appends : Appends old new written

-- some prefix of the bytes was written
abbrev pub WritesFront : List ℕ → Option (List ℕ) → Option (List ℕ) → Type 0
WritesFront bytes old new = (written : List ℕ) × (rest : List ℕ) × IsWritten bytes old new written rest
