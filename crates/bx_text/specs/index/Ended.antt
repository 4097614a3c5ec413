-- The paragraphs that end in the first bytes of a text: those that a scan up to an offset finds. `ucd` is Unicode's data.
use Rattle.std.specs.Prelude.{ℕ, ◌+◌, ◌-◌, ◌==◌, nat_le, List, drop, [], ◌∷◌, if◌then◌else◌}
use Rattle.bx_ucd.specs.Data.{Data}
use Rattle.bx_text.specs.declared.index.lengths.Lengths.{Lengths}
use Rattle.bx_text.specs.index.Paragraphs.{lengths, bytes_of}

-- the paragraphs that end with a separator in the first k bytes of some paragraphs
abbrev pub ended_within : ℕ → List Lengths → List Lengths
ended_within k [] = []
ended_within k (p ∷ ps) = if p.separator == 0 then [] else if nat_le (bytes_of p) k then p ∷ ended_within (k - bytes_of p) ps else []

-- the paragraphs from one offset of a text that end with a separator at or before a later offset
abbrev pub ended_between : Data → List ℕ → ℕ → ℕ → List Lengths
ended_between ucd text start stop = ended_within (stop - start) (lengths ucd (drop start text))

-- the first of some paragraphs; an empty one if there is none
abbrev pub first : List Lengths → Lengths
first [] = record { body = 0; separator = 0 }
first (p ∷ ps) = p

-- a paragraph with `n` more bytes in front
abbrev pub further : ℕ → Lengths → Lengths
further n p = record p { body = n + p.body }
