-- The characters of a text and their byte offsets, some of which the code stores (`Body`).
use Rattle.std.specs.Prelude.{◌≡◌, ℕ, ◌-◌, ◌*◌, ◌<◌, ◌≤◌, List, chars, drop, length, slice_index_or}
use Rattle.std.specs.Str.{IsCharBoundary}

-- `rest` is a suffix of `text`
pub record IsEndOf (text rest : List ℕ) : Type 0 where
  pub shorter : length rest ≤ length text
  pub same : drop (length text - length rest) text ≡ rest

-- the character at an index begins at a byte offset
pub record IsOffset (text : List ℕ) (index offset : ℕ) : Type 0 where
  pub boundary : IsCharBoundary text offset
  pub rest : chars (drop offset text) ≡ drop index (chars text)

-- the offsets of the characters at indexes 0, 8, 16 and so on (`STEP` of src/resolve/body.rt)
abbrev pub AreOffsets : List ℕ → List ℕ → Type 0
AreOffsets text offsets = (k : ℕ) → k < length offsets → IsOffset text (k * 8) (slice_index_or offsets k 0)
