-- An iterator over the pieces of a text between two offsets, which lends their bytes.
use Rattle.std.specs.Prelude.{◌≡◌, ℕ, ◌<◌, List, [], ◌∷◌, ◌++◌, length, slice_range, Option, MatchOption}
use Rattle.std.specs.Borrow.{Bor}
use Rattle.bx_text.specs.declared.slices.Slices.TheInside.{Inside}
use Rattle.bx_text.specs.Changes.{IsRange}

-- the bytes that it has not lent yet
abbrev pub bytes_left : Inside → List ℕ
bytes_left s = slice_range s.text.now.edited.text s.at s.stop

-- what always holds: the two offsets are character boundaries, in order
abbrev pub AreSlices : Inside → Type 0
AreSlices s = IsRange s.text.now.edited.text s.at s.stop

-- a call lends the first of the bytes that are left, and leaves the others; it lends none if none are left
abbrev pub lends : List ℕ → Option (Bor (List ℕ)) → List ℕ → Type 0
lends left lent after = MatchOption lent ((left ≡ []) × (after ≡ [])) (λ s. (left ≡ s.now ++ after) × (0 < length s.now))

-- the bytes of slices, concatenated
abbrev pub joined : List (Bor (List ℕ)) → List ℕ
joined [] = []
joined (s ∷ ss) = s.now ++ joined ss
