-- Grammars, which are lists of patterns with no match in common, and their laws. An item of a grammar is a match of one of its patterns.
use Rattle.std.specs.Prelude.{◌≡◌, ◌↔◌, ℕ, Bool, true, false, ◌&&◌, ◌||◌, nat_le, nat_lt, List, [], ◌∷◌, ◌++◌}
use Rattle.std.specs.List.{list_all}
use Rattle.std.specs.Char.{IsScalar, encode_utf8}
use Rattle.bx_bytes.specs.Pattern.{Piece, One, Many, matches_any, begins_any}
use Rattle.bx_bytes.specs.Utf8.{characters}

-- each match of the pattern has at least one byte
abbrev pub needs_byte : List Piece → Bool
needs_byte [] = false
needs_byte (One low high ∷ ps) = true
needs_byte (Many low high ∷ ps) = needs_byte ps

-- the ranges `a` to `b` and `c` to `d`, ends included, have no byte in common
abbrev pub are_disjoint : ℕ → ℕ → ℕ → ℕ → Bool
are_disjoint a b c d = nat_lt b c || nat_lt d a

-- no match of the pattern begins with a byte of the range `low` to `high`
abbrev pub excludes : ℕ → ℕ → List Piece → Bool
excludes low high [] = true
excludes low high (One a b ∷ ps) = are_disjoint low high a b
excludes low high (Many a b ∷ ps) = are_disjoint low high a b && excludes low high ps

-- the range of each `One` is not empty, and each `Many` is followed by a byte outside its range, so that its end is seen
abbrev pub is_sound : List Piece → Bool
is_sound [] = true
is_sound (One low high ∷ ps) = nat_le low high && is_sound ps
is_sound (Many low high ∷ ps) = (needs_byte ps && excludes low high ps) && is_sound ps

-- at some byte, before the first `Many` of either, the two patterns have disjoint ranges, so that they have no match in common
abbrev pub are_apart : List Piece → List Piece → Bool
are_apart (One a b ∷ ps) (One c d ∷ qs) = are_disjoint a b c d || are_apart ps qs
are_apart _ _ = false

-- any two of the patterns are apart, in either order
abbrev pub all_apart : List (List Piece) → Bool
all_apart [] = true
all_apart (p ∷ ps) = list_all (λ q. are_apart p q && are_apart q p) ps && all_apart ps

-- each pattern is sound, and no two have a match in common
abbrev pub is_grammar : List (List Piece) → Bool
is_grammar patterns = list_all is_sound patterns && all_apart patterns

-- bytes begin an item exactly if some continuation of them is one
abbrev pub BeginsByMore : List (List Piece) → Type 0
BeginsByMore patterns = (bs : List ℕ) → (begins_any patterns bs ≡ true) ↔ ((more : List ℕ) × (matches_any patterns (bs ++ more) ≡ true))

-- no item is a proper prefix of another
abbrev pub NoneBeginsLonger : List (List Piece) → Type 0
NoneBeginsLonger patterns = (bs : List ℕ) (b : ℕ) (more : List ℕ) → matches_any patterns bs ≡ true → begins_any patterns (bs ++ b ∷ more) ≡ false

-- ---- the grammar of characters

-- the bytes of one character
abbrev pub is_character : List ℕ → Bool
is_character bs = matches_any characters bs

-- the rows match exactly the encodings of the Unicode scalar values
abbrev pub AreEncodings : Type 0
AreEncodings = (bs : List ℕ) → (is_character bs ≡ true) ↔ ((c : ℕ) × IsScalar c × (encode_utf8 c ≡ bs))
