-- Patterns of bytes: sequences of ranges, each of the bytes from `low` to `high`, both included. A grammar is a list of patterns.
use Rattle.std.specs.Prelude.{ℕ, Bool, true, false, ◌&&◌, List, [], ◌∷◌, if◌then◌else◌}
use Rattle.std.specs.List.{list_any}
pub use Rattle.bx_common.specs.Characters.{is_within}
use Rattle.bx_bytes.specs.declared.fate.Fate.{Fate}
use Rattle.bx_bytes.specs.declared.fate.Fate.TheVariants.{Waits, Ends, Breaks}

-- one byte of a range, or the longest run of such bytes, maybe empty
pub data Piece : Type 0 where
  One : (low high : ℕ) → Piece
  Many : (low high : ℕ) → Piece

-- the bytes from the first one outside the range on
abbrev pub past : ℕ → ℕ → List ℕ → List ℕ
past low high [] = []
past low high (b ∷ bs) = if is_within low high b then past low high bs else b ∷ bs

-- the bytes match the pattern
abbrev pub matches : List Piece → List ℕ → Bool
matches [] [] = true
matches [] (b ∷ bs) = false
matches (One low high ∷ ps) [] = false
matches (One low high ∷ ps) (b ∷ bs) = is_within low high b && matches ps bs
matches (Many low high ∷ ps) bs = matches ps (past low high bs)

-- the bytes begin a match of the pattern, or are one
abbrev pub begins : List Piece → List ℕ → Bool
begins [] [] = true
begins [] (b ∷ bs) = false
begins (One low high ∷ ps) [] = true
begins (One low high ∷ ps) (b ∷ bs) = is_within low high b && begins ps bs
begins (Many low high ∷ ps) bs = begins ps (past low high bs)

-- the bytes match one of the patterns
abbrev pub matches_any : List (List Piece) → List ℕ → Bool
matches_any patterns bs = list_any (λ p. matches p bs) patterns

-- the bytes begin a match of one of the patterns, or are one
abbrev pub begins_any : List (List Piece) → List ℕ → Bool
begins_any patterns bs = list_any (λ p. begins p bs) patterns

-- what the bytes `bs` are to the grammar `patterns`
abbrev pub fate_in : List (List Piece) → List ℕ → Fate
fate_in patterns bs = if matches_any patterns bs then Ends else if begins_any patterns bs then Waits else Breaks
