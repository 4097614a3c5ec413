-- The parts of a text split at a separator, as the code's type `Parts` holds them.
use Rattle.std.specs.Prelude.{◌≡◌, ℕ, ◌<◌, List, [], ◌∷◌, length}
use Rattle.bx_ucd.specs.declared.parts.Parts.{Parts}
use Rattle.bx_ucd.specs.declared.parts.Parts.TheVariants.{One, Two, Three, Four, More}

-- the value holds the parts, or says that they are more than four
abbrev pub IsCut : Parts → List (List ℕ) → Type 0
IsCut (One a) parts = parts ≡ a.now ∷ []
IsCut (Two a b) parts = parts ≡ a.now ∷ b.now ∷ []
IsCut (Three a b c) parts = parts ≡ a.now ∷ b.now ∷ c.now ∷ []
IsCut (Four a b c d) parts = parts ≡ a.now ∷ b.now ∷ c.now ∷ d.now ∷ []
IsCut More parts = 4 < length parts
