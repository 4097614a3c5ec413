-- Where a text stands in a body.
use Rattle.std.specs.Prelude.{◌≡◌, ℕ, List, length, take, drop, chars}
use Rattle.std.specs.Str.{IsCharBoundary}

-- the text is in the body at the byte offset `offset`, after `number` characters
pub record StandsAt (body text : List ℕ) (offset number : ℕ) : Type 0 where
  pub boundary : IsCharBoundary body offset
  pub here : text ≡ take (length text) (drop offset body)
  pub before : number ≡ length (chars (take offset body))
