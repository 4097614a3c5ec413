-- The first match of the sought letters at or after an offset of a text, and the last before it, with no list of matches.
-- `ucd` is Unicode's data.
use Rattle.std.specs.Prelude.{◌≡◌, ℕ, ◌≤◌, ◌<◌, List, true, drop, chars, IsCharBoundary}
use Rattle.bx_ucd.specs.Data.{Data}
use Rattle.bx_find.specs.Matches.{is_match}
use Rattle.bx_find.specs.declared.letters.Reading.{Reading}

-- the letters match at an offset of a text
abbrev pub MatchesAt : Data → Reading → List ℕ → List ℕ → ℕ → Type 0
MatchesAt ucd reading sought text at = IsCharBoundary text at × (is_match ucd reading sought (chars (drop at text)) ≡ true)

-- the first match at or after x
pub record IsFirst (ucd : Data) (reading : Reading) (sought text : List ℕ) (x at : ℕ) : Type 0 where
  pub is_match : MatchesAt ucd reading sought text at
  pub not_before : x ≤ at
  pub least : (i : ℕ) → x ≤ i → MatchesAt ucd reading sought text i → at ≤ i

-- the last match before x
pub record IsLast (ucd : Data) (reading : Reading) (sought text : List ℕ) (x at : ℕ) : Type 0 where
  pub is_match : MatchesAt ucd reading sought text at
  pub before : at < x
  pub greatest : (i : ℕ) → i < x → MatchesAt ucd reading sought text i → i ≤ at
