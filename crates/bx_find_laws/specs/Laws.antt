-- A search answers with the nearest matches of the query. `ucd` is Unicode's data.
use Rattle.std.specs.Prelude.{◌≡◌, ℕ, ◌≤◌, ◌<◌, List, [], ◌∷◌, MatchOption, IsUtf8}
use Rattle.bx_ucd.specs.Data.{Data}
use Rattle.bx_find.specs.Matches.{is_match, first_from, last_before, match_end, spans_from}
use Rattle.bx_find.specs.Parts.{first_between}
use Rattle.bx_find.specs.declared.letters.Reading.{Reading}
use Rattle.bx_find.specs.Nearest.{IsFirst, IsLast, MatchesAt}

-- `first_from` is the first match at or after x, None if there is none
abbrev pub FirstFromIsFirst : Type 0
FirstFromIsFirst = (ucd : Data) (reading : Reading) (sought text : List ℕ) (x : ℕ) → IsUtf8 text
    → MatchOption (first_from ucd reading sought text x) ((i : ℕ) → x ≤ i → ¬ (MatchesAt ucd reading sought text i))
    (IsFirst ucd reading sought text x)

-- the first match at or after `start`, before `stop`
pub record IsFirstBetween (ucd : Data) (reading : Reading) (sought text : List ℕ) (start stop at : ℕ) : Type 0 where
  pub is_match : MatchesAt ucd reading sought text at
  pub not_before : start ≤ at
  pub before : at < stop
  pub least : (i : ℕ) → start ≤ i → MatchesAt ucd reading sought text i → at ≤ i

-- `first_between` is the first match from `start` on and before `stop`, None if there is none
abbrev pub FirstBetweenIsFirst : Type 0
FirstBetweenIsFirst = (ucd : Data) (reading : Reading) (sought text : List ℕ) (start stop : ℕ) → IsUtf8 text
    → MatchOption (first_between ucd reading sought text start stop)
    ((i : ℕ) → start ≤ i → i < stop → ¬ (MatchesAt ucd reading sought text i)) (IsFirstBetween ucd reading sought text start stop)

-- `last_before` is the last match before x, None if there is none
abbrev pub LastBeforeIsLast : Type 0
LastBeforeIsLast = (ucd : Data) (reading : Reading) (sought text : List ℕ) (x : ℕ) → IsUtf8 text
    → MatchOption (last_before ucd reading sought text x) ((i : ℕ) → i < x → ¬ (MatchesAt ucd reading sought text i))
    (IsLast ucd reading sought text x)

-- ---- matches that follow one another

-- each of the spans, a match's start and end, is the first match at or after the end of the one before, the first of them at or
-- after x; there is none after the last
abbrev pub AreSpans : Data → Reading → List ℕ → List ℕ → ℕ → List (ℕ × ℕ) → Type 0
AreSpans ucd reading sought text x [] = (i : ℕ) → x ≤ i → ¬ (MatchesAt ucd reading sought text i)
AreSpans ucd reading sought text x (s ∷ ss) =
    IsFirst ucd reading sought text x s.0 × (s.1 ≡ match_end ucd reading sought text s.0) × AreSpans ucd reading sought text s.1 ss

-- `spans_from` has these spans
abbrev pub SpansFollow : Type 0
SpansFollow = (ucd : Data) (reading : Reading) (sought text : List ℕ) (x : ℕ) → IsUtf8 text
    → AreSpans ucd reading sought text x (spans_from ucd reading sought text x)
