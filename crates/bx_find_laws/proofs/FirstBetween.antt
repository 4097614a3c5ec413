-- The first match between two offsets.
use Rattle.std.proofs.Common.{◌≡◌, ◌≤◌, ◌<◌, ℕ, Bool, true, false, List, refl, arith}
use Rattle.std.specs.Prelude.{Option, Some, None, MatchOption, nat_lt, IsUtf8, if◌then◌else◌}
use Rattle.std.proofs.lemmas.Bool.Decides.{nat_tests}
use Rattle.bx_ucd.specs.Data.{Data}
use Rattle.bx_find.specs.Matches.{first_from}
use Rattle.bx_find.specs.Nearest.{IsFirst, MatchesAt}
use Rattle.bx_find.specs.Parts.{first_between, if_below}
use Rattle.bx_find.specs.declared.letters.Reading.{Reading}
use Rattle.bx_find.proofs.Nearest.{first_is}
use Rattle.bx_find_laws.specs.Laws.{IsFirstBetween}

module _ (ucd : Data) (reading : Reading) (sought text : List ℕ) (start stop : ℕ) where
  abbrev Between : Option ℕ → Type 0
  Between o = MatchOption o ((i : ℕ) → start ≤ i → i < stop → ¬ (MatchesAt ucd reading sought text i)) (IsFirstBetween ucd reading sought text start stop)

  bound-by : (at : ℕ) (b : Bool) → nat_lt at stop ≡ b → IsFirst ucd reading sought text start at → Between (if b then Some at else None)
  bound-by at true e first =
      record { is_match = first.is_match; not_before = first.not_before; before = grind (arith, nat_tests); least = first.least }
  bound-by at false e first = λ i low high found.
      let past : stop ≤ at = grind (arith, nat_tests) in
      absurd (omega (arith, past, high, first.least i low found))

  bound : (o : Option ℕ) → MatchOption o ((i : ℕ) → start ≤ i → ¬ (MatchesAt ucd reading sought text i)) (IsFirst ucd reading sought text start)
      → Between (if_below stop o)
  bound None none = λ i low high found. none i low found
  bound (Some at) first = bound-by at (nat_lt at stop) refl first

  pub between_is : IsUtf8 text → Between (first_between ucd reading sought text start stop)
  between_is utf8 = bound (first_from ucd reading sought text start) (first_is ucd reading sought text start utf8)
