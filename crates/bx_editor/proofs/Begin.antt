-- The start of a text is a place, and a search begins with a short query.
use Rattle.std.proofs.Common.{◌≡◌, ◌≤◌, ℕ, List, [], ◌∷◌, length, chars, refl, ap, arith}
use Rattle.std.proofs.lemmas.Str.{chars-nil}
use Rattle.std.specs.Prelude.{Contains}
use Rattle.bx_ucd.specs.Data.{Data}
use Rattle.bx_view.specs.Places.{IsTextPlace, pieces}
use Rattle.bx_view.specs.Numbers.{boundaries}

begin-in : (gs : List (List ℕ)) → Contains (boundaries 0 gs) 0
begin-in [] = (0, omega arith, refl)
begin-in (g ∷ gs) = (0, omega arith, refl)

pub begin-is-place : (ucd : Data) (text : List ℕ) → IsTextPlace ucd text 0
begin-is-place ucd text = begin-in (pieces ucd text)

pub few-at-start : (q : List ℕ) → q ≡ [] → length (chars q) ≤ 64
few-at-start q none = omega (arith, ap (λ t. length (chars t)) none, ap length chars-nil)
