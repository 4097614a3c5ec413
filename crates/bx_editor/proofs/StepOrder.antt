-- A move back leads to no place after the one that it begins at, a move on to none before it.
use Rattle.std.proofs.Common.{◌≡◌, ◌≤◌, ℕ, Bool, true, false, nat_lt, cond, List, [], ◌∷◌, Some, refl, sym, subst, arith, ltb-true}
use Rattle.std.specs.Prelude.{find, reverse, unwrap_or, IsCharBoundary}
use Rattle.bx_text.specs.Changes.{IsRange}
use Rattle.bx_ucd.specs.Data.{Data}
use Rattle.bx_view.specs.Moved.{moved}
use Rattle.bx_view.specs.TextRows.{TextRow, places}
use Rattle.bx_view.specs.Words.{text_stops}
use Rattle.bx_view.specs.declared.moves.Logical.TheVariants.{Back, Forward}
use Rattle.bx_view.specs.declared.moves.Move.{Move}
use Rattle.bx_view.specs.declared.moves.Move.TheVariants.{Logical, Visual, Rows, RowsIn, RowHome, RowEnd, Word, WordTowards, TextStart, TextEnd}
use Rattle.bx_editor.specs.Functions.{goes_back, goes_on}

low : (place p : ℕ) (ps : List ℕ) (b : Bool) → nat_lt p place ≡ b → unwrap_or (find (λ q. nat_lt q place) ps) place ≤ place
    → unwrap_or (cond b (Some p) (find (λ q. nat_lt q place) ps)) place ≤ place
low place p ps true e h = let less = ltb-true p place e in omega arith
low place p ps false e h = h

find-low : (place : ℕ) (ps : List ℕ) → unwrap_or (find (λ p. nat_lt p place) ps) place ≤ place
find-low place [] = omega arith
find-low place (p ∷ ps) = low place p ps (nat_lt p place) refl (find-low place ps)

high : (place p : ℕ) (ps : List ℕ) (b : Bool) → nat_lt place p ≡ b → place ≤ unwrap_or (find (nat_lt place) ps) place
    → place ≤ unwrap_or (cond b (Some p) (find (nat_lt place) ps)) place
high place p ps true e h = let less = ltb-true place p e in omega arith
high place p ps false e h = h

find-high : (place : ℕ) (ps : List ℕ) → place ≤ unwrap_or (find (nat_lt place) ps) place
find-high place [] = omega arith
find-high place (p ∷ ps) = high place p ps (nat_lt place p) refl (find-high place ps)

moved-back : (ucd : Data) (text : List ℕ) (w : ℕ) (rows : List TextRow) (m : Move) (place : ℕ) → goes_back m ≡ true → moved ucd text w rows m place ≤ place
moved-back ucd text w rows (Logical Back) place is = find-low place (reverse (places rows))
moved-back ucd text w rows (Word Back) place is = find-low place (reverse (text_stops ucd Back text))
moved-back ucd text w rows (Logical Forward) place is = absurd (cc is)
moved-back ucd text w rows (Word Forward) place is = absurd (cc is)
moved-back ucd text w rows (Visual side) place is = absurd (cc is)
moved-back ucd text w rows (Rows way n) place is = absurd (cc is)
moved-back ucd text w rows (RowsIn way n column) place is = absurd (cc is)
moved-back ucd text w rows RowHome place is = absurd (cc is)
moved-back ucd text w rows RowEnd place is = absurd (cc is)
moved-back ucd text w rows (WordTowards side) place is = absurd (cc is)
moved-back ucd text w rows TextStart place is = absurd (cc is)
moved-back ucd text w rows TextEnd place is = absurd (cc is)

moved-on : (ucd : Data) (text : List ℕ) (w : ℕ) (rows : List TextRow) (m : Move) (place : ℕ) → goes_on m ≡ true → place ≤ moved ucd text w rows m place
moved-on ucd text w rows (Logical Forward) place is = find-high place (places rows)
moved-on ucd text w rows (Word Forward) place is = find-high place (text_stops ucd Forward text)
moved-on ucd text w rows (Logical Back) place is = absurd (cc is)
moved-on ucd text w rows (Word Back) place is = absurd (cc is)
moved-on ucd text w rows (Visual side) place is = absurd (cc is)
moved-on ucd text w rows (Rows way n) place is = absurd (cc is)
moved-on ucd text w rows (RowsIn way n column) place is = absurd (cc is)
moved-on ucd text w rows RowHome place is = absurd (cc is)
moved-on ucd text w rows RowEnd place is = absurd (cc is)
moved-on ucd text w rows (WordTowards side) place is = absurd (cc is)
moved-on ucd text w rows TextStart place is = absurd (cc is)
moved-on ucd text w rows TextEnd place is = absurd (cc is)

-- so what lies between can be removed
pub between-back : (ucd : Data) (rows : List TextRow) (w : ℕ) (m : Move) (text new : List ℕ) (start stop : ℕ) → new ≡ text → goes_back m ≡ true
    → IsCharBoundary text start → IsCharBoundary text stop → start ≡ moved ucd text w rows m stop → IsRange new start stop
between-back ucd rows w m text new start stop same back front behind e =
    subst (λ t. IsRange t start stop) (sym same) (record {
      start_bounds = front;
      stop_bounds = behind;
      in_order = subst (λ n. n ≤ stop) (sym e) (moved-back ucd text w rows m stop back);
    })

pub between-on : (ucd : Data) (rows : List TextRow) (w : ℕ) (m : Move) (text new : List ℕ) (start stop : ℕ) → new ≡ text → goes_on m ≡ true
    → IsCharBoundary text start → IsCharBoundary text stop → stop ≡ moved ucd text w rows m start → IsRange new start stop
between-on ucd rows w m text new start stop same on front behind e =
    subst (λ t. IsRange t start stop) (sym same) (record {
      start_bounds = front;
      stop_bounds = behind;
      in_order = subst (λ n. start ≤ n) (sym e) (moved-on ucd text w rows m start on);
    })
