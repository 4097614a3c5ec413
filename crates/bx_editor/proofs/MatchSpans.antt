-- How many matches follow one another: no more than there are bytes from the first to the end of the last.
use Rattle.std.proofs.Common.{◌≡◌, ◌≤◌, ◌+◌, ◌∙◌, ℕ, List, [], ◌∷◌, length, refl, ap, sym, arith, IsUtf8}
use Rattle.std.specs.Prelude.{Option, Some, None}
use Rattle.bx_ucd.specs.Data.{Data}
use Rattle.bx_find.specs.Matches.{first_from, match_end, spans_from}
use Rattle.bx_find.specs.declared.letters.Reading.{Reading}
use Rattle.bx_find.proofs.SpansOf.{none_found, span_found}
use Rattle.bx_document.specs.Swapped.{last_stop}

module _ (ucd : Data) (reading : Reading) (sought text : List ℕ) (u : IsUtf8 text) where
  abbrev from : ℕ → List (ℕ × ℕ)
  from x = spans_from ucd reading sought text x

  heads : (s t : ℕ × ℕ) (ss ts : List (ℕ × ℕ)) → s ∷ ss ≡ t ∷ ts → (s ≡ t) × (ss ≡ ts)
  heads s t ss ts e = (cc, cc)

  counted-by : (s : ℕ × ℕ) (ss : List (ℕ × ℕ)) (x : ℕ) (o : Option ℕ) → o ≡ first_from ucd reading sought text x
      → s ∷ ss ≡ from x
      → ((y : ℕ) → ss ≡ from y → y + length ss ≤ last_stop y ss) → x + length (s ∷ ss) ≤ last_stop x (s ∷ ss)
  counted-by s ss x None is e more = let no = e ∙ none_found ucd reading sought text u x is in absurd (cc)
  counted-by s ss x (Some a) is e more =
      let found = span_found ucd reading sought text u x a is in
      let end = match_end ucd reading sought text a in
      let same = heads s (a, end) ss (from end) (e ∙ found.1.1) in
      let stop : s.1 ≡ end = ap (λ (p : ℕ × ℕ). p.1) same.0 in
      let rest : s.1 + length ss ≤ last_stop s.1 ss = more s.1 (same.1 ∙ ap from (sym stop)) in
      omega (arith, rest, stop, found.0.not_before, found.1.0)

  counted : (ss : List (ℕ × ℕ)) (x : ℕ) → ss ≡ from x → x + length ss ≤ last_stop x ss
  counted [] x e = omega arith
  counted (s ∷ ss) x e = counted-by s ss x (first_from ucd reading sought text x) refl e (counted ss)

  pub no-more-than-bytes : (x : ℕ) → x + length (from x) ≤ last_stop x (from x)
  no-more-than-bytes x = counted (from x) x refl
