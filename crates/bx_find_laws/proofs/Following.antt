-- The matches that follow one another are what they are.
use Rattle.std.proofs.Common.{◌≡◌, ◌≤◌, ◌-◌, ◌∙◌, ℕ, List, [], ◌∷◌, refl, ap, sym, subst, Option, Some, None}
use Rattle.std.specs.Prelude.{MatchOption, IsUtf8}
use Rattle.bx_ucd.specs.Data.{Data}
use Rattle.bx_find.specs.Matches.{first_from, match_end, spans_from}
use Rattle.bx_find.specs.Nearest.{MatchesAt, IsFirst}
use Rattle.bx_find_laws.specs.Laws.{AreSpans}
use Rattle.bx_find.specs.declared.letters.Reading.{Reading}
use Rattle.bx_find.proofs.Nearest.{first_is}
use Rattle.bx_find.proofs.SpansOf.{IsNext, next_span}

heads : (s t : ℕ × ℕ) (ss ts : List (ℕ × ℕ)) → s ∷ ss ≡ t ∷ ts → (s ≡ t) × (ss ≡ ts)
heads s t ss ts e = (cc, cc)

module _ (ucd : Data) (reading : Reading) (sought text : List ℕ) (u : IsUtf8 text) where
  follow-none : (x : ℕ) (o : Option ℕ) → [] ≡ spans_from ucd reading sought text x
      → MatchOption o ((i : ℕ) → x ≤ i → ¬ (MatchesAt ucd reading sought text i)) (IsFirst ucd reading sought text x)
      → MatchOption o (spans_from ucd reading sought text x ≡ []) (IsNext ucd reading sought text x) → AreSpans ucd reading sought text x []
  follow-none x None e first n = first
  follow-none x (Some a) e first n = let no = e ∙ n.1 in absurd (cc)

  follow-some : (s : ℕ × ℕ) (ss : List (ℕ × ℕ)) (x : ℕ) (o : Option ℕ) → s ∷ ss ≡ spans_from ucd reading sought text x
      → MatchOption o ((i : ℕ) → x ≤ i → ¬ (MatchesAt ucd reading sought text i)) (IsFirst ucd reading sought text x)
      → MatchOption o (spans_from ucd reading sought text x ≡ []) (IsNext ucd reading sought text x)
      → ((y : ℕ) → ss ≡ spans_from ucd reading sought text y → AreSpans ucd reading sought text y ss)
      → AreSpans ucd reading sought text x (s ∷ ss)
  follow-some s ss x None e first n more = let no = e ∙ n in absurd (cc)
  follow-some s ss x (Some a) e first n more =
      let end = match_end ucd reading sought text a in
      let same = heads s (a, end) ss (spans_from ucd reading sought text end) (e ∙ n.1) in
      let start : s.0 ≡ a = ap (λ (p : ℕ × ℕ). p.0) same.0 in
      let stop : s.1 ≡ end = ap (λ (p : ℕ × ℕ). p.1) same.0 in (
        subst (IsFirst ucd reading sought text x) (sym start) first,
        stop ∙ ap (match_end ucd reading sought text) (sym start),
        more s.1 (same.1 ∙ ap (spans_from ucd reading sought text) (sym stop)),
      )

  follow : (ss : List (ℕ × ℕ)) (x : ℕ) → ss ≡ spans_from ucd reading sought text x → AreSpans ucd reading sought text x ss
  follow [] x e = follow-none x (first_from ucd reading sought text x) e (first_is ucd reading sought text x u) (next_span ucd reading sought text x u)
  follow (s ∷ ss) x e =
      follow-some s ss x (first_from ucd reading sought text x) e (first_is ucd reading sought text x u) (next_span ucd reading sought text x u) (follow ss)

  pub spans_are : (x : ℕ) → AreSpans ucd reading sought text x (spans_from ucd reading sought text x)
  spans_are x = follow (spans_from ucd reading sought text x) x refl
