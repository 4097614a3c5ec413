-- Matches that follow one another lie apart, and every other match is within one of them.
use Rattle.std.proofs.Common.{◌≡◌, ◌≤◌, ◌<◌, ◌∙◌, inl, inr, ℕ, List, [], ◌∷◌, refl, sym, ap, subst, arith, IsCharBoundary}
use Rattle.std.specs.Prelude.{slice_range, All, IsUtf8}
use Rattle.std.proofs.lemmas.Bool.{cases_lt}
use Rattle.std.proofs.lemmas.List.Elements.{All-cons, All-nil, Contains-append_right}
use Rattle.bx_ucd.specs.Data.{Data}
use Rattle.bx_find.specs.declared.letters.Reading.TheVariants.{Close}
use Rattle.bx_find_laws.specs.Laws.{AreSpans}
use Rattle.bx_find.specs.Nearest.{MatchesAt}
use Rattle.bx_find.specs.Matches.{match_end}
use Rattle.bx_document.specs.Swapped.{last_stop}
use Rattle.bx_editor_laws.specs.ReplaceLaws.{AreApart, LiesIn}
use Rattle.bx_editor_laws.proofs.MatchLetters.{match-bound, match-letters, match-some, spelt}

module _ (d : Data) (sought text : List ℕ) (u : IsUtf8 text) where
  abbrev Follow : ℕ → List (ℕ × ℕ) → Type 0
  Follow x spans = AreSpans d Close sought text x spans

  past : (s : ℕ × ℕ) → MatchesAt d Close sought text s.0 → s.1 ≡ match_end d Close sought text s.0 → s.0 < s.1
  past s here stop = omega (arith, stop, match-some d text u sought s.0 here)

  pub apart : (x : ℕ) (spans : List (ℕ × ℕ)) → Follow x spans → AreApart x spans
  apart x [] are = tt
  apart x (s ∷ ss) are = (are.0.not_before, (past s are.0.is_match are.1, apart s.1 ss are.2))

  pub letters-are : (x : ℕ) (spans : List (ℕ × ℕ)) → Follow x spans → All (λ s. spelt d (slice_range text s.0 s.1) ≡ sought) spans
  letters-are x [] are = All-nil (λ (s : ℕ × ℕ). spelt d (slice_range text s.0 s.1) ≡ sought)
  letters-are x (s ∷ ss) are =
      All-cons (λ (t : ℕ × ℕ). spelt d (slice_range text t.0 t.1) ≡ sought) s ss
      (ap (λ n. spelt d (slice_range text s.0 n)) are.1 ∙ match-letters d text u sought s.0 are.0.is_match) (letters-are s.1 ss are.2)

  abbrev IsSpan : ℕ × ℕ → Type 0
  IsSpan s = MatchesAt d Close sought text s.0 × (s.1 ≡ match_end d Close sought text s.0)

  pub are-spans : (x : ℕ) (spans : List (ℕ × ℕ)) → Follow x spans → All IsSpan spans
  are-spans x [] are = All-nil IsSpan
  are-spans x (s ∷ ss) are = All-cons IsSpan s ss (are.0.is_match, are.1) (are-spans s.1 ss are.2)

  lies-behind : (i : ℕ) (s : ℕ × ℕ) (ss : List (ℕ × ℕ)) → LiesIn i ss → LiesIn i (s ∷ ss)
  lies-behind i s ss h = (h.0, Contains-append_right (s ∷ []) ss h.0 h.1, h.2, h.3)

  pub all-lie : (x : ℕ) (spans : List (ℕ × ℕ)) → Follow x spans → (i : ℕ) → x ≤ i → MatchesAt d Close sought text i → LiesIn i spans
  all-lie x [] are i from here = absurd (are i from here)
  all-lie x (s ∷ ss) are i from here = elim (cases_lt i s.1) [
    | inl l ↦ (s, (0, omega arith, refl), are.0.least i from here, l)
    | inr l ↦ lies-behind i s ss (all-lie s.1 ss are.2 i l here)
  ]

  -- the end of the last one
  pub last-after : (x : ℕ) (spans : List (ℕ × ℕ)) → Follow x spans → x ≤ last_stop x spans
  last-after x [] are = omega arith
  last-after x (s ∷ ss) are = omega (arith, are.0.not_before, past s are.0.is_match are.1, last-after s.1 ss are.2)

  pub last-bound : (x : ℕ) (spans : List (ℕ × ℕ)) → IsCharBoundary text x → Follow x spans → IsCharBoundary text (last_stop x spans)
  last-bound x [] b are = b
  last-bound x (s ∷ ss) b are =
      last-bound s.1 ss (subst (IsCharBoundary text) (sym are.1) (match-bound d text u sought s.0 are.0.is_match)) are.2
