-- The step for a byte, by what the waiting bytes and it are.
use Rattle.std.proofs.Common.{◌≡◌, ℕ, Bool, true, false, List, [], ◌∷◌, ◌++◌, drop, Option, ap, sym, ◌∙◌}
use Rattle.std.proofs.lemmas.Bool.{cond-true, cond-false}
use Rattle.bx_bytes.specs.declared.fate.Fate.{Fate}
use Rattle.bx_bytes.specs.declared.fate.Fate.TheVariants.{Ends, Breaks}
use Rattle.bx_keys.specs.declared.key.Key.{Key}
use Rattle.bx_input.specs.Known.{fate, known_keys}
use Rattle.bx_input.specs.Scan.{Outside, Passed, passed, step_to, with_front, start, ended, fresh, broken, has_two_escapes}
use Rattle.bx_input.specs.Scan.{plain_step, behind_escape, breaks_off, step_by, step}

module _ (by_delete : Bool) where
  pub plain_so : (waiting : List ℕ) (b : ℕ) → waiting ≡ [] → fate (b ∷ []) ≡ Breaks
      → with_front (passed waiting) (step_to start (Passed b ∷ [])) ≡ step by_delete (Outside waiting) b
  plain_so [] b none h =
      sym (ap (λ f. step_by by_delete f [] b) h ∙ ap (λ f. with_front (passed []) (fresh by_delete f b)) h)
  plain_so (x ∷ xs) b none h = absurd (cc none)

  pub ends_so : (f : Fate) (front waiting read : List ℕ) (b : ℕ) (keys : Option (List Key)) → f ≡ Ends → front ≡ [] → read ≡ waiting ++ b ∷ []
      → keys ≡ known_keys by_delete read → with_front (passed front) (ended keys) ≡ step_by by_delete f waiting b
  ends_so f front waiting read b keys ends none whole is =
      ap (λ front. with_front (passed front) (ended keys)) none
      ∙ ap ended (is ∙ ap (known_keys by_delete) whole)
      ∙ sym (ap (λ f. step_by by_delete f waiting b) ends)

  pub breaks_so : (f : Fate) (waiting : List ℕ) (b : ℕ) → f ≡ Breaks → breaks_off by_delete waiting b ≡ step_by by_delete f waiting b
  breaks_so f waiting b breaks = sym (ap (λ f. step_by by_delete f waiting b) breaks)

  pub ends_behind : (f : Fate) (front waiting read : List ℕ) (b : ℕ) (keys : Option (List Key)) → f ≡ Ends → front ≡ 0x1B ∷ [] → read ≡ waiting ++ b ∷ []
      → keys ≡ known_keys by_delete read → with_front (passed front) (ended keys) ≡ with_front (Passed 0x1B ∷ []) (plain_step by_delete f waiting b)
  ends_behind f front waiting read b keys ends one whole is =
      ap (λ front. with_front (passed front) (ended keys)) one
      ∙ ap (λ keys. with_front (Passed 0x1B ∷ []) (ended keys)) (is ∙ ap (known_keys by_delete) whole)
      ∙ sym (ap (λ f. with_front (Passed 0x1B ∷ []) (plain_step by_delete f waiting b)) ends)

  pub behind_so : (f : Fate) (waiting read : List ℕ) (b : ℕ) → read ≡ waiting ++ b ∷ [] → f ≡ fate read
      → with_front (Passed 0x1B ∷ []) (plain_step by_delete f waiting b) ≡ behind_escape by_delete waiting b
  behind_so f waiting read b whole is = ap (λ f. with_front (Passed 0x1B ∷ []) (plain_step by_delete f waiting b)) (is ∙ ap fate whole)

  pub goes_so : (f : Fate) (waiting read : List ℕ) (b : ℕ) → read ≡ waiting ++ b ∷ [] → f ≡ fate read
      → step_by by_delete f waiting b ≡ step by_delete (Outside waiting) b
  goes_so f waiting read b whole is = ap (λ f. step_by by_delete f waiting b) (is ∙ ap fate whole)

  pub two_so : (waiting rest : List ℕ) (b : ℕ) → has_two_escapes waiting ≡ true → rest ≡ drop 1 waiting
      → behind_escape by_delete rest b ≡ breaks_off by_delete waiting b
  two_so waiting rest b two is =
      ap (λ rest. behind_escape by_delete rest b) is
      ∙ sym (cond-true (has_two_escapes waiting) (behind_escape by_delete (drop 1 waiting) b) (broken by_delete waiting b) two)

  pub one_so : (waiting : List ℕ) (b : ℕ) → has_two_escapes waiting ≡ false → broken by_delete waiting b ≡ breaks_off by_delete waiting b
  one_so waiting b one = sym (cond-false (has_two_escapes waiting) (behind_escape by_delete (drop 1 waiting) b) (broken by_delete waiting b) one)
