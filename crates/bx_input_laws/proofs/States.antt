-- The waiting bytes, in any state.
use Rattle.std.proofs.Common.{◌≡◌, ℕ, ◌≤◌, inl, inr, Bool, true, false, cond, List, [], ◌∷◌, ◌++◌, length, drop, Option, Some, None, refl, arith}
use Rattle.std.specs.Str.{bytes_eq}
use Rattle.std.proofs.lemmas.Bool.{both_ways, false≢true}
use Rattle.std.proofs.lemmas.List.{length-drop}
use Rattle.bx_bytes.specs.declared.fate.Fate.{Fate}
use Rattle.bx_bytes.specs.declared.fate.Fate.TheVariants.{Waits, Ends, Breaks}
use Rattle.bx_keys.specs.declared.key.Key.{Key}
use Rattle.bx_input.specs.Known.{fate, known_keys}
use Rattle.bx_input.specs.Mouse.{opens_report}
use Rattle.bx_input.specs.Sizes.{opens_size}
use Rattle.bx_input.specs.Table.{sequences, paste_end}
use Rattle.bx_input.specs.Paste.{paste_fate, paste_sequences}
use Rattle.bx_input.specs.Scan.{State, Outside, Within, Step, ended_in_paste, paste_step_by, fresh_in_paste, ended, start, fresh, broken}
use Rattle.bx_input.specs.Scan.{has_two_escapes, plain_step, behind_escape, step_by, step, run}
use Rattle.bx_input_laws.specs.Laws.{waiting_in, WaitsForFifteen}
use Rattle.bx_input_laws.proofs.Firsts.{waits_says, any_fewer}
use Rattle.bx_input_laws.proofs.Known.{known_waits}

-- the waiting bytes begin a sequence, and none wait after a CR
abbrev pub IsSound : State → Type 0
IsSound (Outside waiting) = fate waiting ≡ Waits
IsSound (Within waiting after_return) = (paste_fate waiting ≡ Waits) × (after_return ≡ true → waiting ≡ [])

ended_sound : (o : Option (List Key)) → IsSound (ended o).state
ended_sound None = (refl, λ e. refl)
ended_sound (Some bs) = refl

-- ---- whether or not the terminal's own erase character is DELETE

module _ (by_delete : Bool) where
  fresh_outside_sound : (f : Fate) (b : ℕ) → fate (b ∷ []) ≡ f → IsSound (fresh by_delete f b).state
  fresh_outside_sound Waits b h = h
  fresh_outside_sound Ends b h = ended_sound (known_keys by_delete (b ∷ []))
  fresh_outside_sound Breaks b h = refl

  broken_sound : (waiting : List ℕ) (b : ℕ) → IsSound (broken by_delete waiting b).state
  broken_sound waiting b = fresh_outside_sound (fate (b ∷ [])) b refl

  plain_sound : (f : Fate) (waiting : List ℕ) (b : ℕ) → fate (waiting ++ b ∷ []) ≡ f → IsSound (plain_step by_delete f waiting b).state
  plain_sound Waits waiting b h = h
  plain_sound Ends waiting b h = ended_sound (known_keys by_delete (waiting ++ b ∷ []))
  plain_sound Breaks waiting b h = broken_sound waiting b

  either_sound : (t : Bool) (s z : Step) → IsSound s.state → IsSound z.state → IsSound (cond t s z).state
  either_sound true s z h g = h
  either_sound false s z h g = g

  outside_sound : (f : Fate) (waiting : List ℕ) (b : ℕ) → fate (waiting ++ b ∷ []) ≡ f → IsSound (step_by by_delete f waiting b).state
  outside_sound Waits waiting b h = plain_sound Waits waiting b h
  outside_sound Ends waiting b h = plain_sound Ends waiting b h
  outside_sound Breaks waiting b h =
      let rest : List ℕ = drop 1 waiting in
      either_sound (has_two_escapes waiting) (behind_escape by_delete rest b) (broken by_delete waiting b)
      (plain_sound (fate (rest ++ b ∷ [])) rest b refl) (broken_sound waiting b)

  after_end_sound : (t : Bool) → IsSound (ended_in_paste t).state
  after_end_sound true = refl
  after_end_sound false = (refl, λ e. refl)

  fresh_sound : (f : Fate) (after_return : Bool) (b : ℕ) → paste_fate (b ∷ []) ≡ f → IsSound (fresh_in_paste f after_return b).state
  fresh_sound Waits after_return b h = (h, λ e. absurd (false≢true e))
  fresh_sound Ends after_return b h = (refl, λ e. refl)
  fresh_sound Breaks after_return b h = (refl, λ e. refl)

  within_sound : (f : Fate) (waiting : List ℕ) (after_return : Bool) (b : ℕ) → paste_fate (waiting ++ b ∷ []) ≡ f
      → IsSound (paste_step_by f waiting after_return b).state
  within_sound Waits waiting after_return b h = (h, λ e. absurd (false≢true e))
  within_sound Ends waiting after_return b h = after_end_sound (bytes_eq (waiting ++ b ∷ []) paste_end)
  within_sound Breaks waiting after_return b h = fresh_sound (paste_fate (b ∷ [])) after_return b refl

  pub step_sound : (s : State) (b : ℕ) → IsSound (step by_delete s b).state
  step_sound (Outside waiting) b = outside_sound (fate (waiting ++ b ∷ [])) waiting b refl
  step_sound (Within waiting after_return) b = within_sound (paste_fate (waiting ++ b ∷ [])) waiting after_return b refl

  pub run_sound : (s : State) (bs : List ℕ) → IsSound s → IsSound (run by_delete s bs).state
  run_sound s [] h = h
  run_sound s (b ∷ bs) h = run_sound (step by_delete s b).state bs (step_sound s b)

  abbrev IsFew : List ℕ → Type 0
  IsFew waiting = (length waiting ≤ 15) × (opens_report waiting ≡ false → opens_size waiting ≡ false → length waiting ≤ 9)

  fifteen : (s : State) → IsSound s → IsFew (waiting_in s)
  fifteen (Outside waiting) h = elim (known_waits waiting h) [
    | inl report ↦ (omega (arith, report.few, length-drop 3 waiting), λ e g. absurd (both_ways (opens_report waiting) e report.opens))
    | inr (inl size) ↦ (omega (arith, size.few, length-drop 4 waiting), λ e g. absurd (both_ways (opens_size waiting) g size.opens))
    | inr (inr other) ↦ (
        let nine = any_fewer sequences 10 waiting refl other.begins other.not_whole in
        (omega (arith, nine), λ e g. omega (arith, nine)))
  ]
  fifteen (Within waiting after_return) h =
      let ucd = waits_says paste_sequences waiting h.0 in
      let five = any_fewer paste_sequences 6 waiting refl ucd.begins ucd.not_whole in
      (omega (arith, five), λ e g. omega (arith, five))

  pub waits_for_fifteen : WaitsForFifteen by_delete
  waits_for_fifteen bs = fifteen (run by_delete start bs).state (run_sound start bs refl)
