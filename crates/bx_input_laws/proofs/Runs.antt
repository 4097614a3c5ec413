-- Input, byte by byte and in pieces.
use Rattle.std.proofs.Common.{Bool, ◌≡◌, ℕ, List, [], ◌∷◌, ◌++◌, refl, ap, sym, ◌∙◌, append_assoc}
use Rattle.std.proofs.lemmas.List.{append-nil}
use Rattle.bx_input.specs.Scan as scan
use Rattle.bx_input.specs.Scan.{State, Part, Step, step_to, with_front}

front_twice : (xs ys : List Part) (s : Step) → with_front (xs ++ ys) s ≡ with_front xs (with_front ys s)
front_twice xs ys s = ap (step_to s.state) (append_assoc xs ys s.parts)

-- ---- whether or not the terminal's own erase character is DELETE

module _ (by_delete : Bool) where
  abbrev run : State → List ℕ → Step
  run = scan.run by_delete

  abbrev step : State → ℕ → Step
  step = scan.step by_delete

  abbrev pub after_first : Step → List ℕ → Step
  after_first first more = with_front first.parts (run first.state more)

  -- input cut in two has the output of its first part, and then of its second
  pub in_pieces : (s : State) (bs more : List ℕ) → run s (bs ++ more) ≡ after_first (run s bs) more
  in_pieces s [] more = refl
  in_pieces s (b ∷ bs) more =
      let first = step s b in
      ap (with_front first.parts) (in_pieces first.state bs more)
      ∙ sym (front_twice first.parts (run first.state bs).parts (run (run first.state bs).state more))

  pub one_more : (s : State) (bs : List ℕ) (b : ℕ)
      → run s (bs ++ b ∷ []) ≡ step_to (step (run s bs).state b).state ((run s bs).parts ++ (step (run s bs).state b).parts)
  one_more s bs b =
      in_pieces s bs (b ∷ [])
      ∙ ap (λ xs. step_to (step (run s bs).state b).state ((run s bs).parts ++ xs)) (append-nil (step (run s bs).state b).parts)
