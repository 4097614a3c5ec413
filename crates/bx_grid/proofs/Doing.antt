-- The effects of reading on a terminal's columns, along with its state after it.
use Rattle.std.proofs.Common.{◌≡◌, ℕ, true, List, [], ◌∷◌, ◌++◌, refl, ap, sym, ◌∙◌, append_assoc}
use Rattle.std.specs.List.{list_all}
use Rattle.std.proofs.lemmas.List.{append-nil}
use Rattle.bx_grid.specs.Tokens.{is_param, command_of}
use Rattle.bx_grid.specs.Effects.{Effect, pending_effects, effects_after, byte_effects, command_effects, effects}
use Rattle.bx_grid.specs.Terminal.{Terminal, reads, byte_read, read_after, run_ended, after_command}
use Rattle.bx_grid.proofs.Reading.{at, and_left, and_right, all-push, IsFinal, params_all, params_then}

-- a terminal, and its effects so far
abbrev pub run : Terminal × List Effect → List ℕ → Terminal × List Effect
run w [] = w
run w (b ∷ bs) = run (byte_read w.0 b, w.1 ++ byte_effects w.0 b) bs

abbrev pub run_step : Terminal → List Effect → Terminal × List Effect
run_step t log = (t, log)

pub run-append : (w : Terminal × List Effect) (xs ys : List ℕ) → run w (xs ++ ys) ≡ run (run w xs) ys
run-append w [] ys = refl
run-append w (x ∷ xs) ys = run-append (byte_read w.0 x, w.1 ++ byte_effects w.0 x) xs ys

pub run_is : (t : Terminal) (log : List Effect) (bs : List ℕ) → run (t, log) bs ≡ (reads t bs, log ++ effects t bs)
run_is t log [] = ap (λ l. (t, l)) (sym (append-nil log))
run_is t log (b ∷ bs) =
    run_is (byte_read t b) (log ++ byte_effects t b) bs
    ∙ ap (λ l. (reads (byte_read t b) bs, l)) (append_assoc log (byte_effects t b) (effects (byte_read t b) bs))

-- an escape ends a run, which then takes effect
pub escape_does : (t : Terminal) (log : List Effect) → t.half_read ≡ [] → run (t, log) (0x1B ∷ []) ≡ (at (run_ended t) (0x1B ∷ []), log ++ pending_effects t)
escape_does t log h =
    ap (λ half_read. run_step (read_after t 0x1B half_read) (log ++ effects_after t 0x1B half_read)) h

params_do : (t : Terminal) (log : List Effect) (qs ps : List ℕ) → list_all is_param qs ≡ true → list_all is_param ps ≡ true
    → run (at t (0x1B ∷ 0x5B ∷ qs), log) ps ≡ (at t (0x1B ∷ 0x5B ∷ (qs ++ ps)), log)
params_do t log qs [] h g = ap (λ rest. (at t (0x1B ∷ 0x5B ∷ rest), log)) (sym (append-nil qs))
params_do t log qs (p ∷ ps) h g =
    let here : is_param p ≡ true = and_left (is_param p) (list_all is_param ps) g in
    let more : list_all is_param (qs ++ p ∷ []) ≡ true = all-push is_param qs p h here in
    rw (params_all (qs ++ p ∷ []) more, append-nil log)
    (params_do t log (qs ++ p ∷ []) ps more (and_right (is_param p) (list_all is_param ps) g)
    ∙ ap (λ rest. (at t (0x1B ∷ 0x5B ∷ rest), log)) (append_assoc qs (p ∷ []) ps))

final_does : (t : Terminal) (log : List Effect) (ps : List ℕ) (f : ℕ) → list_all is_param ps ≡ true → IsFinal f
    → run (at t (0x1B ∷ 0x5B ∷ ps), log) (f ∷ [])
    ≡ (after_command (at t []) (command_of ps f), log ++ command_effects (at t (0x1B ∷ 0x5B ∷ ps)) (command_of ps f))
final_does t log ps f h e =
    let split = params_then ps f h e.no_param in
    rw (split.1, e.no_intermediate, e.ends, split.0, split.1) refl

-- a sequence that follows a run
pub sequence_does : (t : Terminal) (log : List Effect) (ps : List ℕ) (f : ℕ)
    → t.half_read ≡ [] → list_all is_param ps ≡ true → IsFinal f
    → run (t, log) (0x1B ∷ 0x5B ∷ (ps ++ f ∷ []))
    ≡ (
      after_command (at (run_ended t) []) (command_of ps f),
      (log ++ pending_effects t)
          ++ command_effects (at (run_ended t) (0x1B ∷ 0x5B ∷ ps)) (command_of ps f),
    )
sequence_does t log ps f r h e =
    let u : Terminal = run_ended t in
    let done : List Effect = log ++ pending_effects t in
    ap (λ w. run w (0x5B ∷ (ps ++ f ∷ []))) (escape_does t log r)
    ∙ ap (λ l. run (at u (0x1B ∷ 0x5B ∷ []), l) (ps ++ f ∷ [])) (append-nil done)
    ∙ run-append (at u (0x1B ∷ 0x5B ∷ []), done) ps (f ∷ [])
    ∙ ap (λ w. run w (f ∷ [])) (params_do u done [] ps refl h)
    ∙ final_does u done ps f h e
