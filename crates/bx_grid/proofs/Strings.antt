-- A string that is read: it is one token, whatever the length of its text, and a clip changes nothing.
use Rattle.std.proofs.Common.{◌≡◌, ℕ, true, false, List, [], ◌∷◌, ◌++◌, refl, ap, sym, ◌∙◌, append_assoc}
use Rattle.std.proofs.lemmas.List.{append-nil}
use Rattle.bx_common.specs.Characters.{is_ascii_printable, are_ascii_printable}
use Rattle.bx_grid.specs.Tokens.{string_text, after_text, string_command}
use Rattle.bx_grid.specs.Effects.{Effect, pending_effects, command_effects}
use Rattle.bx_grid.specs.Terminal.{Terminal, run_ended, after_command}
use Rattle.bx_grid.proofs.Doing.{run, run-append, escape_does}
use Rattle.bx_grid.proofs.Reading.{at, and_left, and_right, all-push}

text_all : (text : List ℕ) → are_ascii_printable text ≡ true → after_text text ≡ []
text_all [] h = refl
text_all (b ∷ text) h =
    rw (and_left (is_ascii_printable b) (are_ascii_printable text) h) (text_all text (and_right (is_ascii_printable b) (are_ascii_printable text) h))

text_then : (text : List ℕ) (f : ℕ) → are_ascii_printable text ≡ true → is_ascii_printable f ≡ false
    → (string_text (text ++ f ∷ []) ≡ text) × (after_text (text ++ f ∷ []) ≡ f ∷ [])
text_then [] f h n = (rw n refl, rw n refl)
text_then (b ∷ text) f h n =
    let rest = text_then text f (and_right (is_ascii_printable b) (are_ascii_printable text) h) n in
    let here : is_ascii_printable b ≡ true = and_left (is_ascii_printable b) (are_ascii_printable text) h in
    (rw here (ap (λ r. b ∷ r) rest.0), rw here rest.1)

-- the text waits, however long it is
text_does : (t : Terminal) (log : List Effect) (before text : List ℕ) → are_ascii_printable before ≡ true → are_ascii_printable text ≡ true
    → run (at t (0x1B ∷ 0x5D ∷ before), log) text ≡ (at t (0x1B ∷ 0x5D ∷ (before ++ text)), log)
text_does t log before [] h g = ap (λ rest. (at t (0x1B ∷ 0x5D ∷ rest), log)) (sym (append-nil before))
text_does t log before (b ∷ text) h g =
    let here : is_ascii_printable b ≡ true = and_left (is_ascii_printable b) (are_ascii_printable text) g in
    let more : are_ascii_printable (before ++ b ∷ []) ≡ true = all-push is_ascii_printable before b h here in
    rw (text_all (before ++ b ∷ []) more, append-nil log)
    (text_does t log (before ++ b ∷ []) text more (and_right (is_ascii_printable b) (are_ascii_printable text) g)
    ∙ ap (λ rest. (at t (0x1B ∷ 0x5D ∷ rest), log)) (append_assoc before (b ∷ []) text))

bell_does : (t : Terminal) (log : List Effect) (text : List ℕ) → are_ascii_printable text ≡ true
    → run (at t (0x1B ∷ 0x5D ∷ text), log) (0x07 ∷ [])
    ≡ (after_command (at t []) (string_command text), log ++ command_effects (at t (0x1B ∷ 0x5D ∷ text)) (string_command text))
bell_does t log text h =
    let split = text_then text 0x07 h refl in
    rw (split.1, split.0) refl

-- a string that follows a run
pub string_does : (t : Terminal) (log : List Effect) (text : List ℕ) → t.half_read ≡ [] → are_ascii_printable text ≡ true
    → run (t, log) (0x1B ∷ 0x5D ∷ (text ++ 0x07 ∷ []))
    ≡ (
      after_command (at (run_ended t) []) (string_command text),
      (log ++ pending_effects t) ++ command_effects (at (run_ended t) (0x1B ∷ 0x5D ∷ text)) (string_command text),
    )
string_does t log text r h =
    let u : Terminal = run_ended t in
    let done : List Effect = log ++ pending_effects t in
    ap (λ w. run w (0x5D ∷ (text ++ 0x07 ∷ []))) (escape_does t log r)
    ∙ ap (λ l. run (at u (0x1B ∷ 0x5D ∷ []), l) (text ++ 0x07 ∷ [])) (append-nil done)
    ∙ run-append (at u (0x1B ∷ 0x5D ∷ []), done) text (0x07 ∷ [])
    ∙ ap (λ w. run w (0x07 ∷ [])) (text_does u done [] text refl h)
    ∙ bell_does u done text h
