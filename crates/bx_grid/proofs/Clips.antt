-- A clip that is read changes nothing that is seen.
use Rattle.std.proofs.Common.{◌≡◌, ℕ, true, List, [], ◌++◌, refl, ap, sym, ◌∙◌, codes}
use Rattle.std.proofs.lemmas.List.{append-nil}
use Rattle.bx_common.specs.Characters.{is_ascii_printable, are_ascii_printable}
use Rattle.base64.specs.Engines.{standard}
use Rattle.bx_grid.specs.declared.command.Command.TheVariants.{Clip}
use Rattle.base64.specs.GeneralPurpose.{encode_of}
use Rattle.base64.specs.GeneralPurpose.{IsBytes}
use Rattle.bx_grid.specs.Tokens.{clip_bytes, string_command}
use Rattle.bx_grid.specs.Effects.{Effect, pending_effects, effects, run_effects}
use Rattle.bx_grid.specs.Picture.{IsIdle}
use Rattle.bx_grid.specs.Grid.{AreWholeTokens}
use Rattle.bx_grid.specs.Terminal.{Terminal, reads, run_ended, run_put}
use Rattle.bx_grid.proofs.Doing.{run, run_is}
use Rattle.bx_grid.proofs.Encodings.{encoded_printable, encoded_is_base64}
use Rattle.bx_grid.proofs.Reading.{at, all-append, reads-append}
use Rattle.bx_grid.proofs.Strings.{string_does}

-- the text of the clip
abbrev text : List ℕ → List ℕ
text held = codes "52;c;" ++ encode_of standard held

text_printable : (held : List ℕ) → IsBytes held → are_ascii_printable (text held) ≡ true
text_printable held h = all-append is_ascii_printable (codes "52;c;") (encode_of standard held) refl (encoded_printable standard held h)

text_clips : (held : List ℕ) → IsBytes held → string_command (text held) ≡ Clip
text_clips held h = rw (encoded_is_base64 held h) refl

-- where no token is half read, only the run ends
pub clip_does : (t : Terminal) (log : List Effect) (held : List ℕ) → t.half_read ≡ [] → IsBytes held
    → run (t, log) (clip_bytes held) ≡ (at (run_ended t) [], log ++ pending_effects t)
unfolding clip_bytes
clip_does t log held r h =
    string_does t log (text held) r (text_printable held h)
    ∙ rw (text_clips held h, append-nil (log ++ pending_effects t)) refl

pub clip_ends_run : (t : Terminal) (held : List ℕ) → t.half_read ≡ [] → IsBytes held → reads t (clip_bytes held) ≡ at (run_ended t) []
clip_ends_run t held r h = ap (λ (w : Terminal × List Effect). w.0) (sym (run_is t [] (clip_bytes held)) ∙ clip_does t [] held r h)

-- without a run nothing takes effect
no_run : (t : Terminal) → t.run ≡ [] → (run_ended t ≡ t) × (pending_effects t ≡ [])
no_run t h = (ap (run_put t t.position t.negative) h, ap (run_effects t t.position t.negative) h)

clip_idle : (t : Terminal) (held : List ℕ) → IsIdle t → IsBytes held → run (t, []) (clip_bytes held) ≡ (t, [])
clip_idle t held i h =
    let none = no_run t i.no_run in
    clip_does t [] held i.no_token h
    ∙ ap (λ u. run (at u [], pending_effects t) []) none.0
    ∙ ap (λ k. run (at t k, pending_effects t) []) (sym i.no_token)
    ∙ ap (λ l. run (t, l) []) none.1

pub clip_changes_nothing : (t : Terminal) (held : List ℕ) → IsIdle t → IsBytes held → reads t (clip_bytes held) ≡ t
clip_changes_nothing t held i h = ap (λ (w : Terminal × List Effect). w.0) (sym (run_is t [] (clip_bytes held)) ∙ clip_idle t held i h)

pub clip_has_no_effect : (t : Terminal) (held : List ℕ) → IsIdle t → IsBytes held → effects t (clip_bytes held) ≡ []
clip_has_no_effect t held i h = ap (λ (w : Terminal × List Effect). w.1) (sym (run_is t [] (clip_bytes held)) ∙ clip_idle t held i h)

pub clip_is_whole : (held : List ℕ) → IsBytes held → AreWholeTokens (clip_bytes held)
clip_is_whole held h t i = rw (clip_changes_nothing t held i h) i

-- a clip after bytes that leave nothing half read
pub clip_after : (t : Terminal) (bytes held : List ℕ) → IsIdle (reads t bytes) → IsBytes held → reads t (bytes ++ clip_bytes held) ≡ reads t bytes
clip_after t bytes held i h = reads-append t bytes (clip_bytes held) ∙ clip_changes_nothing (reads t bytes) held i h
