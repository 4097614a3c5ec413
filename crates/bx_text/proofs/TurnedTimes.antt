-- Many steps turned, one after another.
use Rattle.std.proofs.Common.{◌≡◌, ℕ, zero, suc, ◌+◌, ◌<◌, ◌^◌, [], ◌∷◌, length, refl, ap, sym, ◌∙◌, length-append, arith}
use Rattle.std.specs.Fn.{iterate}
use Rattle.std.proofs.Math.Numerals.{suc-eq-add-one}
use Rattle.bx_text.specs.pieces.Pieces.{IsAddressable}
use Rattle.bx_text.specs.Buffers.{Buffers}
use Rattle.bx_text.specs.Edits.{undone, redone}
use Rattle.bx_text.specs.Steps.{Turning, IsTurning, HasTurned, Turns, in_undo, in_redo, IsShort}
use Rattle.bx_text.proofs.Bytes.{IsAddressable-in_buffers}
use Rattle.bx_text.proofs.Turned.{turned_sound, undone_view, redone_view, span_short}

iterate_last : {A : Type 0} (h : A → A) (n : ℕ) (x : A) → iterate h (suc n) x ≡ h (iterate h n x)
iterate_last h zero x = refl
iterate_last h (suc n) x = iterate_last h n (h x)

one_more : {A : Type 0} (h : A → A) (n : ℕ) (x : A) → iterate h (n + 1) x ≡ h (iterate h n x)
one_more h n x = ap (λ m. iterate h m x) (sym (suc-eq-add-one n)) ∙ iterate_last h n x

pub none_turned : (b : Buffers) (t : Turning) → IsTurning b t → HasTurned b 0 t t
none_turned b t h = record { sound = h; undone = refl; redone = refl; left = omega arith }

pub one_turned : (b : Buffers) (n : ℕ) (old now new : Turning) → HasTurned b n old now → Turns now.pieces now.from now.to new.pieces new.from new.to
    → HasTurned b (n + 1) old new
one_turned b n old now new h t =
    let s = h.sound in
    let sound = turned_sound b now.pieces now.from now.to new.pieces new.from new.to s.in_buffers s.short s.from_steps s.to_steps t in
    record {
      sound = record { in_buffers = sound.in_buffers; short = sound.short; from_steps = sound.from_steps; to_steps = sound.to_steps };
      undone = undone_view b now.pieces now.from now.to new.pieces new.from new.to s.in_buffers s.from_steps t
          ∙ ap undone h.undone ∙ sym (one_more undone n (in_undo b old));
      redone = redone_view b now.pieces now.from now.to new.pieces new.from new.to s.in_buffers s.from_steps t
          ∙ ap redone h.redone ∙ sym (one_more redone n (in_redo b old));
      left = omega (arith, h.left, ap length t.1, length-append new.from (t.0 ∷ []));
    }

-- what a turn asks
pub record IsReady (now : Turning) : Type 0 where
  pub fits : IsAddressable now.pieces
  pub small : IsShort now.pieces now.from

pub can_turn : (b : Buffers) (t : Turning) → IsTurning b t → length b.opened < 2 ^ 64 → length b.added < 2 ^ 64 → IsReady t
can_turn b t h opened added = record {
  fits = IsAddressable-in_buffers b t.pieces opened added h.in_buffers;
  small = λ s rest e. span_short b t.pieces t.from rest s h.in_buffers h.short h.from_steps e;
}
