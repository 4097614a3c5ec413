-- A clip after a painting: the picture stays, and so do the painting's effects.
use Rattle.std.proofs.Common.{◌≡◌, ℕ, List, [], ◌∷◌, ◌++◌, refl, ap, sym, subst, ◌∙◌, append_assoc}
use Rattle.std.specs.Prelude.{codes}
use Rattle.std.proofs.lemmas.List.{append-nil}
use Rattle.base64.specs.Engines.{standard}
use Rattle.base64.specs.GeneralPurpose.{encode_of}
use Rattle.base64.specs.GeneralPurpose.{IsBytes}
use Rattle.bx_grid.specs.Tokens.{clip_bytes}
use Rattle.bx_grid.specs.Effects.{byte_effects, effects}
use Rattle.bx_grid.specs.Picture.{IsIdle, PictureState, Shows}
use Rattle.bx_grid.specs.Grid.{AreWholeTokens}
use Rattle.bx_grid.specs.Terminal.{Terminal, byte_read, reads}
use Rattle.bx_grid.proofs.Clips.{clip_after, clip_has_no_effect}

-- the parts of a clip in the order in which they are written
pub clip_is : (start front most base64 held : List ℕ) → start ≡ [] → front ≡ start ++ codes "\u{1b}]52;c;" → most ≡ front ++ base64
    → base64 ≡ encode_of standard held → most ++ 0x07 ∷ [] ≡ clip_bytes held
unfolding clip_bytes
clip_is start front most base64 held none first second text = rw (second, first, none, text) refl

effects-append : (t : Terminal) (xs ys : List ℕ) → effects t (xs ++ ys) ≡ effects t xs ++ effects (reads t xs) ys
effects-append t [] ys = refl
effects-append t (x ∷ xs) ys =
    ap (λ es. byte_effects t x ++ es) (effects-append (byte_read t x) xs ys)
    ∙ sym (append_assoc (byte_effects t x) (effects (byte_read t x) xs) (effects (reads (byte_read t x) xs) ys))

pub shows_after : (held : List ℕ) → IsBytes held → (t : Terminal) (painting : List ℕ) (p : PictureState) → Shows (reads t painting) p
    → Shows (reads t (painting ++ clip_bytes held)) p
shows_after held h t painting p shows = subst (λ u. Shows u p) (sym (clip_after t painting held shows.nothing_half_read h)) shows

pub effects_after : (held : List ℕ) → IsBytes held → (t : Terminal) (painting : List ℕ) → IsIdle (reads t painting)
    → effects t (painting ++ clip_bytes held) ≡ effects t painting
effects_after held h t painting i =
    effects-append t painting (clip_bytes held)
    ∙ ap (λ es. effects t painting ++ es) (clip_has_no_effect (reads t painting) held i h)
    ∙ append-nil (effects t painting)

pub tokens_after : (held : List ℕ) → IsBytes held → (painting : List ℕ) → AreWholeTokens painting → AreWholeTokens (painting ++ clip_bytes held)
tokens_after held h painting whole t i = subst IsIdle (sym (clip_after t painting held (whole t i) h)) (whole t i)
