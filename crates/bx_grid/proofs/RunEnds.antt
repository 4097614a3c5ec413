-- Runs that are one glyph, and that none is left once it took effect.
use Rattle.std.proofs.Common.{◌≡◌, ℕ, ◌+◌, ◌<◌, Bool, true, false, ◌&&◌, nat_le, nat_lt, List, [], ◌∷◌, length, Option, Some, None, refl, ◌∙◌, arith}
use Rattle.std.specs.Str.{chars}
use Rattle.std.proofs.lemmas.Bool.Decides.{nat_tests}
use Rattle.unicode_width.specs.Width.{str_width}
use Rattle.bx_grid.specs.Columns.{Col, glyph_columns, run_columns, are_ascii_printable}
use Rattle.bx_common.specs.Glyphs.{run_width}
use Rattle.bx_grid.specs.Terminal.{Terminal, within, glyphs_put, run_put}

-- ---- runs that are one glyph

glyph_width : (run : List ℕ) → are_ascii_printable run ≡ false → run_width run ≡ str_width false (chars run)
glyph_width run h = rw h refl

pub glyphs_of : (negative : Bool) (run : List ℕ) (count : ℕ) → are_ascii_printable run ≡ false → count ≡ run_width run
    → glyph_columns run count negative ≡ run_columns negative run
glyphs_of negative run count h e =
    let is : count ≡ str_width false (chars run) = e ∙ glyph_width run h in
    rw (h, is) refl

-- ---- putting

pub within_at : (w r c : ℕ) → c < w → within w r c ≡ Some (r, c)
within_at w r c h = let test : nat_lt c w ≡ true = grind (arith, nat_tests) in rw test refl

-- ---- nothing is left

no_run_by : (t : Terminal) (p : ℕ × ℕ) (fits : Bool) (new : List Col) → nat_le 1 (length new) && nat_le (p.1 + length new) t.width ≡ fits
    → (glyphs_put t p new).run ≡ []
no_run_by t p true new e = rw e refl
no_run_by t p false new e = rw e refl

pub no_run : (t : Terminal) (q : Option (ℕ × ℕ)) (n : Option Bool) (run : List ℕ) → t.run ≡ run → (run_put t q n run).run ≡ []
no_run t q n [] h = h
no_run t (Some p) (Some negative) (b ∷ bs) h =
    let new = run_columns negative (b ∷ bs) in no_run_by t p (nat_le 1 (length new) && nat_le (p.1 + length new) t.width) new refl
no_run t (Some p) None (b ∷ bs) h = refl
no_run t None n (b ∷ bs) h = refl
