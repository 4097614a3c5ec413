-- Glyphs put side by side over blanks: the invariant of a caller's loop.
use Rattle.std.proofs.Common.{◌≡◌, ℕ, ◌+◌, ◌-◌, ◌≤◌, Bool, true, List, [], ◌∷◌, ◌++◌, length, take, drop, replicate, refl, ap, ◌∙◌, arith}
use Rattle.std.proofs.Math.Seq.{take-append-add, drop-append-add}
use Rattle.std.proofs.lemmas.List.{append-nil, drop-replicate, take-replicate}
use Rattle.bx_grid.specs.Columns.{Col, Glyph, blank, is_ascii_glyph, run_columns}
use Rattle.bx_common.specs.Glyphs.{run_width}
use Rattle.bx_grid.specs.Grid.{paste, AreBlank}
use Rattle.bx_grid.specs.Columns.{is_ascii_printable}

-- ---- a character from SPACE to TILDE is a glyph of one column

pub plain_text : (byte : ℕ) (text : List ℕ) → text ≡ byte ∷ [] → is_ascii_printable byte ≡ true → is_ascii_glyph text ≡ true
plain_text byte text e h = ap is_ascii_glyph e ∙ h

pub plain_is_one : (negative : Bool) (text : List ℕ) (byte : ℕ) → text ≡ byte ∷ [] → is_ascii_printable byte ≡ true
    → run_columns negative text ≡ Glyph (byte ∷ []) 1 0 negative ∷ []
plain_is_one negative text byte e h = rw (e, h) refl

pub plain_run_width : (text : List ℕ) → is_ascii_glyph text ≡ true → run_width text ≡ 1
plain_run_width [] h = absurd (cc h)
plain_run_width (b ∷ []) h = rw h refl
plain_run_width (b ∷ c ∷ rest) h = absurd (cc h)

pub plain_width : (negative : Bool) (text : List ℕ) → is_ascii_glyph text ≡ true → length (run_columns negative text) ≡ 1
plain_width negative [] h = absurd (cc h)
plain_width negative (b ∷ []) h = rw h refl
plain_width negative (b ∷ c ∷ rest) h = absurd (cc h)

-- ---- the glyphs put so far, and then blanks

pub blank_next : (done : List Col) (k n m : ℕ) → k ≡ length done → n ≤ m → AreBlank k n (done ++ replicate m blank)
blank_next done k n m at fits =
    let there : k ≡ length done + 0 = omega (arith, at) in
    ap (λ l. take n (drop l (done ++ replicate m blank))) there
    ∙ ap (take n) (drop-append-add done (replicate m blank) 0)
    ∙ take-replicate n m blank fits

pub laid_next : (done news : List Col) (k m rest : ℕ) → k ≡ length done → m ≡ length news + rest
    → paste (done ++ replicate m blank) k news ≡ (done ++ news) ++ replicate rest blank
laid_next done news k m rest at split =
    let cs : List Col = done ++ replicate m blank in
    let start : k ≡ length done + 0 = omega (arith, at) in
    let end : k + length news ≡ length done + length news = omega (arith, at) in
    let front : take k cs ≡ done = ap (λ l. take l cs) start ∙ take-append-add done (replicate m blank) 0 ∙ append-nil done in
    let few : length news ≤ m = omega (arith, split) in
    let left : m - length news ≡ rest = omega (arith, split) in
    let back : drop (k + length news) cs ≡ replicate rest blank =
    ap (λ l. drop l cs) end ∙ drop-append-add done (replicate m blank) (length news) ∙ drop-replicate (length news) m blank
    ∙ ap (λ l. replicate l blank) left in
    rw (front, back) refl
