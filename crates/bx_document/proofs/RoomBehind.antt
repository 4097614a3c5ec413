-- The room that glyphs leave in a row, and glyphs that are left out at the left.
use Rattle.std.proofs.Common.{◌≡◌, ℕ, ◌+◌, ◌-◌, ◌<◌, ◌≤◌, true, false, nat_le, List, [], ◌∷◌, length, map, take, get_or, refl, ap, sym, ◌∙◌, arith}
use Rattle.std.proofs.Common.{take_all, if◌then◌else◌}
use Rattle.std.specs.Prelude.{Option, Some, None}
use Rattle.std.proofs.lemmas.Bool.Decides.{nat_tests}
use Rattle.std.proofs.lemmas.List.Sums.{sum_by-cons}
use Rattle.bx_rows.specs.declared.drawn.Drawn.{Drawn}
use Rattle.bx_rows.specs.RowPicture.{Glyph}
use Rattle.bx_rows.specs.Shown.{glyph_of}
use Rattle.bx_document.specs.InputLine.{columns_taken}
use Rattle.bx_document.proofs.RowGlyphs.{columns_in, fit-columns}

pub taken-columns : (ds : List Drawn) → columns_taken (map glyph_of ds) ≡ columns_in ds
taken-columns [] = refl
taken-columns (d ∷ ds) =
    sum_by-cons (λ (g : Glyph). g.columns) (glyph_of d) (map glyph_of ds) ∙ ap (λ n. d.columns + n) (taken-columns ds)
    ∙ sym (sum_by-cons (λ (x : Drawn). x.columns) d ds)

-- what glyphs of `taken` columns leave of `room`
abbrev pub left_of : ℕ → ℕ → Option ℕ
left_of room taken = if nat_le taken room then Some (room - taken) else None

-- the first `i` glyphs leave `left` columns
abbrev pub Leaves : ℕ → List Drawn → ℕ → ℕ → Type 0
Leaves room ds i left = left + columns_in (take i ds) ≡ room

pub none-left : (room : ℕ) (ds : List Drawn) (i left : ℕ) (d : Drawn) → Leaves room ds i left → i < length ds → get_or ds i d ≡ d → left < d.columns
    → None ≡ left_of room (columns_taken (map glyph_of ds))
none-left room ds i left d is inside at more =
    let fits = fit-columns ds i d inside at in
    let over : nat_le (columns_in ds) room ≡ false = grind (arith, nat_tests) in
    sym (ap (left_of room) (taken-columns ds) ∙ ap (λ b. if b then Some (room - columns_in ds) else None) over)

pub all-left : (room : ℕ) (ds : List Drawn) (i left : ℕ) → Leaves room ds i left → length ds ≤ i → Some left ≡ left_of room (columns_taken (map glyph_of ds))
all-left room ds i left is past =
    let whole : columns_in (take i ds) ≡ columns_in ds = ap columns_in (take_all i ds past) in
    let within : nat_le (columns_in ds) room ≡ true = grind (arith, nat_tests) in
    let rest : room - columns_in ds ≡ left = omega (arith, is, whole) in
    sym (ap (left_of room) (taken-columns ds) ∙ ap (λ b. if b then Some (room - columns_in ds) else None) within ∙ ap Some rest)
