-- What a row shows of a text and an input line.
use Rattle.std.proofs.Common.{◌≡◌, ℕ, ◌+◌, ◌-◌, ◌<◌, get_or, List, ◌∷◌, [], ◌++◌, map, take, drop, length, ap, ap₂, sym, subst, ◌∙◌}
use Rattle.std.proofs.Common.{Bool}
use Rattle.std.specs.Prelude.{All, Option}
use Rattle.std.proofs.lemmas.List.{map_more, map_push, take_rest}
use Rattle.std.proofs.lemmas.List.Elements.{All-drop, All-push}
use Rattle.bx_grid.specs.Columns.{Col}
use Rattle.bx_rows.specs.declared.drawn.Drawn.{Drawn}
use Rattle.bx_rows.specs.RowPicture.{Glyph, letter_glyphs}
use Rattle.bx_rows.specs.Shown.{glyph_of}
use Rattle.bx_document.specs.Drawing.{glyph_row}
use Rattle.bx_document.specs.InputLine.{ShownLine, shown_with}
use Rattle.bx_document.specs.Narrow.{IsWellDrawn}
use Rattle.bx_document.specs.StatusRow.{with_some_end}

-- the glyphs behind the first `n`
pub rest-drawn : (ds found : List Drawn) (n : ℕ) → ds ≡ found → All IsWellDrawn found → All IsWellDrawn (take (length ds - n) (drop n ds))
rest-drawn ds found n same all =
    subst (All IsWellDrawn) (sym (take_rest ds n)) (All-drop IsWellDrawn n ds (subst (All IsWellDrawn) (sym same) all))

pub rest-glyphs : (ds found : List Drawn) (n : ℕ) → ds ≡ found → map glyph_of (take (length ds - n) (drop n ds)) ≡ map glyph_of (drop n found)
rest-glyphs ds found n same = ap (map glyph_of) (take_rest ds n) ∙ ap (λ xs. map glyph_of (drop n xs)) same

-- the row, by what is appended one after another: letters, a part of the line, and the end
pub input-row : (w w' : ℕ) (text : List ℕ) (line : List Glyph) (end : Option (List Glyph × Bool)) (letters pushed ended : List Drawn) (columns : List Col)
    → w' ≡ w → map glyph_of letters ≡ letter_glyphs text → map glyph_of pushed ≡ map glyph_of letters ++ line
    → map glyph_of ended ≡ with_some_end w' (map glyph_of pushed) end → columns ≡ glyph_row w' (map glyph_of ended)
    → columns ≡ glyph_row w (with_some_end w (letter_glyphs text ++ line) end)
input-row w w' text line end letters pushed ended columns same first second third row =
    row ∙ ap (λ n. glyph_row n (map glyph_of ended)) same
    ∙ ap (glyph_row w) (third ∙ ap (λ n. with_some_end n (map glyph_of pushed) end) same
    ∙ ap (λ gs. with_some_end w gs end) (second ∙ ap (λ gs. gs ++ line) first))

-- what is told of the part that is shown, by the glyphs and the cell of the line
pub part-told : {A : Type 0} (F : List Glyph → Option ShownLine → A) (w w' before : ℕ) (ds found : List Drawn) (gs : List Glyph) (was is : Option ℕ)
    → w' ≡ w → ds ≡ found → map glyph_of found ≡ gs → was ≡ is
    → F (map glyph_of ds) (shown_with w' before (map glyph_of ds) was) ≡ F gs (shown_with w before gs is)
part-told F w w' before ds found gs was is width same glyphs cell =
    ap (λ n. F (map glyph_of ds) (shown_with n before (map glyph_of ds) was)) width
    ∙ ap₂ (λ xs o. F xs (shown_with w before xs o)) (ap (map glyph_of) same ∙ glyphs) cell

-- one glyph more is copied
pub copied-more : (from was now : List Drawn) (i : ℕ) (d copy : Drawn) → i < length from → d ≡ get_or from i d → now ≡ was ++ copy ∷ []
    → glyph_of copy ≡ glyph_of d → IsWellDrawn copy
    → (map glyph_of was ≡ map glyph_of (take i from)) × All IsWellDrawn was
    → (map glyph_of now ≡ map glyph_of (take (i + 1) from)) × All IsWellDrawn now
copied-more from was now i d copy inside is items same drawn before = (
  ap (map glyph_of) items ∙ map_push glyph_of was copy
      ∙ ap₂ (λ gs g. gs ++ g ∷ []) before.0 (same ∙ ap glyph_of is)
      ∙ sym (map_more glyph_of from i d inside),
  subst (All IsWellDrawn) (sym items) (All-push IsWellDrawn was copy before.1 drawn),
)
