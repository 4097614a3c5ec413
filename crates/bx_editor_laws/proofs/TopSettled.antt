-- Behind a key that moved the view so that the cursor's row is shown, the fewest rows that show it are none.
use Rattle.std.proofs.Common.{◌≡◌, ◌∙◌, ℕ, ◌+◌, ◌-◌, ◌<◌, ◌≤◌, Bool, true, false, nat_le, length, map, refl, ap, arith, leb-true, if◌then◌else◌}
use Rattle.std.proofs.lemmas.List.{length-map}
use Rattle.bx_ucd.specs.Data.{Data}
use Rattle.bx_paragraph.proofs.Starts.{side-some}
use Rattle.bx_view.specs.Laws.{IsShownFrom}
use Rattle.bx_view.specs.TextRows.{first, row_at, row_of}
use Rattle.bx_view.specs.Top.{follow, nearest_top, top_away, top_row_away}
use Rattle.bx_view.specs.declared.moves.Vertical.{Vertical}
use Rattle.bx_view.specs.declared.moves.Vertical.TheVariants.{Up, Down}
use Rattle.bx_view.proofs.LeastMove.{falls-own}
use Rattle.bx_view.proofs.Nearest.{falls-within}
use Rattle.bx_view.proofs.Rising.{rank-few}
use Rattle.bx_view.proofs.Walking.{rows-rise, text-rank}
use Rattle.bx_editor.specs.declared.scrolling.Scroll.{Scroll}
use Rattle.bx_editor.specs.Editor.{Editor, rows, text_height}
use Rattle.bx_editor.specs.Functions.{HasRows}
use Rattle.bx_editor.specs.Picture.{next_top, scrolled_by}
use Rattle.bx_editor.specs.Scrolling.{moved_top}
use Rattle.bx_editor_laws.specs.ScrollLaws.{ShowsCursor, top_row}

pub height-some : (height : ℕ) → 0 < text_height height
height-some height = go (nat_le 2 height) refl
  where
    go : (b : Bool) → nat_le 2 height ≡ b → 0 < (if b then height - 1 else 1)
    go true high = let more = leb-true 2 height high in omega (arith, more)
    go false low = omega arith

-- the top row by which a row is shown already is the nearest one
stays-near : (a c t : ℕ) → a ≤ c → c < a + t → nearest_top a c t ≡ a
stays-near a c t low high = omega (arith, low, high)

module _ (d : Data) (x : Editor) (has : HasRows x) where
  abbrev t : ℕ
  t = text_height x.height

  some-row : 0 < length (rows d x)
  some-row =
      omega (
        arith,
        text-rank d x.base x.width (side-some x.width has.columns) x.content.text has.text 0,
        rank-few 0 (map first (rows d x)),
        length-map (rows d x) first,
      )

  pub own-within : (offset : ℕ) → row_of (rows d x) offset < length (rows d x)
  own-within offset = falls-within (rows d x) offset some-row

  pub falls-there : (k : ℕ) → k < length (rows d x) → row_of (rows d x) (first (row_at (rows d x) k)) ≡ k
  falls-there k within = falls-own (rows d x) _ (rows-rise d x.base x.width (side-some x.width has.columns) x.content.text has.text) k within

  -- the row that is shown first some rows on, or back
  pub away-row : (way : Vertical) (n top : ℕ)
      → row_of (rows d x) (top_away (rows d x) way n top t) ≡ top_row_away (length (rows d x)) way n (row_of (rows d x) top) t
  away-row Up n top = let within = own-within top in falls-there _ (omega (arith, within))
  away-row Down n top = let within = own-within top in let some = height-some x.height in falls-there _ (omega (arith, within, some))

  module _ (on : x.ended ≡ false) where
    -- where the place is shown from a top row, that stays
    settles : (top : ℕ) → IsShownFrom (rows d x) x.place t (row_of (rows d x) top) → row_of (rows d x) (next_top d x top) ≡ row_of (rows d x) top
    settles top h =
        ap (λ b. row_of (rows d x) (if b then top else follow (rows d x) top x.place t)) on
        ∙ ap (λ k. row_of (rows d x) (first (row_at (rows d x) k))) (stays-near (row_of (rows d x) top) (row_of (rows d x) x.place) t h.0 h.1)
        ∙ falls-there (row_of (rows d x) top) (own-within top)

    abbrev moved : Scroll → ℕ
    moved s = moved_top d x x.top s

    pub top-is : (s : Scroll) → IsShownFrom (rows d x) x.place t (row_of (rows d x) (moved s))
        → top_row d (scrolled_by d s x) ≡ row_of (rows d x) (moved s)
    top-is s h = ap (λ b. row_of (rows d x) (if b then x.top else next_top d x (moved s))) on ∙ settles (moved s) h

    pub shows-there : (s : Scroll) → IsShownFrom (rows d x) x.place t (row_of (rows d x) (moved s)) → ShowsCursor d (scrolled_by d s x)
    shows-there s h =
        let is = top-is s h in
        let low = h.0 in
        let high = h.1 in
        record { above = omega (arith, is, low); below = omega (arith, is, high) }
