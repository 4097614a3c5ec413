-- Parts of the laws of places: what holds in every window, and the greatest place at or before an offset. `ucd` is what any
-- tables say.
use Rattle.std.specs.Prelude.{◌≡◌, ℕ, ◌≤◌, true, List, IsUtf8}
use Rattle.bx_ucd.specs.Data.{Data}
use Rattle.bx_common.specs.Characters.{is_side}
use Rattle.bx_common.specs.declared.base.Base.{Base}
use Rattle.bx_view.specs.Places.{IsTextPlace}
use Rattle.bx_view.specs.TextRows.{TextRow, text_rows}

-- a property `P` of the rows of every text, in windows of every width `w` and under every base direction
abbrev pub InEachWindow : (Data → List ℕ → ℕ → List TextRow → Type 0) → Type 0
InEachWindow P =
    (ucd : Data) (base : Base) (w : ℕ) (text : List ℕ) → is_side w ≡ true → IsUtf8 text
    → P ucd text w (text_rows ucd base w text)

-- the place is the greatest one of the text not after the offset
pub record IsGreatestPlace (ucd : Data) (text : List ℕ) (offset place : ℕ) : Type 0 where
  pub is_place : IsTextPlace ucd text place
  pub not_after : place ≤ offset
  pub greatest : (p : ℕ) → IsTextPlace ucd text p → p ≤ offset → p ≤ place
