-- A whole text, computed with the small tables: its rows and their glyphs.
use Rattle.std.proofs.Common.{◌==◌, ℕ, Bool, List, [], ◌∷◌, map}
use Rattle.std.specs.Prelude.{flat_map, count_by, chars, encode_utf8_all}
use Rattle.std.specs.List.{list_all}
use Rattle.bx_ucd.specs.SmallTables.{small}
use Rattle.bx_common.specs.declared.base.Base.{Base}
use Rattle.bx_common.specs.declared.base.Base.TheVariants.{Auto}
use Rattle.bx_view.specs.TextRows.{TextRow, places, slots, text_row_glyphs, text_rows}
use Rattle.bx_view.specs.Top.{shown_rows}

-- the rows of a text of these characters
abbrev pub rows_under : Base → ℕ → List ℕ → List TextRow
rows_under base w cs = text_rows small base w (encode_utf8_all cs)

abbrev pub rows : ℕ → List ℕ → List TextRow
rows w cs = rows_under Auto w cs

-- the characters of the glyphs of each row, from left to right
abbrev pub pictures : ℕ → List TextRow → List (List ℕ)
pictures w rs = map (λ r. flat_map (λ g. chars g.text) (text_row_glyphs small w r)) rs

-- the characters of `t` visible rows from the offset `top` on
abbrev pub shown : ℕ → ℕ → ℕ → List TextRow → List (List ℕ)
shown w t top rs = pictures w (shown_rows rs top t)

-- the places that moves give one after another
abbrev pub walk : List (ℕ → ℕ) → ℕ → List ℕ
walk [] place = []
walk (move ∷ more) place = let next = move place in next ∷ walk more next

-- each place of a text has one slot in all rows together
abbrev pub has_one_slot_each : ℕ → List TextRow → Bool
has_one_slot_each w rs = let all = flat_map (slots w) rs in list_all (λ p. count_by (λ q. q == p) all == 1) (places rs)
