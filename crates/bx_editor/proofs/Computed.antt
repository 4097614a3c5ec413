-- An editor computed with the small tables.
use Rattle.std.proofs.Common.{ℕ, false, List, [], ◌∷◌, map}
use Rattle.std.specs.Prelude.{None, encode_utf8_all}
use Rattle.bx_ucd.specs.SmallTables.{small}
use Rattle.bx_common.specs.declared.base.Base.TheVariants.{Auto}
use Rattle.bx_keys.specs.declared.key.Key.{Key}
use Rattle.bx_keys.specs.declared.key.Key.TheVariants.{Insert}
use Rattle.bx_grid.specs.Columns.{Col, Glyph}
use Rattle.bx_grid.specs.Picture.{PictureState}
use Rattle.bx_ucd.specs.Data.{Data}
use Rattle.bx_editor.specs.Editor.{Editor, at_start}
use Rattle.bx_editor.specs.Functions.{after_keys}
use Rattle.bx_editor.specs.Picture.{picture, next_top}

abbrev pub tables : Data
tables = small

-- an editor of a text of these characters, and after keys; each Save succeeds
abbrev pub start : List ℕ → ℕ → ℕ → Editor
start cs height width = at_start (encode_utf8_all cs) height width Auto

abbrev pub after : Editor → List Key → Editor
after e keys = after_keys tables None e keys

abbrev pub letters : List ℕ → List Key
letters cs = map Insert cs

-- its picture, scrolled from the offset `top`
abbrev pub shown : Editor → ℕ → PictureState
shown e top = picture tables e (next_top tables e top)

-- columns of characters that are one glyph each
abbrev pub ascii_columns : List ℕ → List Col
ascii_columns text = map (λ b. Glyph (b ∷ []) 1 0 false) text
