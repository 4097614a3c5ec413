-- The places of one body, by its rows. Offsets count bytes of the body.
use Rattle.std.specs.Prelude.{ℕ, nat_le, List, find, flat_map, unwrap_or}
use Rattle.bx_paragraph.specs.BodyRows.{BodyRow, last_offset, offsets_of}

-- the places of a body in order: the start of each unit, and the body's end
abbrev pub body_places : List BodyRow → List ℕ
body_places rows = flat_map offsets_of rows

-- the first place of the body at or after an offset; the last place, if there is none
abbrev pub place_in_body : List BodyRow → ℕ → ℕ
place_in_body rows offset = unwrap_or (find (nat_le offset) (body_places rows)) (last_offset (body_places rows))
