-- A law of the rows of two bodies with a common start.
use Rattle.std.specs.Prelude.{◌≡◌, ◌≤◌, ◌<◌, ◌+◌, ℕ, List, Some, slice_get, take}
use Rattle.std.specs.Str.{IsCharBoundary, IsUtf8}
use Rattle.bx_ucd.specs.Data.{Data}
use Rattle.bx_rows.specs.declared.start_search.RowStart.{RowStart}
use Rattle.bx_rows.specs.RowStarts.{row_starts}

-- If two bodies are equal up to an offset after the start `e` of row `q` of the old one, and its row `k`, which begins at `s`, begins more
-- than `w` units before row `q`, the starts of the rows up to row `k` are equal.
abbrev pub RowsBeforeStay : Type 0
RowsBeforeStay = (ucd : Data) (w : ℕ) (old new : List ℕ) (offset k q : ℕ) (s e : RowStart) → 1 ≤ w → IsUtf8 old → IsUtf8 new
    → IsCharBoundary old offset → IsCharBoundary new offset → take offset old ≡ take offset new → slice_get (row_starts ucd w old) k ≡ Some s
    → slice_get (row_starts ucd w old) q ≡ Some e → e.offset < offset → s.units + w < e.units
    → take (k + 1) (row_starts ucd w new) ≡ take (k + 1) (row_starts ucd w old)
