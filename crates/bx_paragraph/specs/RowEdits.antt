-- Rows before an edit that stay, and rows after it that meet the old ones: a row found in the edited text begins where an old row began, as
-- seen from the edit's end, and from there on all rows are the old ones. Offsets count bytes.
use Rattle.std.specs.Prelude.{◌≡◌, ◌<◌, ◌≤◌, ◌+◌, ◌-◌, ◌^◌, ℕ, List, length, slice_index_or}
use Rattle.bx_rows.specs.declared.start_search.RowStart.{RowStart}

-- the start of a body
abbrev pub origin : RowStart
origin = record { offset = 0; units = 0; chars = 0 }

-- row `k` begins more than `w` units before a row that begins before `offset`, so what is at `offset` and after it does not change the
-- starts up to row `k`
pub record IsWellBefore (w offset : ℕ) (starts : List RowStart) (k : ℕ) : Type 0 where
  pub inside : k < length starts
  pub row : ℕ
  pub row_inside : row < length starts
  pub begins : (slice_index_or starts row origin).offset < offset
  pub ahead : (slice_index_or starts k origin).units + w < (slice_index_or starts row origin).units

-- the row `new` begins as far after `shift` in one text as the row `old` after `stop` in another
pub record IsSamePlace (shift stop : ℕ) (new old : RowStart) : Type 0 where
  pub behind_shift : shift ≤ new.offset
  pub behind_stop : stop ≤ old.offset
  pub same : new.offset - shift ≡ old.offset - stop

-- the found row `i`, at most row `last`, begins at the same place as the old row `k`
pub record DoMeet (shift stop : ℕ) (found starts : List RowStart) (last i k : ℕ) : Type 0 where
  pub found_inside : i ≤ last
  pub old_inside : k < length starts
  pub place : IsSamePlace shift stop (slice_index_or found i origin) (slice_index_or starts k origin)

-- found and old rows that meet, the found ones more than a window's width before the end of the first `len` bytes
pub record DoMeetNear (w len shift stop : ℕ) (found starts : List RowStart) (i k : ℕ) : Type 0 where
  pub last : ℕ
  pub well : IsWellBefore w len found last
  pub meet : DoMeet shift stop found starts last i k

-- the numbers of a row's start fit a machine word
abbrev pub HasRoom : RowStart → Type 0
HasRoom s = (s.offset < 2 ^ 64) × (s.units < 2 ^ 64) × (s.chars < 2 ^ 64)
