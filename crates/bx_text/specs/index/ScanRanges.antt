-- The part of a text that a scan for paragraphs reads, and the rest of a paragraph after it, whose lengths are known.
-- `ucd` is Unicode's data.
use Rattle.std.specs.Prelude.{◌≡◌, ◌≤◌, ℕ, ◌-◌, List, drop, IsCharBoundary}
use Rattle.bx_ucd.specs.Data.{Data}
use Rattle.bx_text.specs.declared.index.scan_range.ScanRange.{ScanRange}
use Rattle.bx_text.specs.index.Paragraphs.{lengths}
use Rattle.bx_text.specs.index.Ended.{first, further}

-- The range `w` is one to scan for the paragraph that begins at the offset `at`: no separator is between the offset and the range,
-- and the range is followed by the rest of a paragraph, a body of `w.body` bytes and a separator of `w.separator`.
pub record IsScanRange (ucd : Data) (text : List ℕ) (at : ℕ) (w : ScanRange) : Type 0 where
  pub start_bounds : IsCharBoundary text w.start
  pub stop_bounds : IsCharBoundary text w.stop
  pub start_before : at ≤ w.start
  pub goes_on : first (lengths ucd (drop at text)) ≡ further (w.start - at) (first (lengths ucd (drop w.start text)))
  pub behind : first (lengths ucd (drop w.stop text)) ≡ record { body = w.body; separator = w.separator }
