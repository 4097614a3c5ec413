-- The part of the row read so far.
use Rattle.std.proofs.Common.{◌≤◌, length, drop}
use denote.Text.{Utf8}
use denote.Shadow.{shadow}
use Rattle.bx_rows.proofs.PlainRows.{IsReadTo}
use Rattle.bx_rows.proofs.lines.Lines.plain_row.Given as goal

abbrev pub invariant-loop-left : goal.invariant-loop-left
invariant-loop-left g l = record {
  text : shadow (Utf8 l.rest);
  few : length l.glyphs.items ≤ l.count;
  read : IsReadTo (g.D.BidiData.data l.self.tables.now) l.self.w l.self.levels.now.paragraph l.self.body.now l.fn.start.offset (drop l.fn.start.chars l.self.levels.now.each.items) l.glyphs.items
      l.found.items l.waiting l.left l.rest;
}

abbrev pub decreases-loop-left : goal.decreases-loop-left
decreases-loop-left g l = length l.rest
