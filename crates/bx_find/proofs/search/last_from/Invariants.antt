-- The last is the last of those to come, or the one so far.
use Rattle.std.proofs.Common.{◌≡◌, ◌<◌, ◌-◌, chars, drop, length, IsCharBoundary}
use Rattle.bx_find.specs.Prefix.{to_come}
use Rattle.bx_find.specs.Matches.{last_below}
use Rattle.bx_find.specs.Parts.{last_from}
use Rattle.bx_find.proofs.search.last_from.Given as goal

abbrev pub invariant-loop-at : goal.invariant-loop-at
invariant-loop-at g l = record {
  bounds : IsCharBoundary (g.H.Haystack.text l.haystack) l.at;
  fewer : length l.prefix < length l.sought.query.now;
  before : l.latest.before ≡ length (g.H.Haystack.text l.haystack);
  last : last_from (g.D.BidiData.data l.sought.tables.now) l.sought.reading l.sought.query.now (g.H.Haystack.text l.haystack) l.x
      ≡ last_below (length (g.H.Haystack.text l.haystack)) l.latest.found (to_come (g.D.BidiData.data l.sought.tables.now) l.sought.reading l.sought.query.now l.prefix
      l.at (chars (drop l.at (g.H.Haystack.text l.haystack))));
}

abbrev pub decreases-loop-at : goal.decreases-loop-at
decreases-loop-at g l = length (g.H.Haystack.text l.haystack) - l.at
