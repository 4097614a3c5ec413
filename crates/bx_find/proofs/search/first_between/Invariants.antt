-- The first, if it is before x, is the first of those to come.
use Rattle.std.proofs.Common.{◌≡◌, ◌<◌, ◌-◌, chars, drop, length, IsCharBoundary}
use Rattle.std.specs.Prelude.{slice_get}
use Rattle.bx_find.specs.Prefix.{to_come}
use Rattle.bx_find.specs.Parts.{first_between, if_below}
use Rattle.bx_find.proofs.search.first_between.Given as goal

abbrev pub invariant-loop-at : goal.invariant-loop-at
invariant-loop-at g l = record {
  bounds : IsCharBoundary (g.H.Haystack.text l.haystack) l.at;
  fewer : length l.prefix < length l.sought.query.now;
  first : first_between (g.D.BidiData.data l.sought.tables.now) l.sought.reading l.sought.query.now (g.H.Haystack.text l.haystack) l.start l.stop
      ≡ if_below l.stop (slice_get (to_come (g.D.BidiData.data l.sought.tables.now) l.sought.reading l.sought.query.now l.prefix l.at (chars (drop l.at (g.H.Haystack.text l.haystack)))) 0);
}

abbrev pub decreases-loop-at : goal.decreases-loop-at
decreases-loop-at g l = length (g.H.Haystack.text l.haystack) - l.at
