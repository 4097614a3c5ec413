-- The match ends where the rest of the text says that it ends.
use Rattle.std.proofs.Common.{◌≡◌, ◌≤◌, ◌-◌, chars, drop, length, IsCharBoundary}
use Rattle.bx_find.specs.Matches.{match_end, behind_letters}
use Rattle.bx_find.proofs.spans.match_end.Given as goal

abbrev pub invariant-loop-next : goal.invariant-loop-next
invariant-loop-next g l = record {
  bounds : IsCharBoundary (g.H.Haystack.text l.haystack) l.next;
  order : l.at ≤ l.next;
  end : match_end (g.D.BidiData.data l.sought.tables.now) l.sought.reading l.sought.query.now (g.H.Haystack.text l.haystack) l.at
      ≡ behind_letters (g.D.BidiData.data l.sought.tables.now) l.sought.reading l.left l.next (chars (drop l.next (g.H.Haystack.text l.haystack)));
}

abbrev pub decreases-loop-next : goal.decreases-loop-next
decreases-loop-next g l = length (g.H.Haystack.text l.haystack) - l.next
