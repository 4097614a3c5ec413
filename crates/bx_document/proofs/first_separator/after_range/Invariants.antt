-- What is left tells the same from here on.
use Rattle.std.proofs.Common.{◌≡◌, ℕ, ◌-◌, ◌++◌, List, chars}
use Rattle.std.specs.Prelude.{slice_range}
use Rattle.bx_text.specs.Changes.{IsRange}
use Rattle.bx_document.specs.SeparatorReads.{crlf_from}
use Rattle.bx_document.proofs.first_separator.after_range.Given as goal

abbrev pub invariant-loop-at : goal.invariant-loop-at
invariant-loop-at g l = record {
  range : IsRange l.text.edited.text l.at l.stop;
  same : (rest : List ℕ) → crlf_from (g.D.BidiData.data l.tables) l.fn.before (chars (slice_range l.text.edited.text l.start l.stop) ++ rest)
      ≡ crlf_from (g.D.BidiData.data l.tables) l.seen (chars (slice_range l.text.edited.text l.at l.stop) ++ rest);
}

abbrev pub decreases-loop-at : goal.decreases-loop-at
decreases-loop-at g l = l.stop - l.at
