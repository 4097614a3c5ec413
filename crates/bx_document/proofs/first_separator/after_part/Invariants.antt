-- What is left tells the same from here on.
use Rattle.std.proofs.Common.{◌≡◌, ℕ, ◌++◌, List, chars, length}
use denote.Shadow.{shadow}
use denote.Text.{Utf8}
use Rattle.bx_document.specs.SeparatorReads.{crlf_from}
use Rattle.bx_document.proofs.first_separator.after_part.Given as goal

abbrev pub invariant-loop-c : goal.invariant-loop-c
invariant-loop-c g l = record {
  same : (rest : List ℕ)
      → crlf_from (g.D.BidiData.data l.tables) l.fn.before (chars l.fn.part ++ rest) ≡ crlf_from (g.D.BidiData.data l.tables) l.seen (chars l.left ++ rest);
  utf8 : shadow (Utf8 l.left);
}

abbrev pub decreases-loop-c : goal.decreases-loop-c
decreases-loop-c g l = length l.left
