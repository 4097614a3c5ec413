-- What was read of the first line.
use Rattle.std.proofs.Common.{length}
use denote.Text.{Utf8}
use denote.Shadow.{shadow}
use Rattle.bx_editor.proofs.FirstLine.{Reads}
use Rattle.bx_editor.proofs.input_line.first_line_len.Given as goal

abbrev pub invariant-loop-c : goal.invariant-loop-c
invariant-loop-c g l = record {
  text : shadow (Utf8 l.rest);
  read : Reads (g.D.BidiData.data l.document.tables) l.text l.rest;
}

abbrev pub decreases-loop-c : goal.decreases-loop-c
decreases-loop-c g l = length l.rest
