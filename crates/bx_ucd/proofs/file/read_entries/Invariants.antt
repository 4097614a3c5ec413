use Rattle.std.proofs.Common.{◌≡◌, ◌+◌, ◌≤◌, ◌++◌, length}
use Rattle.bx_ucd.specs.Lines.{lines_by, entries, first_refusal, refusal_from}
use Rattle.bx_ucd.proofs.file.read_entries.Given as goal

abbrev pub invariant-loop-rest : goal.invariant-loop-rest
invariant-loop-rest g l = record {
  refused : first_refusal l.file (lines_by g.E.Entry.line_of l.fn.bytes) ≡ refusal_from l.file (l.number + 1) (lines_by g.E.Entry.line_of l.rest);
  said : entries (lines_by g.E.Entry.line_of l.fn.bytes) ≡ l.entries.items ++ entries (lines_by g.E.Entry.line_of l.rest);
  short : l.number + length l.rest ≤ length l.fn.bytes;
}

abbrev pub decreases-loop-rest : goal.decreases-loop-rest
decreases-loop-rest g l = length l.rest
