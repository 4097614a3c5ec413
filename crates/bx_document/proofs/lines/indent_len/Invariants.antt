-- The bytes up to `len` are blanks and tabs.
use Rattle.std.proofs.Common.{◌≡◌, ◌+◌, ◌-◌, drop, length}
use Rattle.std.specs.List.{prefix_len}
use Rattle.std.specs.Str.{IsCharBoundary}
use Rattle.bx_document.specs.Line.{is_indent}
use Rattle.bx_document.proofs.lines.indent_len.Given as goal

abbrev pub invariant-loop-len : goal.invariant-loop-len
invariant-loop-len l = record {
  bound : IsCharBoundary l.text l.len;
  same : prefix_len is_indent l.text ≡ l.len + prefix_len is_indent (drop l.len l.text);
}

abbrev pub decreases-loop-len : goal.decreases-loop-len
decreases-loop-len l = length l.text - l.len
