use Rattle.std.proofs.Common.{◌≡◌, ◌<◌, length, All}
use Rattle.bx_command.specs.Lines.{start_of_line}
use Rattle.memchr.specs.Find.{Passes, is_byte}
use Rattle.bx_command.proofs.Starts.{last_start}
use Rattle.bx_command.proofs.line.start_of_line.Given as goal

abbrev pub invariant-loop-left : goal.invariant-loop-left
invariant-loop-left l =
    (last_start l.feeds l.start l.left ≡ start_of_line l.text l.line) ×
    All (λ k. (k < length l.text) × Passes (is_byte 0x0a) l.text k) l.feeds

abbrev pub decreases-loop-left : goal.decreases-loop-left
decreases-loop-left l = l.left
