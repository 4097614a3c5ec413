use Rattle.std.proofs.Common.{◌≡◌, ◌++◌, slice_range, string_bytes}
use Rattle.bx_text.proofs.text.Text.copy_range.Given as goal

abbrev pub invariant-loop-slice : goal.invariant-loop-slice
invariant-loop-slice l = string_bytes l.copy ++ l.slice-iterator ≡ slice_range l.self.edited.text l.start l.stop
