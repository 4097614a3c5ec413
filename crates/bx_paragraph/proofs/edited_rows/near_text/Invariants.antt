use Rattle.std.proofs.Common.{◌-◌, length}
use Rattle.bx_paragraph.proofs.edited_rows.near_text.Given as goal

abbrev pub decreases-loop-at : goal.decreases-loop-at
decreases-loop-at l = length l.text - l.at
