-- The nearest in the whole text is the nearest in the rest of it, with the lowest level passed over so far.
use Rattle.std.proofs.Common.{◌≡◌, length}
use denote.Text.{Utf8}
use denote.Shadow.{shadow}
use Rattle.bx_rows.specs.joining.Joining.{joiners}
use Rattle.bx_rows.specs.joining.Nearest.{nearest}
use Rattle.bx_rows.proofs.joining_lemmas.LowestLevels.{nearest_with}
use Rattle.bx_rows.proofs.joining.forms.first_joiner.Given as goal

abbrev pub invariant-loop-c : goal.invariant-loop-c
invariant-loop-c g l = record {
  text : shadow (Utf8 l.rest);
  near : nearest (joiners (g.D.BidiData.data l.tables) l.fn.text l.fn.levels) ≡ nearest_with l.lowest (joiners (g.D.BidiData.data l.tables) l.rest l.left);
}

abbrev pub decreases-loop-c : goal.decreases-loop-c
decreases-loop-c g l = length l.rest
