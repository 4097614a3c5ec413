-- A cluster is open, and the run has the units before it.
use Rattle.std.proofs.Common.{◌≤◌, ◌<◌, ℕ, length}
use denote.Text.{Utf8}
use denote.Shadow.{shadow}
use Rattle.bx_rows.specs.NarrowRuns.{IsNarrowRun, IsRunIn}
use Rattle.bx_rows.proofs.NarrowSteps.{HasOpen}
use Rattle.bx_rows.proofs.narrow_run.narrow_run.Given as goal

abbrev pub invariant-loop-c : goal.invariant-loop-c
invariant-loop-c g l = record {
  text : shadow (Utf8 l.rest);
  cluster : HasOpen (g.D.BidiData.data l.tables) l.body l.run.stop l.is_break l.rest;
  within : length l.rest ≤ length l.body;
  most : l.run.count < l.most;
  bounds : IsRunIn l.body l.at l.run;
  units : (w : ℕ) → IsNarrowRun (g.D.BidiData.data l.tables) w l.body l.at l.run;
}

abbrev pub decreases-loop-c : goal.decreases-loop-c
decreases-loop-c g l = length l.rest
