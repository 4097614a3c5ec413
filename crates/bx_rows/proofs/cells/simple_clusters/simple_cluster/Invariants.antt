-- A cluster is open.
use Rattle.std.proofs.Common.{◌≤◌, length}
use denote.Text.{Utf8}
use denote.Shadow.{shadow}
use Rattle.bx_rows.proofs.cells_lemmas.OpenCluster.{IsOpen}
use Rattle.bx_rows.proofs.cells.simple_clusters.simple_cluster.Given as goal

abbrev pub invariant-loop-c : goal.invariant-loop-c
invariant-loop-c l = record {
  text : shadow (Utf8 l.rest);
  cluster : IsOpen l.body l.at l.first l.is_marked l.rest;
  within : length l.rest ≤ length l.body;
}

abbrev pub decreases-loop-c : goal.decreases-loop-c
decreases-loop-c l = length l.rest
