-- No accepted line gives a control as a mirror.
use Rattle.std.proofs.Common.{sym, ◌∙◌}
use Rattle.bx_ucd.proofs.LawLemmas.{no_mirror_is_control}
use Rattle.bx_ucd.proofs.tables.Tables.read.Goals as goal

pub invariant_of-result : goal.invariant_of-result
invariant_of-result c = record {
  no_control = λ code m is. no_mirror_is_control c.args.mirroring.now code m (sym (c.in_ok-read_mirrors.ensures.answers code) ∙ is);
}
