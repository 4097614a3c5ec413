use Rattle.std.proofs.Common.{subst, sym}
use Rattle.std.specs.Io.KnownBytes.{Appends}
use Rattle.std.proofs.KnownBytes.{Appends-kept}
use Rattle.std.proofs.Math.Seq.{take-length}
use Rattle.bx_session.proofs.journal.write_out.Goals as goal

pub returns-in-Err-flush-clause-part : goal.returns-in-Err-flush-clause-part
returns-in-Err-flush-clause-part g c =
    let bytes = c.args.bytes.now in
    subst (Appends (g.W.Write.contents c.args.writer.now) (g.W.Write.contents c.flush.new.self)) (sym (take-length bytes))
    (Appends-kept _ _ _ bytes c.in_default.ensures.all c.in-Err-flush.ensures.bytes)
