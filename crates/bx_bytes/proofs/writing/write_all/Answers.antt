use Rattle.std.proofs.Common.{◌-◌, length, take, drop, subst}
use Rattle.std.specs.Io.KnownBytes.{Appends}
use Rattle.std.proofs.KnownBytes.{Appends-trans, Appends-kept}
use Rattle.bx_bytes.proofs.Fronts.{front, within_more, written_more}
use Rattle.bx_bytes.proofs.writing.write_all.Goals as goal

pub loop-preserved : goal.loop-preserved
loop-preserved g c =
    let bytes = c.args.bytes.now in
    let w = c.loop.written in (
      within_more bytes w c.in-Ok.count c.loop.invariant.0 c.in-Ok.ensures.bound,
      subst (Appends (g.W.Write.contents c.args.writer.now) (g.W.Write.contents c.write_once.new.writer)) (written_more bytes w c.in-Ok.count)
          (Appends-trans _ _ _ (take w bytes) (take c.in-Ok.count (take (length bytes - w) (drop w bytes))) c.loop.invariant.1 c.in-Ok.ensures.bytes),
    )

pub returns-in_default-clause-front : goal.returns-in_default-clause-front
returns-in_default-clause-front g c =
    front c.args.bytes.now _ _ c.loop.written (Appends-kept _ _ _ (take c.loop.written c.args.bytes.now) c.loop.invariant.1 c.in_default.ensures.bytes)

pub returns-clause-front : goal.returns-clause-front
returns-clause-front g c = front c.args.bytes.now _ _ c.loop.written c.loop.invariant.1
