use Rattle.std.proofs.Common.{take, ap, subst}
use Rattle.std.specs.Io.KnownBytes.{Appends}
use Rattle.std.proofs.KnownBytes.{Appends-trans}
use Rattle.std.proofs.lemmas.Result.{on_ok_weaker}
use Rattle.bx_bytes.specs.Writing.{WritesFront}
use Rattle.bidi_edit.specs.Ending.{frame}
use Rattle.bidi_edit.proofs.Frames.{behind_head, cut_is, in_head}
use Rattle.bidi_edit.proofs.telling.write_frame.Goals as goal

pub returns-in_err-write_all-clause-front : goal.returns-in_err-write_all-clause-front
returns-in_err-write_all-clause-front g c =
    let bytes = take c.min.result c.as_bytes.result.now in
    let told : WritesFront (frame c.args.letter bytes) (g.W.Write.contents c.args.writer.now) (g.W.Write.contents c.write_all.new.writer) =
    in_head _ bytes _ _ c.in_err-write_all.ensures.front in
    subst (λ xs. WritesFront (frame c.args.letter xs) (g.W.Write.contents c.args.writer.now) (g.W.Write.contents c.write_all.new.writer))
    (cut_is c.as_bytes.result.now c.args.text.now c.min.result c.as_bytes.ensures.value c.min.ensures) told

pub returns-clause-all : goal.returns-clause-all
returns-clause-all g c =
    on_ok_weaker c.write_all-2.result
    (λ rest. subst (Appends (g.W.Write.contents c.args.writer.now) (g.W.Write.contents c.write_all-2.new.writer))
    (ap (frame c.args.letter) (cut_is c.as_bytes.result.now c.args.text.now c.min.result c.as_bytes.ensures.value c.min.ensures))
    (Appends-trans _ _ _ _ _ c.in_ok-write_all.ensures.all rest)) c.write_all-2.ensures.all

pub returns-clause-front : goal.returns-clause-front
returns-clause-front g c =
    let bytes = take c.min.result c.as_bytes.result.now in
    let told : WritesFront (frame c.args.letter bytes) (g.W.Write.contents c.args.writer.now) (g.W.Write.contents c.write_all-2.new.writer) =
    behind_head _ bytes _ _ _ c.in_ok-write_all.ensures.all c.write_all-2.ensures.front in
    subst (λ xs. WritesFront (frame c.args.letter xs) (g.W.Write.contents c.args.writer.now) (g.W.Write.contents c.write_all-2.new.writer))
    (cut_is c.as_bytes.result.now c.args.text.now c.min.result c.as_bytes.ensures.value c.min.ensures) told
