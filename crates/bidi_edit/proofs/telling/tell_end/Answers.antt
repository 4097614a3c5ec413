use Rattle.std.proofs.Common.{sym, subst, ◌∙◌}
use Rattle.std.specs.Io.KnownBytes.{Appends}
use Rattle.std.proofs.lemmas.Result.{on_ok_weaker}
use Rattle.bx_bytes.specs.Writing.{WritesFront}
use Rattle.bidi_edit.proofs.Frames.{word_told}
use Rattle.bidi_edit.proofs.telling.tell_end.Goals as goal

pub returns-in-Some-clause-all : goal.returns-in-Some-clause-all
returns-in-Some-clause-all g c =
    on_ok_weaker c.write_frame.result
    (subst (Appends (g.W.Write.contents c.args.errors.now) (g.W.Write.contents c.write_frame.new.writer))
    (word_told _ c.in-Some.end c.word.result.now (sym c.end_of.ensures ∙ c.in-Some.is) c.word.ensures)) c.write_frame.ensures.all

pub returns-in-Some-clause-front : goal.returns-in-Some-clause-front
returns-in-Some-clause-front g c =
    subst (λ bytes. WritesFront bytes (g.W.Write.contents c.args.errors.now) (g.W.Write.contents c.write_frame.new.writer))
    (word_told _ c.in-Some.end c.word.result.now (sym c.end_of.ensures ∙ c.in-Some.is) c.word.ensures) c.write_frame.ensures.front
