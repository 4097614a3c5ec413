use Rattle.std.proofs.Common.{IsUtf8, refl, subst, sym}
use Rattle.std.proofs.lemmas.Option.{IfSome_then}
use Rattle.std.proofs.lemmas.Str.{IsUtf8-encode}
use Rattle.bx_rows.proofs.MirroredLetters.{single-face}
use Rattle.bx_rows.proofs.mirrors.fixed_text.Goals as goal

pub returns-clause-face : goal.returns-clause-face
returns-clause-face g c =
    IfSome_then c.text_of.result c.text_of.ensures
    (λ t e. single-face (g.D.BidiData.data c.args.tables.now) c.args.w t.now c.args.c (subst IsUtf8 (sym e) (IsUtf8-encode c.args.c c.ranges.c.0)) e
    (c.if-not-is_narrow.ensures.begin refl) (c.if-not-is_narrow.ensures.face refl))
