use Rattle.std.proofs.Common.{◌≡◌, ◌∙◌, chars, subst, sym}
use Rattle.std.proofs.lemmas.Iterator.{YieldsList-from_chars}
use Rattle.std.proofs.lemmas.Iterator.Consumers.{YieldsList-end}
use Rattle.std.proofs.lemmas.List.{map-id}
use Rattle.bx_rows.specs.joining.JoinedText.{AreFormless}
use Rattle.bx_rows.proofs.joining.forms.has_forms.Goals as goal

pub returns : goal.returns
returns g c _ =
    let text = c.args.text.now in
    let t = YieldsList-end (YieldsList-from_chars text c.utf8.text cc) c.loop-c.yielded _ c.loop-c.yielded_by _ _ c.in-None.is c.next.ensures.steps in
    let all : c.loop-c.yielded ≡ chars text = sym (map-id c.loop-c.yielded) ∙ t.0 in
    subst (AreFormless (g.D.BidiData.data c.args.tables.now)) all c.loop-c.invariant
