use Rattle.std.proofs.Common.{◌≡◌, ◌∙◌, ap, chars, sym}
use Rattle.std.specs.Prelude.{encode_utf8_all, string_bytes}
use Rattle.std.proofs.lemmas.Iterator.{YieldsList-from_chars}
use Rattle.std.proofs.lemmas.Iterator.Consumers.{YieldsList-end}
use Rattle.std.proofs.lemmas.List.{map-id}
use Rattle.bx_document.proofs.ShownName.{is-letter, kept, shown-more}
use Rattle.bx_document.proofs.document.Document.shown_name.Goals as goal

pub loop-c-preserved-then-not-separates : goal.loop-c-preserved-then-not-separates
loop-c-preserved-then-not-separates g c =
    let d = g.D.BidiData.data c.args.self.now.tables in
    let letter = is-letter d c.in-Some.c c.if-c-ne9.true (sym c.separates.ensures ∙ c.if-not-separates.true) in
    shown-more d c.loop-c.yielded c.in-Some.c (string_bytes c.loop-c.shown) (string_bytes c.push.new.self)
    letter c.loop-c.invariant c.in_ok-push.ensures.bytes

pub returns : goal.returns
returns g c =
    let d = g.D.BidiData.data c.args.self.now.tables in
    let name = c.args.name.now in
    let t = YieldsList-end (YieldsList-from_chars name c.utf8.name cc) c.loop-c.yielded _ c.loop-c.yielded_by _ _ c.in-None.is c.next.ensures.steps in
    let all : c.loop-c.yielded ≡ chars name = sym (map-id c.loop-c.yielded) ∙ t.0 in
    c.loop-c.invariant ∙ ap (λ cs. encode_utf8_all (kept d cs)) all
