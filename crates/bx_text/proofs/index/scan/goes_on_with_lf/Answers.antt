use Rattle.std.proofs.Common.{◌≡◌, ◌<◌, length, false, true, sym, arith}
use Rattle.std.proofs.lemmas.Bool.Decides.{nat_tests}
use Rattle.bx_text.proofs.index_lemmas.Scans.{lf_in_text, no_lf_at_end}
use Rattle.bx_text.proofs.index.scan.goes_on_with_lf.Goals as goal

pub returns-in-None : goal.returns-in-None
returns-in-None g c =
    let past : ¬ (c.args.at < length c.args.text.now.edited.text) = λ l. let f : false ≡ true = c.in-None.ensures.there.1 (c.requires, l) in absurd (cc) in
    sym (no_lf_at_end (g.D.BidiData.data c.args.tables.now) c.args.text.now.edited.text c.args.at (omega (arith, past)))

pub returns-then-as_bytes-eq10 : goal.returns-then-as_bytes-eq10
returns-then-as_bytes-eq10 g c =
    let e = lf_in_text (g.D.BidiData.data c.args.tables.now) c.args.text.now.edited.text c.in-Some.piece.now c.args.at c.in-Some.ensures.utf8 c.requires
    c.in-Some.ensures.bytes c.in-Some.ensures.not_empty in
    grind (arith, nat_tests)

pub returns-else-as_bytes-eq10 : goal.returns-else-as_bytes-eq10
returns-else-as_bytes-eq10 g c =
    let e = lf_in_text (g.D.BidiData.data c.args.tables.now) c.args.text.now.edited.text c.in-Some.piece.now c.args.at c.in-Some.ensures.utf8 c.requires
    c.in-Some.ensures.bytes c.in-Some.ensures.not_empty in
    grind (arith, nat_tests)
