use Rattle.std.proofs.Common.{◌∙◌, ap, find, length, nat_le, sym, unwrap_or, arith}
use Rattle.bx_view.specs.Words.{word_starts}
use Rattle.bx_view.proofs.WordParts.{none-left}
use Rattle.bx_view.proofs.moves.words.first_start.Goals as goal

pub returns : goal.returns
returns g c =
    let ucd = g.D.BidiData.data c.args.tables.now in
    let body = c.args.body.now in
    let l = c.loop-at in
    sym (ap (λ x. unwrap_or x (length body)) (l.invariant.same
    ∙ ap (λ us. find (nat_le c.args.from) (word_starts ucd l.second l.first l.at us)) (none-left body l.at (omega (arith, c.loop-at-test.false)))))
