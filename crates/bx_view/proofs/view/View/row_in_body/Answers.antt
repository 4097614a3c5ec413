use Rattle.bx_view.proofs.CachedRows.{row-in-body}
use Rattle.bx_view.proofs.view.View.row_in_body.Goals as goal

pub returns : goal.returns
returns g c = λ n on.
    let s = c.args.text_ref.now in
    row-in-body (g.D.BidiData.data s.tables.now) c.args.self.now s.text.now.edited.text c.args.at n
    c.paragraph-paragraph.result.now s.utf8 on c.paragraph-paragraph.ensures c.body.result.now c.body.ensures
