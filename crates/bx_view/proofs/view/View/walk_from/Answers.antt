use Rattle.bx_view.proofs.WalkSteps.{along-at, at-begin, at-inside}
use Rattle.bx_view.proofs.view.View.walk_from.Goals as goal

pub walk_at-requires-clause-inside : goal.walk_at-requires-clause-inside
walk_at-requires-clause-inside g c =
    let s = c.args.text_ref.now in
    at-inside (g.D.BidiData.data s.tables.now) s.text.now.edited.text s.index.now.paragraphs s.indexed c.args.at c.requires.row.1.is.paragraph

pub walk_at-requires-clause-begins : goal.walk_at-requires-clause-begins
walk_at-requires-clause-begins g c =
    let s = c.args.text_ref.now in
    at-begin (g.D.BidiData.data s.tables.now) s.text.now.edited.text s.index.now.paragraphs s.indexed c.args.at c.requires.row.1.start_is

pub returns : goal.returns
returns g c = along-at c.args.text_ref.now.indexed c.walk_at.ensures
