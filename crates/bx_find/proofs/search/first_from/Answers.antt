use Rattle.bx_find.proofs.Boundaries.{first_from_bound}
use Rattle.bx_find.proofs.search.first_from.Goals as goal

pub returns-clause-boundary : goal.returns-clause-boundary
returns-clause-boundary g c =
    first_from_bound (g.D.BidiData.data c.args.tables.now) c.args.reading c.args.query.now (g.H.Haystack.text c.args.haystack.now) c.args.x
    c.first_match.ensures.utf8 c.first_match.result c.first_match.ensures.found
