use Rattle.std.proofs.Common.{◌≡◌, ◌+◌, subst, sym, arith}
use Rattle.bx_text.specs.Changes.{IsRange}
use Rattle.bx_document.specs.Touched.{touched_stop}
use Rattle.bx_document.proofs.TouchedSpan.{stop_inside, stop_of_walk, stop_range}
use Rattle.bx_document.proofs.touched.stop_after.Goals as goal
use Rattle.bx_document.proofs.touched.stop_after.Goals.{After-separator}

reached : (g : _) (c : After-separator g)
    → c.span.result.stop + c.separator.result ≡ touched_stop (g.D.BidiData.data c.args.text_ref.now.tables.now) c.args.text_ref.now.text.now.edited.text c.args.stop
reached g c =
    let s = c.args.text_ref.now in
    stop_of_walk (g.D.BidiData.data s.tables.now) s.text.now.edited.text s.index.now.paragraphs s.utf8 s.indexed c.args.stop
    c.walk_at_offset-walk.result (c.span.result.start, c.span.result.stop) c.separator.result c.walk_at_offset-walk.ensures c.span.ensures.span c.separator.ensures

pub overflow_add-result : goal.overflow_add-result
overflow_add-result g c =
    let s = c.args.text_ref.now in
    omega (
      arith,
      reached g ((goal.at.overflow_add-result g c).After-separator),
      stop_inside (g.D.BidiData.data s.tables.now) s.text.now.edited.text s.index.now.paragraphs s.utf8 s.indexed
          c.args.stop c.requires.bounds,
      s.short,
    )

pub returns-clause-stop : goal.returns-clause-stop
returns-clause-stop g c = reached g ((goal.at.returns-clause-stop g c).After-separator)

pub returns-clause-range : goal.returns-clause-range
returns-clause-range g c =
    let s = c.args.text_ref.now in
    subst (IsRange s.text.now.edited.text c.args.stop) (sym (reached g ((goal.at.returns-clause-range g c).After-separator)))
    (stop_range (g.D.BidiData.data s.tables.now) s.text.now.edited.text s.index.now.paragraphs s.utf8 s.indexed
    c.args.stop c.requires.bounds)
