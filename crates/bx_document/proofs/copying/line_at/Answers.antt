use Rattle.std.proofs.Common.{◌≡◌, ℕ, ◌+◌, ap, refl, arith}
use Rattle.bx_document.specs.Line.{line_of}
use Rattle.bx_document.specs.Touched.{touched_stop}
use Rattle.bx_document.proofs.LineSpan.{line_range, line_of_span}
use Rattle.bx_document.proofs.TouchedSpan.{span_of_walk, stop_inside, stop_of_walk}
use Rattle.bx_document.proofs.copying.line_at.Goals as goal
use Rattle.bx_document.proofs.copying.line_at.Goals.{After-separator}

reached : (g : _) (c : After-separator g)
    → c.span-span.result.stop + c.separator.result ≡ touched_stop (g.D.BidiData.data c.args.text_ref.now.tables.now) c.args.text_ref.now.text.now.edited.text c.args.offset
reached g c =
    let s = c.args.text_ref.now in
    stop_of_walk (g.D.BidiData.data s.tables.now) s.text.now.edited.text s.index.now.paragraphs s.utf8 s.indexed c.args.offset
    c.walk_at_offset-walk.result (c.span-span.result.start, c.span-span.result.stop) c.separator.result c.walk_at_offset-walk.ensures c.span-span.ensures.span c.separator.ensures

pub overflow_add-result : goal.overflow_add-result
overflow_add-result g c =
    let s = c.args.text_ref.now in
    omega (
      arith,
      reached g ((goal.at.overflow_add-result g c).After-separator),
      stop_inside (g.D.BidiData.data s.tables.now) s.text.now.edited.text s.index.now.paragraphs s.utf8 s.indexed
          c.args.offset c.requires.bounds,
      s.short,
    )

-- the line's two ends
line : (g : _) (c : After-separator g)
    → (c.span-span.result.start, c.span-span.result.stop + c.separator.result)
    ≡ line_of (g.D.BidiData.data c.args.text_ref.now.tables.now) c.args.text_ref.now.text.now.edited.text c.args.offset
line g c =
    let s = c.args.text_ref.now in
    let ucd = g.D.BidiData.data s.tables.now in
    let text = s.text.now.edited.text in
    let ls = s.index.now.paragraphs in
    line_of_span ucd text ls s.utf8 s.indexed c.args.offset _ (c.span-span.result.start, c.span-span.result.stop) (c.span-span.result.stop + c.separator.result) refl
    (span_of_walk ucd text ls s.utf8 s.indexed c.args.offset c.walk_at_offset-walk.result (c.span-span.result.start, c.span-span.result.stop)
    c.walk_at_offset-walk.ensures c.span-span.ensures.span) (reached g c)

pub returns-clause-start : goal.returns-clause-start
returns-clause-start g c = ap (λ (s : ℕ × ℕ). s.0) (line g ((goal.at.returns-clause-start g c).After-separator))

pub returns-clause-stop : goal.returns-clause-stop
returns-clause-stop g c = ap (λ (s : ℕ × ℕ). s.1) (line g ((goal.at.returns-clause-stop g c).After-separator))

pub returns-clause-range : goal.returns-clause-range
returns-clause-range g c =
    let s = c.args.text_ref.now in
    let ucd = g.D.BidiData.data s.tables.now in
    let text = s.text.now.edited.text in
    let ls = s.index.now.paragraphs in
    line_range ucd text ls s.utf8 s.indexed c.args.offset _ (c.span-span.result.start, c.span-span.result.stop) (c.span-span.result.stop + c.separator.result) refl
    (span_of_walk ucd text ls s.utf8 s.indexed c.args.offset c.walk_at_offset-walk.result (c.span-span.result.start, c.span-span.result.stop) c.walk_at_offset-walk.ensures
    c.span-span.ensures.span) (reached g ((goal.at.returns-clause-range g c).After-separator)) c.requires.bounds
