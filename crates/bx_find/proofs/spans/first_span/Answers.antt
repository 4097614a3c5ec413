use Rattle.std.proofs.Common.{ℕ, ◌∷◌, ◌∙◌, ap, sym, arith}
use Rattle.bx_find.specs.Matches.{spans_from}
use Rattle.bx_find.proofs.SpansOf.{span_found, none_found}
use Rattle.bx_find.proofs.spans.first_span.Goals as goal

pub match_end-requires : goal.match_end-requires
match_end-requires g c =
    (span_found (g.D.BidiData.data c.args.tables.now) c.args.reading c.args.query.now (g.H.Haystack.text c.args.haystack.now)
    c.first_match.ensures.utf8 c.args.x c.in-Some.at c.in-Some.ensures.found).0.is_match.0

pub returns-in-None-clause-spans : goal.returns-in-None-clause-spans
returns-in-None-clause-spans g c =
    none_found (g.D.BidiData.data c.args.tables.now) c.args.reading c.args.query.now (g.H.Haystack.text c.args.haystack.now)
    c.first_match.ensures.utf8 c.args.x c.in-None.ensures.found

pub returns-in-Some-clause-spans : goal.returns-in-Some-clause-spans
returns-in-Some-clause-spans g c =
    let ucd = g.D.BidiData.data c.args.tables.now in
    let text = g.H.Haystack.text c.args.haystack.now in
    let next = (span_found ucd c.args.reading c.args.query.now text c.first_match.ensures.utf8 c.args.x c.in-Some.at c.in-Some.ensures.found).1 in
    next.1
    ∙ ap (λ (end : ℕ). (c.in-Some.at, end) ∷ spans_from ucd c.args.reading c.args.query.now text end) (sym c.match_end.ensures.value)

pub returns-in-Some-clause-bounds : goal.returns-in-Some-clause-bounds
returns-in-Some-clause-bounds g c = (
  (span_found (g.D.BidiData.data c.args.tables.now) c.args.reading c.args.query.now (g.H.Haystack.text c.args.haystack.now)
      c.first_match.ensures.utf8 c.args.x c.in-Some.at c.in-Some.ensures.found).0.is_match.0,
  c.match_end.ensures.boundary,
)

pub returns-in-Some-clause-onward : goal.returns-in-Some-clause-onward
returns-in-Some-clause-onward g c =
    let both = span_found (g.D.BidiData.data c.args.tables.now) c.args.reading c.args.query.now (g.H.Haystack.text c.args.haystack.now)
    c.first_match.ensures.utf8 c.args.x c.in-Some.at c.in-Some.ensures.found in
    (both.0.not_before, omega (arith, both.1.0, c.match_end.ensures.value))
