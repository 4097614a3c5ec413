use Rattle.std.proofs.Common.{◌≡◌, ◌-◌, ◌∙◌, drop, ap, sym, subst, arith, IsCharBoundary}
use Rattle.std.proofs.lemmas.Str.{IsCharBoundary-end}
use Rattle.bx_text.specs.index.Paragraphs.{lengths}
use Rattle.bx_text.specs.index.Ended.{first, further}
use Rattle.bx_text.proofs.index_lemmas.Firsts.{further_none, first_at_end}
use Rattle.bx_text.proofs.index.scan_range.range_to_end.Goals as goal

pub returns : goal.returns
returns c = λ ucd.
    let text = c.args.text.now.edited.text in
    let none : 0 ≡ c.args.at - c.args.at = omega arith in
    record {
      start_bounds = c.requires;
      stop_bounds = subst (IsCharBoundary text) (sym c.len.ensures.len) (IsCharBoundary-end text);
      start_before = omega arith;
      goes_on = further_none (first (lengths ucd (drop c.args.at text))) ∙ ap (λ n. further n (first (lengths ucd (drop c.args.at text)))) none;
      behind = first_at_end ucd text c.len.result (omega (arith, c.len.ensures.len));
    }
