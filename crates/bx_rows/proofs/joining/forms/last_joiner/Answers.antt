use Rattle.std.proofs.Common.{◌≡◌, false, true, rules, Some, reverse, sym, ap, ap₂, ◌∙◌}
use Rattle.bx_rows.specs.joining.Joining.{is_transparent, joiners}
use Rattle.bx_rows.specs.joining.Nearest.{lower_of}
use Rattle.bx_rows.proofs.joining_lemmas.LowestLevels.{nearest_found, nearest_passed, nearest_with}
use Rattle.bx_rows.proofs.joining_lemmas.Nearest.{last_count, last_joiners, no_joiners}
use Rattle.bx_rows.proofs.joining.forms.last_joiner.Goals as goal

pub returns-then-not-is_transparent : goal.returns-then-not-is_transparent
returns-then-not-is_transparent g c =
    let ucd = g.D.BidiData.data c.args.tables.now in
    let before = c.in-Some.before.now in
    let earlier = c.in-Some-split_last.earlier.now in
    let level = c.in-Some-split_last.level.now in
    let last = last_joiners ucd c.loop-c.rest.now before c.in-Some.c c.loop-c.left.now earlier level c.in-Some.ensures.2 c.in-Some-split_last.ensures.cases.0 c.loop-c.invariant.count in
    let opaque : is_transparent (ucd.joining c.in-Some.c) ≡ false = search rules in
    ap₂ (λ j o. Some ((j, o), c.loop-c.lowest)) c.joining-joining.ensures c.get.ensures
    ∙ sym (c.loop-c.invariant.near ∙ ap (nearest_with c.loop-c.lowest) last
    ∙ nearest_found c.loop-c.lowest (ucd.joining c.in-Some.c, level) (reverse (joiners ucd before earlier)) opaque)

pub loop-c-preserved : goal.loop-c-preserved
loop-c-preserved g c =
    let ucd = g.D.BidiData.data c.args.tables.now in
    let before = c.in-Some.before.now in
    let earlier = c.in-Some-split_last.earlier.now in
    let level = c.in-Some-split_last.level.now in
    let last = last_joiners ucd c.loop-c.rest.now before c.in-Some.c c.loop-c.left.now earlier level c.in-Some.ensures.2 c.in-Some-split_last.ensures.cases.0 c.loop-c.invariant.count in
    let transparent : is_transparent (ucd.joining c.in-Some.c) ≡ true = search rules in
    let lower : c.lower_of-lowest.result ≡ lower_of c.loop-c.lowest level = c.lower_of-lowest.ensures ∙ ap (lower_of c.loop-c.lowest) c.get-in-Some.ensures in
    record {
      text = c.in-Some.ensures.3;
      count = last_count c.loop-c.rest.now before c.in-Some.c c.loop-c.left.now earlier level c.in-Some.ensures.2 c.in-Some-split_last.ensures.cases.0 c.loop-c.invariant.count;
      near = c.loop-c.invariant.near ∙ ap (nearest_with c.loop-c.lowest) last
          ∙ nearest_passed c.loop-c.lowest (ucd.joining c.in-Some.c, level) (reverse (joiners ucd before earlier)) transparent
          ∙ ap (λ l. nearest_with l (reverse (joiners ucd before earlier))) (sym lower);
    }

pub returns : goal.returns
returns g c =
    let ucd = g.D.BidiData.data c.args.tables.now in
    sym (c.loop-c.invariant.near ∙ ap (λ js. nearest_with c.loop-c.lowest (reverse js)) (no_joiners ucd c.loop-c.rest.now c.loop-c.left.now c.in_default.ensures))
