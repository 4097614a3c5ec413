use Rattle.std.proofs.Common.{◌≡◌, chars, drop, length, reverse, subst, sym, take, IsUtf8, ap, ap₂, ◌∙◌, arith}
use Rattle.bx_rows.specs.joining.Joining.{form_if, joiners, joins_after, joins_before}
use Rattle.bx_rows.proofs.joining_lemmas.FormsAt.{form_here, isolated_end, isolated_past}
use Rattle.bx_rows.proofs.joining.forms.form_at.Goals as goal

pub returns-in_default : goal.returns-in_default
returns-in_default g c =
    let ucd = g.D.BidiData.data c.args.tables.now in
    let at = c.args.at in
    let back : c.split_at.result.1.now ≡ drop at.offset at.body.text.now = c.split_at.ensures.back ∙ ap (drop at.offset) c.text.ensures in
    sym (isolated_end ucd at.body.text.now at.body.each.now at.offset at.number c.requires.number (ap length (sym back) ∙ c.in_default.ensures))

pub returns-in_default-split_at_checked : goal.returns-in_default-split_at_checked
returns-in_default-split_at_checked g c =
    let ucd = g.D.BidiData.data c.args.tables.now in
    let at = c.args.at in
    sym (isolated_past ucd at.body.text.now at.body.each.now at.number (omega (arith, c.in_default-split_at_checked.ensures.cases)))

pub returns-in_default-split_first : goal.returns-in_default-split_first
returns-in_default-split_first g c =
    let ucd = g.D.BidiData.data c.args.tables.now in
    let at = c.args.at in
    sym (isolated_past ucd at.body.text.now at.body.each.now at.number
    (omega (arith, c.in_default-split_first.ensures.cases, c.in-Some-split_at_checked.ensures.cases.4)))

pub returns : goal.returns
returns g c =
    let ucd = g.D.BidiData.data c.args.tables.now in
    let at = c.args.at in
    let body = at.body.text.now in
    let each = at.body.each.now in
    let behind = c.in-Some.behind.now in
    let level = c.in-Some-split_first.level.now in
    let after = c.in-Some-split_first.after.now in
    let cut = c.in-Some-split_at_checked.ensures.cases in
    let front : c.split_at.result.0.now ≡ take at.offset body = c.split_at.ensures.front ∙ ap (take at.offset) c.text.ensures in
    let back : c.split_at.result.1.now ≡ drop at.offset body = c.split_at.ensures.back ∙ ap (drop at.offset) c.text.ensures in
    let here = form_here ucd body each at.offset at.number c.in-Some.c level behind after (subst IsUtf8 c.text.ensures c.text.utf8) c.requires.boundary
    c.requires.number (ap chars (sym back) ∙ c.in-Some.ensures.2) cut.0 (sym cut.2 ∙ c.in-Some-split_first.ensures.cases.0) in
    c.form_if.ensures
    ∙ ap₂ form_if
    (c.joins_before.ensures
    ∙ ap₂ (λ ts ls. joins_before (reverse (joiners ucd ts ls)) (c.joining.result, c.get.result)) front cut.1
    ∙ ap₂ (λ j o. joins_before (reverse (joiners ucd (take at.offset body) (take at.number each))) (j, o)) c.joining.ensures c.get.ensures)
    (c.joins_after.ensures ∙ ap₂ (λ j o. joins_after (j, o) (joiners ucd behind after)) c.joining.ensures c.get.ensures)
    ∙ sym here
