use Rattle.std.proofs.Common.{◌∙◌, IsUtf8, ap, arith, length, subst, sym}
use Rattle.bx_common.specs.Characters.{is_side}
use Rattle.bx_view.proofs.CachedRows.{high-fits, of-row}
use Rattle.bx_view.proofs.Numbers.{body-utf8}
use Rattle.bx_view.proofs.view.View.row.Goals as goal

pub invariant_of-result : goal.invariant_of-result
invariant_of-result g c =
    let s = c.args.text_ref.now in
    let ucd = g.D.BidiData.data s.tables.now in
    let text = s.text.now.edited.text in
    let l = c.paragraph-paragraph.result.now in
    let is = c.paragraph-paragraph.ensures in
    let on = c.requires.row.1 in
    let high = high-fits ucd c.args.self.now text c.args.at c.requires.row.0 l s.utf8 on is in
    record {
      by = is.by;
      within = omega (arith, on.is.row, is.count_is);
      sound = record {
        side = ap is_side is.w_is ∙ is.side;
        utf8 = subst IsUtf8 (sym is.body_is) (body-utf8 ucd text c.args.at.paragraph on.is.paragraph s.utf8);
      };
      fits = omega (arith, high, ap length is.body_is, s.short);
    }

pub returns-clause-row : goal.returns-clause-row
returns-clause-row g c = λ n on.
    let s = c.args.text_ref.now in
    of-row (g.D.BidiData.data s.tables.now) c.args.self.now s.text.now.edited.text c.args.at n c.paragraph-paragraph.result.now s.utf8 on
    c.paragraph-paragraph.ensures (λ r. r)
