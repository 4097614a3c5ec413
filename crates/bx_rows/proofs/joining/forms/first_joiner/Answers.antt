use Rattle.std.proofs.Common.{sym, ap, ◌∙◌}
use Rattle.bx_rows.proofs.joining_lemmas.LowestLevels.{nearest_with}
use Rattle.bx_rows.proofs.joining_lemmas.Nearest.{no_joiners}
use Rattle.bx_rows.proofs.joining.forms.first_joiner.Goals as goal

pub returns : goal.returns
returns g c =
    let ucd = g.D.BidiData.data c.args.tables.now in
    sym (c.loop-c.invariant.near ∙ ap (nearest_with c.loop-c.lowest) (no_joiners ucd c.loop-c.rest.now c.loop-c.left.now c.in_default.ensures))
