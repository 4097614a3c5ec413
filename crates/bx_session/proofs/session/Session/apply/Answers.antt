use Rattle.std.proofs.Common.{◌∙◌, sym}
use Rattle.bx_ucd.specs.Data.{Data}
use Rattle.bx_session.specs.Feeding.{known_if}
use Rattle.bx_session.proofs.KeySizes.{still_fits}
use Rattle.bx_session.proofs.session.Session.apply.Goals as goal

pub invariant_of-self-else-ended : goal.invariant_of-self-else-ended
invariant_of-self-else-ended g c =
    let ucd : g.row.D.Denot → Data = g.D.BidiData.data in
    let old = c.self.inside in (
      c.self.invariant.0,
      still_fits (ucd old.editor.tables) c.args.fault (known_if old.is_known old.painted) old.editor.editor c.apply.new.self.editor c.args.key
          (sym c.asks_for_whole.ensures ∙ c.if-asks_for_whole.false) c.in-Ok.ensures.ok c.self.invariant.1,
    )
