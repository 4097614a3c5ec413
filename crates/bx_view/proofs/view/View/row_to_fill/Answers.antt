use Rattle.std.proofs.Common.{length, subst}
use Rattle.bx_view.specs.FoundRow.{StandsOn, rows_by}
use Rattle.bx_view.proofs.MovedTops.{filled-row}
use Rattle.bx_view.proofs.view.View.row_to_fill.Goals as goal

pub rows_up-requires : goal.rows_up-requires
rows_up-requires g c = let row = c.requires.row in record { row = (_, c.in_ok-last.ensures.row row.0 row.1) }

pub returns-clause-row : goal.returns-clause-row
returns-clause-row g c = λ n on.
    let ucd = g.D.BidiData.data c.args.text_ref.now.tables.now in
    let text = c.args.text_ref.now.text.now.edited.text in
    subst (StandsOn ucd c.rows_up.new.view text c.in_ok-there.there) (filled-row (length (rows_by ucd c.args.self.now text)) c.args.t n c.requires.some)
    (c.in_ok-there.ensures.row _ (c.in_ok-last.ensures.row n on))
