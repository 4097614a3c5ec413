use Rattle.std.proofs.Common.{◌≡◌, ◌++◌, take}
use Rattle.std.specs.Prelude.{flat_map}
use Rattle.bx_paragraph.specs.Layout.{rows_by}
use Rattle.bx_print.specs.BodyLines.{body_line}
use Rattle.bx_print.proofs.paragraph.push_rows.Given as goal

abbrev pub invariant-loop-row : goal.invariant-loop-row
invariant-loop-row g l =
    let ucd = g.D.BidiData.data l.tables in
    l.page.items ≡ l.fn.page.items
    ++ flat_map (body_line ucd l.placeholders l.layout.w) (take l.row (rows_by ucd l.layout))
