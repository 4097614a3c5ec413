use Rattle.bx_rows.proofs.EachRow.{part-at, units-are, row-alone}
use Rattle.bx_rows.proofs.lines.Lines.units.Goals as goal

pub most_units-count-requires : goal.most_units-count-requires
most_units-count-requires g c =
    (part-at (g.D.BidiData.data c.args.self.now.tables.now) c.args.self.now.w c.args.self.now.body.now c.args.self.now.starts.now c.args.number _ c.start_of.result c.args.self.now.utf8
    c.args.self.now.rows c.requires c.start_of.ensures).order

pub units_from-requires : goal.units_from-requires
units_from-requires g c =
    (part-at (g.D.BidiData.data c.args.self.now.tables.now) c.args.self.now.w c.args.self.now.body.now c.args.self.now.starts.now c.args.number _ c.start_of.result c.args.self.now.utf8
    c.args.self.now.rows c.requires c.start_of.ensures).boundary

pub returns-clause-units : goal.returns-clause-units
returns-clause-units g c =
    let ucd = g.D.BidiData.data c.args.self.now.tables.now in
    let body = c.args.self.now.body.now in
    let part = part-at ucd c.args.self.now.w body c.args.self.now.starts.now c.args.number _ c.start_of.result c.args.self.now.utf8 c.args.self.now.rows c.requires
    c.start_of.ensures in
    units-are ucd c.args.self.now.w body _ _ c.in_ok-units.units.items _ c.start_of.result c.most_units-count.result part c.most_units-count.ensures
    c.in_ok-units.ensures.units

pub returns-clause-row : goal.returns-clause-row
returns-clause-row g c =
    let ucd = g.D.BidiData.data c.args.self.now.tables.now in
    let body = c.args.self.now.body.now in
    let part = part-at ucd c.args.self.now.w body c.args.self.now.starts.now c.args.number _ c.start_of.result c.args.self.now.utf8 c.args.self.now.rows c.requires
    c.start_of.ensures in
    row-alone ucd c.args.self.now.w body c.args.number c.in_ok-units.units.items
    (units-are ucd c.args.self.now.w body _ _ c.in_ok-units.units.items _ c.start_of.result c.most_units-count.result part c.most_units-count.ensures
    c.in_ok-units.ensures.units)
