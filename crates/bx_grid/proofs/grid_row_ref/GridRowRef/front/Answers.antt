use Rattle.std.proofs.Common.{take, ap, sym, ◌∙◌}
use Rattle.std.proofs.lemmas.List.{take-map}
use Rattle.bx_grid.specs.Seen.{seen, all_seen}
use Rattle.bx_grid.proofs.Coded.{take_codes, take_min}
use Rattle.bx_grid.proofs.grid_row_ref.GridRowRef.front.Goals as goal

pub new-requires : goal.new-requires
new-requires c = take_codes c.min-end.result c.self.inside.columns.now c.self.inside.codes.now c.self.invariant

pub returns : goal.returns
returns c =
    let columns = c.self.inside.columns.now in
    c.new.ensures ∙ ap (λ n. all_seen (take n columns)) c.min-end.ensures ∙ ap all_seen (take_min c.args.count columns)
    ∙ sym (take-map seen c.args.count columns) ∙ ap (take c.args.count) c.self.view_is
