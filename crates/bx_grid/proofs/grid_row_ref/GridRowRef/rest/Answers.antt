use Rattle.std.proofs.Common.{drop, ap, sym, ◌∙◌}
use Rattle.std.proofs.lemmas.List.{drop-map, take_rest}
use Rattle.bx_grid.specs.Codes.{codes_of}
use Rattle.bx_grid.specs.Seen.{seen, all_seen}
use Rattle.bx_grid.proofs.Coded.{drop_codes}
use Rattle.bx_grid.proofs.grid_row_ref.GridRowRef.rest.Goals as goal

pub new-requires : goal.new-requires
new-requires c =
    let columns = c.self.inside.columns.now in
    let codes = c.self.inside.codes.now in
    take_rest codes c.args.from ∙ drop_codes c.args.from columns codes c.self.invariant
    ∙ ap (λ cs. codes_of (all_seen cs)) (sym (take_rest columns c.args.from))

pub returns : goal.returns
returns c =
    let columns = c.self.inside.columns.now in
    c.new.ensures ∙ ap all_seen (take_rest columns c.args.from) ∙ sym (drop-map seen c.args.from columns) ∙ ap (drop c.args.from) c.self.view_is
