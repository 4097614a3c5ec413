use Rattle.std.proofs.Common.{ap, ◌∙◌, ◌≡◌, ◌-◌, ◌+◌, ◌*◌, length, take, drop, replicate, arith}
use Rattle.std.proofs.lemmas.List.{length-take-le, length-drop}
use Rattle.bx_grid.specs.Columns.{blank, put_in_row}
use Rattle.bx_grid.specs.Seen.{all_seen}
use Rattle.bx_terminal.proofs.Pieces.{row_put}
use Rattle.bx_terminal.proofs.Uncut.{seen_row}
use Rattle.bx_terminal.proofs.columns.erase_at.Goals as goal

pub returns : goal.returns
returns c =
    let s = c.args.row * c.args.width in
    let part = take ((s + c.args.width) - s) (drop s c.args.columns.now) in
    let len : length part ≡ c.args.width =
    omega (arith, length-take-le ((s + c.args.width) - s) (drop s c.args.columns.now) (omega (arith, length-drop s c.args.columns.now, c.requires.rows))) in
    row_put c.args.columns.now c.erase_in_row.new.row c.args.width c.args.row c.args.from (replicate (c.args.width - c.args.from) blank)
    (c.erase_in_row.ensures ∙ ap (λ n. put_in_row (all_seen part) c.args.from (replicate (n - c.args.from) blank)) len)

pub erase_in_row-requires-clause-uncut : goal.erase_in_row-requires-clause-uncut
erase_in_row-requires-clause-uncut c = seen_row c.args.columns.now c.args.width c.args.row c.requires.uncut
