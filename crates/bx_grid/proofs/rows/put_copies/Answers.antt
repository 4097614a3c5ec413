use Rattle.std.proofs.Common.{◌≡◌, ◌+◌, ◌-◌, ap, arith, length, replicate, ◌∙◌}
use Rattle.std.proofs.lemmas.List.{length-replicate}
use Rattle.std.proofs.lemmas.Result.{on_err_weaker}
use Rattle.bx_grid.specs.Columns.{blank}
use Rattle.bx_grid.specs.Grid.{paste}
use Rattle.bx_grid.specs.Seen.{all_seen}
use Rattle.bx_grid.proofs.Pasted.{pasted_around}
use Rattle.bx_grid.proofs.rows.put_copies.Goals as goal

pub returns-then-is_err-clause-err : goal.returns-then-is_err-clause-err
returns-then-is_err-clause-err c =
    let some = all_seen c.copy_over-copied.new.columns in
    let n = length c.args.others.now in
    let count : c.args.from + n - c.args.from ≡ n = omega arith in
    on_err_weaker c.copy_over-copied.result
    (λ same. c.fill_blank.ensures ∙ ap (λ m. paste some c.args.from (replicate m blank)) count
    ∙ pasted_around (all_seen c.args.columns.now) some (replicate n blank) c.args.from n same (length-replicate n blank))
    c.copy_over-copied.ensures.err
