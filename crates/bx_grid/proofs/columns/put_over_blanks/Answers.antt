use Rattle.std.proofs.Common.{◌≡◌, ◌+◌, ◌-◌, ap, arith, replicate, ◌∙◌}
use Rattle.std.proofs.lemmas.Result.{on_err_weaker}
use Rattle.bx_grid.specs.Columns.{blank}
use Rattle.bx_grid.specs.Grid.{paste}
use Rattle.bx_grid.specs.Seen.{all_seen}
use Rattle.bx_grid.proofs.Pasted.{blanked_back}
use Rattle.bx_grid.proofs.columns.put_over_blanks.Goals as goal

pub returns-then-is_err-clause-err : goal.returns-then-is_err-clause-err
returns-then-is_err-clause-err c =
    let half_read = all_seen c.put_glyphs-put.new.columns in
    let count : c.args.from + c.args.run.width - c.args.from ≡ c.args.run.width = omega arith in
    on_err_weaker c.put_glyphs-put.result
    (λ same. c.fill_blank.ensures ∙ ap (λ n. paste half_read c.args.from (replicate n blank)) count
    ∙ blanked_back (all_seen c.args.columns.now) half_read c.args.from c.args.run.width same c.requires.blank)
    c.put_glyphs-put.ensures.err
