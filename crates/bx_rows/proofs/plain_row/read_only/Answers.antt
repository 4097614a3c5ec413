use Rattle.std.proofs.Common.{subst}
use Rattle.bx_rows.specs.LevelReads.{Reads}
use Rattle.bx_rows.proofs.plain_row.read_only.Goals as goal

pub returns-clause-levels : goal.returns-clause-levels
returns-clause-levels c =
    subst (λ xs. Reads c.args.paragraph c.args.class xs c.args.waiting c.read_class.new.found.items c.read_class.result) c.in_ok-push.ensures.items
    c.read_class.ensures.levels
