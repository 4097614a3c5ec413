-- Each cut takes off one part.
use Rattle.std.specs.Prelude.{◌==◌}
use Rattle.bx_ucd.proofs.LineLemmas.{more_than_four}
use Rattle.bx_ucd.proofs.parts.cut.Goals as goal

pub returns-in-Some-split_once-3 : goal.returns-in-Some-split_once-3
returns-in-Some-split_once-3 c =
    more_than_four (λ b. b == c.args.separator) _ _ _ _ _ _ _ _ _ c.in-Some.ensures c.in-Some-split_once.ensures c.in-Some-split_once-2.ensures
    c.in-Some-split_once-3.ensures
