use Rattle.std.proofs.Common.{sym, arith}
use Rattle.bx_keys.proofs.Sides.{no_sides}
use Rattle.bx_keys.proofs.meaning.sides_key.Goals as goal

pub returns-in_default-clause-value : goal.returns-in_default-clause-value
returns-in_default-clause-value c = sym (no_sides c.args.between.now (λ long second. omega arith))

pub returns-in_default-2-clause-value : goal.returns-in_default-2-clause-value
returns-in_default-2-clause-value c = sym (no_sides c.args.between.now (λ long second. omega arith))
