use Rattle.bx_rows.proofs.Permutes.{visual-permutes}
use Rattle.bx_rows_laws.proofs.laws.orders_are_permutations.Goals as goal

pub returns : goal.returns
returns c = visual-permutes
