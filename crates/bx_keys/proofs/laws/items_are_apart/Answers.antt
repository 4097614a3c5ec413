use Rattle.std.proofs.Common.{refl}
use Rattle.bx_bytes.proofs.Patterns.{begins_by_more, none_begins_longer}
use Rattle.bx_keys.specs.Items.{items}
use Rattle.bx_keys.proofs.laws.items_are_apart.Goals as goal

pub returns-clause-beginnings : goal.returns-clause-beginnings
returns-clause-beginnings c = begins_by_more items refl

pub returns-clause-none_longer : goal.returns-clause-none_longer
returns-clause-none_longer c = none_begins_longer items refl
