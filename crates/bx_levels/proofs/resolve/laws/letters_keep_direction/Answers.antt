use Rattle.bx_levels.proofs.resolve_lemmas.DirectionsAt.{types_keep_direction}
use Rattle.bx_levels.proofs.resolve_lemmas.OverrideLevels.{letters_keep_direction, overrides_give_direction}
use Rattle.bx_levels.proofs.resolve.laws.letters_keep_direction.Goals as goal

pub returns-clause-types : goal.returns-clause-types
returns-clause-types c = types_keep_direction

pub returns-clause-letters : goal.returns-clause-letters
returns-clause-letters c = letters_keep_direction

pub returns-clause-overrides : goal.returns-clause-overrides
returns-clause-overrides c = overrides_give_direction
