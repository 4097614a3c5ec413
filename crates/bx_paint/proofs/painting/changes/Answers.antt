use Rattle.std.proofs.Common.{◌≡◌, ◌++◌, ap, ◌∙◌}
use Rattle.bx_grid.specs.Effects.{effects}
use Rattle.bx_paint.specs.Painting.{changes_bytes}
use Rattle.bx_paint.proofs.painting.changes.Goals as goal

alone : (c : goal.In_ok-changes_into) → c.changes_into.new.out.items ≡ changes_bytes c.args.old.now c.args.new.now
alone c = c.in_ok-changes_into.ensures.bytes ∙ ap (λ bs. bs ++ changes_bytes c.args.old.now c.args.new.now) c.in_ok-out.ensures.items

pub returns-clause-shows : goal.returns-clause-shows
returns-clause-shows c t h = rw (alone c) (c.changes_into.ensures.shows t h)

pub returns-clause-sends : goal.returns-clause-sends
returns-clause-sends c t h = ap (effects t) (alone c) ∙ c.changes_into.ensures.sends t h

pub returns-clause-nothing : goal.returns-clause-nothing
returns-clause-nothing c same = alone c ∙ c.changes_into.ensures.nothing same
