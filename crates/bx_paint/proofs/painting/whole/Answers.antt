use Rattle.std.proofs.Common.{◌≡◌, ◌++◌, ap, ◌∙◌}
use Rattle.bx_paint.specs.Painting.{whole_bytes}
use Rattle.bx_paint.proofs.painting.whole.Goals as goal

alone : (c : goal.In_ok-whole_into) → c.whole_into.new.out.items ≡ whole_bytes c.args.picture.now
alone c = c.in_ok-whole_into.ensures.bytes ∙ ap (λ bs. bs ++ whole_bytes c.args.picture.now) c.new-out.ensures.items

pub returns-clause-shows : goal.returns-clause-shows
returns-clause-shows c t idle height width = rw (alone c) (c.whole_into.ensures.shows t idle height width)
