use Rattle.std.proofs.Common.{rules}
use Rattle.bx_text.specs.Changes.{IsRange}
use Rattle.bx_text.proofs.ReplacedTwice.{wrap_range}
use Rattle.bx_text.proofs.text.Text.wrap.Goals as goal

pub replace_twice-requires-clause-second : goal.replace_twice-requires-clause-second
replace_twice-requires-clause-second c =
    let range : IsRange c.args.self.now.edited.text c.args.start c.args.stop = search rules in
    wrap_range c.args.self.now.edited.text c.args.back.now c.args.start c.args.stop c.len.ensures.utf8 c.utf8.back range
