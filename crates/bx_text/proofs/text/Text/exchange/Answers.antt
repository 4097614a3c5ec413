use Rattle.std.proofs.Common.{rules, []}
use Rattle.std.specs.Str.{IsCharBoundary}
use Rattle.bx_text.specs.Edits.{splice}
use Rattle.bx_text.specs.Changes.{IsRange}
use Rattle.bx_text.proofs.Without.{none-at}
use Rattle.bx_text.proofs.text.Text.exchange.Goals as goal

pub replace_twice-requires-clause-second : goal.replace_twice-requires-clause-second
replace_twice-requires-clause-second c =
    let text = c.args.self.now.edited.text in
    let range : IsRange text c.args.start c.args.stop = search rules in
    let bound : IsCharBoundary (splice text c.args.start c.args.stop []) c.args.at = search rules in
    none-at text c.args.start c.args.stop c.args.at range.in_order bound
