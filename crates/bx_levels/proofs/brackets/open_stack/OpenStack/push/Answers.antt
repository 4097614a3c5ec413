-- The closer of the new opener is noted no more.
use Rattle.std.proofs.Common.{◌≡◌, ◌∙◌, ◌%◌, [], ◌∷◌, set, reverse, ap, sym, subst, None}
use Rattle.std.proofs.lemmas.List.{reverse-append}
use Rattle.bx_levels.specs.brackets.Search.{AreMissed}
use Rattle.bx_levels.proofs.brackets_lemmas.Missed.{missed_push}
use Rattle.bx_levels.proofs.brackets.open_stack.OpenStack.push.Goals as goal

pub invariant_of-self : goal.invariant_of-self
invariant_of-self c =
    let old = c.self.inside.openers.items in
    let now : reverse c.push.new.self.items ≡ (c.args.index, c.args.closer) ∷ reverse old = ap reverse c.push.ensures.items
    ∙ reverse-append old ((c.args.index, c.args.closer) ∷ []) in
    subst (AreMissed (set c.self.inside.missed (c.args.closer % 31) None)) (sym now)
    (missed_push c.self.inside.missed (reverse old) c.args.index c.args.closer c.self.invariant)
