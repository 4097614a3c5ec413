-- Fewer openers meet no more closers, and one that met none is noted.
use Rattle.std.proofs.Common.{◌≡◌, ◌∙◌, reverse, take, ap, sym, subst}
use Rattle.std.specs.Prelude.{find}
use Rattle.bx_levels.specs.brackets.Search.{AreMissed, below_first, is_for}
use Rattle.bx_levels.proofs.brackets_lemmas.Missed.{missed_below, missed_more}
use Rattle.bx_levels.proofs.brackets.open_stack.OpenStack.close.Goals as goal

pub invariant_of-self : goal.invariant_of-self
invariant_of-self c =
    let old = c.self.inside.openers.items in
    let closes = is_for c.args.closer in
    let lent : c.deref.result.now ≡ old = c.deref.ensures.0 in
    let now : reverse c.truncate.new.self.items ≡ below_first closes (reverse old) =
    ap reverse c.truncate.ensures.items ∙ ap (λ xs. reverse (take c.in-Some.k xs)) (sym lent) ∙ sym c.in-Some.ensures.left
    ∙ ap (λ xs. below_first closes (reverse xs)) lent in
    subst (AreMissed c.self.inside.missed) (sym now) (missed_below c.self.inside.missed (reverse old) closes c.self.invariant)

pub invariant_of-self-in-None : goal.invariant_of-self-in-None
invariant_of-self-in-None c =
    let old = c.self.inside.openers.items in
    let none = ap (λ xs. find (is_for c.args.closer) (reverse xs)) (sym c.deref.ensures.0) ∙ c.in-None.ensures.found in
    missed_more c.self.inside.missed (reverse old) c.args.closer c.self.invariant none
