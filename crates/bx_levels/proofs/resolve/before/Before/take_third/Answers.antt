-- W4 keeps a type that is no separator.
use Rattle.std.proofs.Common.{◌≡◌, ◌∙◌, List, ap, sym, false}
use Rattle.bx_ucd.specs.declared.class.Class.{Class}
use Rattle.bx_levels.specs.declared.resolve.before.Before.{Before}
use Rattle.bx_levels.specs.declared.resolve.before.Neighbour.{Neighbour}
use Rattle.bx_levels.specs.resolve.Weak.{beside}
use Rattle.bx_levels.specs.resolve.Turns.{is_separator, neighbour_of, next_fourth, thirds, written_fourth}
use Rattle.bx_levels.proofs.resolve_lemmas.Fused.{no_separator}
use Rattle.bx_levels.proofs.resolve.before.Before.take_third.Goals as goal

pub returns-clause-written : goal.returns-clause-written
returns-clause-written c =
    let old : Before = c.args.self.now in
    let behind : List Class = thirds old c.args.rest.now in
    let other : is_separator c.args.t ≡ false = sym c.is_separator.ensures ∙ c.if-is_separator.false in
    c.take_fourth.ensures.written ∙ ap (λ f. written_fourth old f behind) (sym (no_separator c.args.t old.neighbour (beside behind) other))

pub returns-clause-next : goal.returns-clause-next
returns-clause-next c =
    let old : Before = c.args.self.now in
    let behind : List Class = thirds old c.args.rest.now in
    let other : is_separator c.args.t ≡ false = sym c.is_separator.ensures ∙ c.if-is_separator.false in
    c.take_fourth.ensures.next
    ∙ ap (λ (n : Neighbour). next_fourth (record old { neighbour = n }) c.args.t behind) c.neighbour_of-self.ensures
    ∙ ap (λ f. next_fourth (record old { neighbour = neighbour_of c.args.t }) f behind)
    (sym (no_separator c.args.t old.neighbour (beside behind) other))
