-- `==` of two blocks decides whether they are equal.
use Rattle.std.proofs.Common.{◌≡◌, rules, sym, ap, ◌∙◌, get_or, [], below_more}
use Rattle.std.specs.Bool.{Decides}
use Rattle.std.proofs.lemmas.Slice.Eq.{slice_eq-Decides}
use denote.Enum.Bare.{same_true, true_same}
use Rattle.bx_ucd.specs.contracts.class.Class.{the_type}
use Rattle.bx_ucd.specs.contracts.class.ClassPartialEq.TheImpl.{eq-value}
use Rattle.bx_ucd.specs.declared.class.Class.{Class}
use Rattle.bx_ucd.proofs.class_table.number_of.Goals as goal

class_eq-Decides : (a b : Class) → Decides (eq-value.it a b) (a ≡ b)
class_eq-Decides a b = (λ is. same_true the_type (search rules) a b is, λ e. true_same the_type a b e)

pub returns-then-eq-clause-found : goal.returns-then-eq-clause-found
returns-then-eq-clause-found c =
    let same = slice_eq-Decides class_eq-Decides (get_or c.deref-block-items.result.now c.loop-number.number []) c.args.classes c.eq.result c.eq.ensures in
    ap (λ xs. get_or xs c.loop-number.number []) (sym c.deref-block-items.ensures.value) ∙ same.0 c.if-eq.true

pub loop-number-preserved : goal.loop-number-preserved
loop-number-preserved c =
    let same =
    slice_eq-Decides class_eq-Decides (get_or c.deref-block-items.result.now c.loop-number.number []) c.args.classes c.eq.result c.eq.ensures in
    below_more _ _ c.loop-number.invariant (λ is. cc (c.if-eq.false, same.1 is))
