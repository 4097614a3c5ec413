-- Commands that get one option after another, and options that get a rule on others.
use Rattle.std.proofs.Common.{◌≡◌, ◌∙◌, ap, ap₂, refl, Bool, true, false, not, is_some, ◌&&◌, List, [], ◌∷◌, ℕ}
use Rattle.std.specs.Borrow.{Bor}
use Rattle.clap.specs.Words.{AddsArg, AddsConflicts, AddsRequirements, App, Rule, app_of, rule_of, with_rule}
use Rattle.clap.specs.Walk.{is_empty, is_simple_arg}
use Rattle.clap.specs.declared.builder.Arg.{Arg}
use Rattle.clap.specs.declared.builder.Command.{Command}
use Rattle.clap.specs.declared.builder.ArgPredicate.{ArgPredicate}
use Rattle.clap.proofs.SimpleLemmas.{is_false, not_empty}
use Rattle.clap.proofs.WalkLemmas.{both}
use Rattle.bx_command.specs.shared.Rules.{bound}

simple_is_local : (arg : Arg) → is_simple_arg arg ≡ true → arg.global ≡ false
simple_is_local arg simple =
    let one = both (is_empty arg.overrides.items) _ simple in
    let two = both (is_empty arg.default_vals_ifs.items) _ one.1 in
    let three = both (is_empty arg.groups.items) _ two.1 in
    let four = both (not (is_some arg.val_delim)) _ three.1 in
    let five = both (not (is_some arg.terminator)) _ four.1 in
    let six = both (not arg.allow_hyphen_values) _ five.1 in
    let seven = both (not arg.allow_negative_numbers) _ six.1 in
    let eight = both (not arg.require_equals) _ seven.1 in
    let nine = both (not arg.last) _ eight.1 in
    is_false arg.global nine.1

-- a command with one more option
pub one_more : (app : App) (old new : Command) (arg : Arg) (rule : Rule) → app_of old ≡ app → AddsArg old arg new → rule_of arg ≡ rule → rule.is_simple ≡ true
    → app_of new ≡ with_rule app rule
one_more app old new arg rule was adds is simple =
    adds.shape (simple_is_local arg (ap (λ (r : Rule). r.is_simple) is ∙ simple)) ∙ ap₂ with_rule was is

third : (a b c d : Bool) → c ≡ false → (a && (b && (c && d))) ≡ false
third true true c d e = ap (λ x. x && d) e
third true false c d e = refl
third false b c d e = refl

second : (a b c : Bool) → b ≡ false → (a && (b && c)) ≡ false
second true b c e = ap (λ x. x && c) e
second false b c e = refl

-- an option that requires another is bound
pub requiring_is_bound : (old new : Arg) (x : ArgPredicate × Bor (List ℕ)) → AddsRequirements old new (x ∷ []) → rule_of new ≡ bound (rule_of old)
requiring_is_bound old new x adds =
    let held : is_empty new.needs.items ≡ false = ap is_empty adds.1 ∙ not_empty old.needs.items x in
    ap rule_of adds.0 ∙ ap (λ free. record (rule_of old) { is_free = free }) (third _ _ _ _ held)

-- and one that excludes another
pub excluding_is_bound : (old new : Arg) (x : Bor (List ℕ)) → AddsConflicts old new (x ∷ []) → rule_of new ≡ bound (rule_of old)
excluding_is_bound old new x adds =
    let held : is_empty new.conflicts.items ≡ false = ap is_empty adds.1 ∙ not_empty old.conflicts.items x in
    ap rule_of adds.0 ∙ ap (λ free. record (rule_of old) { is_free = free }) (second _ _ _ held)
