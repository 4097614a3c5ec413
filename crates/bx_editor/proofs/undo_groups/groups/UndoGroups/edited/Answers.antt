use Rattle.std.proofs.Common.{◌≡◌, ◌∙◌, ◌++◌, [], ◌∷◌, ap, subst, sym, rules, List, ℕ}
use Rattle.std.specs.Prelude.{IsOk, if◌then◌else◌}
use Rattle.bx_editor.specs.undo_groups.Groups.{below}
use Rattle.bx_editor.specs.undo_groups.Model.{Rise}
use Rattle.bx_editor.proofs.undo_groups_lemmas.Bisected.{rise-more}
use Rattle.bx_editor.proofs.undo_groups.groups.UndoGroups.edited.Goals as goal

pub invariant_of-self-2 : goal.invariant_of-self-2
invariant_of-self-2 c =
    let xs = c.self.inside.numbers.items in
    let ok : IsOk c.push.result = search rules in
    let cut : List ℕ = c.truncate.new.self.items in
    let kept : cut ≡ below c.args.n xs = search rules in
    let items = c.push.ensures.items ∙ ap (λ b. if b then cut ++ c.args.n ∷ [] else cut) ok ∙ ap (λ (ys : List ℕ). ys ++ c.args.n ∷ []) kept in
    record {
      rise = subst Rise (sym items) (rise-more xs c.args.n c.self.invariant.rise);
      has_room = search rules;
    }
