use Rattle.std.proofs.Common.{rules, ◌≡◌, ◌∙◌, ℕ, List, min, length, false, Option, IfSome, ap, sym, subst, arith}
use Rattle.std.specs.Prelude.{is_some}
use Rattle.bx_text.specs.declared.change.Change.{Change}
use Rattle.bx_text.specs.Buffers.{bytes_of}
use Rattle.bx_text.specs.Edits.{next_redos, redone_times}
use Rattle.bx_text.specs.Changes.{IsChange}
use Rattle.bx_text.specs.Steps.{HaveTurned, IsTurning, Turning}
use Rattle.bx_text.specs.Text.{TextState, buffers_of}
use Rattle.bx_text.proofs.UndoneTimes.{nothing_redone, redone_all, redos_lead}
use Rattle.bx_text.proofs.text.Text.redo_times.Goals as goal
use Rattle.bx_text.proofs.text.Text.redo_times.Goals.{After-turn_times}

pub returns-then-is_none-clause-ok : goal.returns-then-is_none-clause-ok
returns-then-is_none-clause-ok c =
    let t = c.args.self.now.edited in
    let none : is_some c.next_redos-change.result ≡ false = search rules in
    sym (nothing_redone c.args.n t.text t.past t.future (subst (λ o. is_some o ≡ false) c.next_redos-change.ensures none))

module _ (c : After-turn_times) where
  abbrev old : Turning
  old = record { pieces = c.self.inside.pieces; from = c.self.inside.future.items; to = c.self.inside.past.items }

  abbrev new : Turning
  new = record { pieces = c.turn_times.new.pieces; from = c.turn_times.new.from.items; to = c.turn_times.new.to.items }

  sound : IsTurning (buffers_of c.self.inside) old
  sound = record {
    in_buffers = c.self.invariant.in_buffers;
    short = c.self.invariant.short;
    from_steps = c.self.invariant.future_steps;
    to_steps = c.self.invariant.past_steps;
  }

  turned : HaveTurned c.min-count.result old new
  turned = subst (λ to. HaveTurned c.min-count.result (record { pieces = c.self.inside.pieces; from = c.self.inside.future.items; to = to }) new)
      c.make_room_to_turn.ensures.items c.turn_times.ensures

  all : c.min-count.result ≡ min c.args.n (length c.self.inside.future.items)
  all = omega (arith, c.min-count.ensures, c.len.ensures)

pub returns-clause-ok : goal.returns-clause-ok
returns-clause-ok c =
    let a = (goal.at.returns-clause-ok c).After-turn_times in
    redone_all (buffers_of c.self.inside) (old a) (new a) c.args.n c.min-count.result (sound a) (turned a) (all a)
    ∙ ap (λ (x : TextState). redone_times c.args.n x.edited) c.self.view_is

pub returns-clause-is_change : goal.returns-clause-is_change
returns-clause-is_change c =
    let a = (goal.at.returns-clause-is_change c).After-turn_times in
    let after : List ℕ = bytes_of (buffers_of c.self.inside) c.turn_times.new.pieces in
    subst (λ (o : Option Change). IfSome o (λ d. IsChange c.args.self.now.edited.text d after)) (sym c.next_redos-change.ensures)
    (subst (λ (x : TextState). IfSome (next_redos c.args.n x.edited) (λ d. IsChange x.edited.text d after)) c.self.view_is
    (redos_lead (buffers_of c.self.inside) (old a) (new a) c.args.n c.min-count.result (sound a) (turned a) (all a)))
