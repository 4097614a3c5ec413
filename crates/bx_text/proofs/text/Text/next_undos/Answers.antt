use Rattle.std.proofs.Common.{ap, sym, subst, ◌∙◌, map, reverse, take}
use Rattle.std.specs.List.{reduce}
use Rattle.bx_text.specs.declared.step.Way.TheVariants.{Back}
use Rattle.bx_text.specs.Steps.{Apply, step_change}
use Rattle.bx_text.specs.Text.{TextState, buffers_of, bytes_in}
use Rattle.bx_text.specs.Edits.{merged, next_undos}
use Rattle.bx_text.proofs.Bytes.{IsUtf8-bytes_of}
use Rattle.bx_text.proofs.UndoneTimes.{past_changes}
use Rattle.bx_text.proofs.text.Text.next_undos.Goals as goal

pub change_of_last-requires : goal.change_of_last-requires
change_of_last-requires c =
    let t = c.self.inside in
    subst Apply (sym c.deref.ensures.value) (record {
      buffers = buffers_of t;
      text = bytes_in t;
      utf8 = IsUtf8-bytes_of (buffers_of t) t.pieces c.self.invariant.in_buffers;
      short = c.self.invariant.short;
      applied = c.self.invariant.past_steps;
    })

pub returns : goal.returns
returns c =
    let t = c.self.inside in
    c.change_of_last.ensures
    ∙ ap (λ ss. reduce merged (map (step_change Back) (take c.args.n (reverse ss)))) c.deref.ensures.value
    ∙ ap (reduce merged) (past_changes (buffers_of t) c.args.n (bytes_in t) (reverse t.past.items))
    ∙ ap (λ (s : TextState). next_undos c.args.n s.edited) c.self.view_is
