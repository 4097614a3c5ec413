use Rattle.std.proofs.Common.{inl, inr, refl, sym, ◌∙◌}
use Rattle.bx_terminal.proofs.Pushed.{stays, param_stays, ends_at_final, breaks_at}
use Rattle.bx_terminal.proofs.token.fate_in_sequence.Goals as goal
use Rattle.bx_terminal.proofs.token.fate_in_sequence.Goals.{else-param-via-then-param+else-are_params, else-param-via-else-param}

pub returns-then-is_last : goal.returns-then-is_last
returns-then-is_last c = ends_at_final c.args.body.now c.args.byte c.requires (sym c.is_last.ensures ∙ c.if-is_last.true)

pub returns-then-intermediate : goal.returns-then-intermediate
returns-then-intermediate c = rw (stays c.args.body.now c.args.byte c.requires (sym c.intermediate.ensures ∙ c.if-intermediate.true)) refl

pub returns-then-are_params : goal.returns-then-are_params
returns-then-are_params c = rw
    (param_stays c.args.body.now c.args.byte (sym c.are_params.ensures ∙ c.if-are_params.true) (sym c.param.ensures ∙ c.if-param.true)) refl

pub returns-else-param : goal.returns-else-param
returns-else-param c =
    let f = sym c.is_last.ensures ∙ c.if-is_last.false in
    let i = sym c.intermediate.ensures ∙ c.if-intermediate.false in
    elim c.else-param.branch [
      | else-param-via-then-param+else-are_params w ↦ breaks_at c.args.body.now c.args.byte c.requires f i
          (inr (sym w.are_params.ensures ∙ w.if-are_params.false))
      | else-param-via-else-param w ↦ breaks_at c.args.body.now c.args.byte c.requires f i (inl (sym c.param.ensures ∙ w.if-param.false))
    ]
