use Rattle.bidi_edit.proofs.Edited.{opened_first}
use Rattle.bidi_edit.proofs.edit.open_session.Goals as goal

pub returns-in_err-session-clause-refused : goal.returns-in_err-session-clause-refused
returns-in_err-session-clause-refused c =
    opened_first c.args.beginning c.from_residual.result c.in_err-session.field-0.0 c.from_residual.ensures.1 c.in_err-session.ensures.refused
