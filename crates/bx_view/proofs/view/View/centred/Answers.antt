use Rattle.bx_view.proofs.view.View.centred.Goals as goal

pub row_to_fill-requires-clause-row : goal.row_to_fill-requires-clause-row
row_to_fill-requires-clause-row g c = (_, c.in_ok-above.ensures.row _ c.in_ok-own.ensures.row)

pub first_in-requires-2 : goal.first_in-requires-2
first_in-requires-2 g c = record { row = (_, c.in_ok-there.ensures.row _ (c.in_ok-above.ensures.row _ c.in_ok-own.ensures.row)) }
