use Rattle.bx_levels.proofs.resolve_lemmas.LeftTexts.{left_under_auto, left_under_ltr, left_under_rtl}
use Rattle.bx_levels.proofs.resolve.laws.left_texts_are_flat.Goals as goal

pub returns-clause-auto : goal.returns-clause-auto
returns-clause-auto c = left_under_auto

pub returns-clause-ltr : goal.returns-clause-ltr
returns-clause-ltr c = left_under_ltr

pub returns-clause-rtl : goal.returns-clause-rtl
returns-clause-rtl c = left_under_rtl
