use Rattle.bx_rows_laws.proofs.JoinedColumns.{rows_stay, texts_alone}
use Rattle.bx_rows_laws.proofs.LetterForms.{letters_show_forms}
use Rattle.bx_rows_laws.proofs.laws.forms_change_texts_alone.Goals as goal

pub returns-clause-alone : goal.returns-clause-alone
returns-clause-alone c = texts_alone

pub returns-clause-formless : goal.returns-clause-formless
returns-clause-formless c = rows_stay

pub returns-clause-letters : goal.returns-clause-letters
returns-clause-letters c = letters_show_forms
