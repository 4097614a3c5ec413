use Rattle.bx_ucd.proofs.SampleLines.{classes_agree}
use Rattle.bx_ucd.proofs.laws.small_tables_are_read.Goals as goal

pub returns-clause-classes : goal.returns-clause-classes
returns-clause-classes c = classes_agree
