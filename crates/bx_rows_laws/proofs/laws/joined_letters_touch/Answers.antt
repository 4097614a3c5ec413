use Rattle.bx_rows_laws.proofs.TouchingLetters.{joined-touch, letters-keep-levels}
use Rattle.bx_rows_laws.proofs.TouchingPictures.{pictures-touch}
use Rattle.bx_rows_laws.proofs.TouchingUnits.{equal-odd-touch}
use Rattle.bx_rows_laws.proofs.laws.joined_letters_touch.Goals as goal

pub returns-clause-units : goal.returns-clause-units
returns-clause-units c = equal-odd-touch

pub returns-clause-letters : goal.returns-clause-letters
returns-clause-letters c = joined-touch

pub returns-clause-levels : goal.returns-clause-levels
returns-clause-levels c = letters-keep-levels

pub returns-clause-pictures : goal.returns-clause-pictures
returns-clause-pictures c = pictures-touch
